-- What is kept of a world, by the parts that keep it.
use Rattle.sl_world_state.specs.KeptWorld.{KeptState}
use Rattle.sl_machine.specs.Machines.{machine_state}
use Rattle.sl_machine.specs.declared.kept_world.Kept.{Kept}
use Rattle.sl_machine.specs.declared.machine.Machine.{Machine}
use Rattle.std.specs.Vec.{vec_len}
use Rattle.sl_run.specs.Locks.{Locks}
use Rattle.std.specs.Prelude.{None, Option, Some, if◌then◌else◌, map, nat_lt, reverse, slice_get, ℕ, ◌-◌, ◌==◌, ◌≡◌}

unfoldable pub kept_state : {L : Type 0} → (L → Locks) → Kept L → KeptState
kept_state locks k =
    record {
      header = k.disks.header;
      moment = k.moment;
      machines = map (machine_state locks) k.machines.items;
      disks = k.disks.sectors;
      names = reverse k.names.keys;
    }

-- The place of machine m among so many.
abbrev pub place_in : ℕ → ℕ → Option ℕ
place_in count m = if m == 0 then None else (if nat_lt (m - 1) count then Some (m - 1) else None)

-- It holds of machine m, if there is one.
pub record AtMachine {L : Type 0} (P : Machine L → Type 0) (k : Kept L) (m : ℕ) : Type 0 where
  pub at : (i : ℕ) (a : Machine L) → place_in (vec_len k.machines) m ≡ Some i → slice_get k.machines.items i ≡ Some a → P a
