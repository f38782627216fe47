-- Logical volumes: none is active on two machines unless both share it.
use Rattle.sl_run.specs.LockNames.{group_path}
use Rattle.sl_run.specs.Lvm.{lock_process}
use Rattle.sl_run.specs.Worlds.{Machine, World, machine_at}
use Rattle.sl_trace.specs.Traces.{same_place}
use Rattle.sl_trace.specs.declared.effects.Grant.{Grant}
use Rattle.sl_trace.specs.declared.effects.Mode.TheVariants.{Shared}
use Rattle.sl_trace.specs.declared.effects.Mode.{Mode}
use Rattle.std.specs.Prelude.{Contains, IsTrue, List, Some, ℕ, ◌*◌, ◌≡◌}

-- A logical volume of a group is active on a machine in a mode, under the number of its area: lvmlockd's process holds its lock. That is
-- so from the ok reply of an `activate` until a `deactivate` ends the holding, whatever that line is answered, lvmlockd exits, or the
-- machine is reset.
abbrev pub IsActiveVolume : World → Machine → List ℕ → ℕ → Mode → Type 0
IsActiveVolume w a group number mode =
    (g : Grant) × Contains a.holdings g × (g.process ≡ lock_process)
    × IsTrue (same_place g.path g.offset (group_path group) (number * w.layout.area)) × (g.mode ≡ mode)

-- Of two machines on which one is active, both have it shared.
abbrev pub VolumesAreExclusive : World → Type 0
VolumesAreExclusive w =
    (m k : ℕ) (a b : Machine) (group : List ℕ) (number : ℕ) (mode other : Mode) → machine_at w m ≡ Some a → machine_at w k ≡ Some b → (m ≡ k → ⊥) →
    IsActiveVolume w a group number mode → IsActiveVolume w b group number other → (mode ≡ Shared) × (other ≡ Shared)
