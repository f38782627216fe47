-- The machines at moment 0.
use Rattle.sl_area.specs.AreaSizes.{Layout, layout_with}
use Rattle.sl_words.proofs.Options.{not_some}
use Rattle.sl_run.specs.Worlds.{Machine, Program, machine_at, machine_of_header, world_with}
use Rattle.sl_run.specs.declared.header.Header.{Header}
use Rattle.sl_run_law.proofs.MachineWalk.{index}
use Rattle.sl_run_law.specs.Beginnings.{IsNew}
use Rattle.sl_run_law.specs.ClocksDrift.{IsCounted}
use Rattle.sl_words.proofs.CaseLaws.{none_some, some_value, true_is_false}
use Rattle.std.proofs.Common.{ap, refl, subst}
use Rattle.std.specs.List.{range_with_len}
use Rattle.std.specs.Prelude.{Some, length, map, slice_get, suc, zero, ℕ, ◌+◌, ◌-◌, ◌≡◌}

new_machine : (p : Program) (g : Layout) (h : Header) (m : ℕ) → IsNew (machine_of_header p g h m)
unfolding machine_of_header
new_machine p g h m =
    record {
      settled = record { down = λ e. absurd (true_is_false e); unused = λ e. not_some _ e };
      calls = refl;
    }

counted : (f : ℕ → Machine) (k n : ℕ) → length (map f (range_with_len k n)) ≡ n
counted f k zero = refl
counted f k (suc n) = ap (λ j. suc j) (counted f (k + 1) n)

all_new : (f : ℕ → Machine) (k n i : ℕ) (a : Machine) → ((m : ℕ) → IsNew (f m)) → slice_get (map f (range_with_len k n)) i ≡ Some a → IsNew a
all_new f k zero i a each h = absurd (none_some a h)
all_new f k (suc n) zero a each h = subst IsNew (some_value (f k) a h) (each k)
all_new f k (suc n) (suc i) a each h = all_new f (k + 1) n i a each h

pub begins_counted : (p : Program) (h : Header) → IsCounted (world_with p h)
begins_counted p h = counted (machine_of_header p (layout_with p.digest h.geometry) h) 1 h.machines

pub begins_new : (p : Program) (h : Header) (m : ℕ) (a : Machine) → machine_at (world_with p h) m ≡ Some a → IsNew a
begins_new p h m a at =
    let g : Layout = layout_with p.digest h.geometry in
    all_new (machine_of_header p g h) 1 h.machines (m - 1) a (new_machine p g h) (index (world_with p h) m a at).1
