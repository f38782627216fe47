use Rattle.sl_disks.proofs.table.untouched.Given as goal
use Rattle.std.proofs.Common.{length, map, ◌≡◌}
use Rattle.std.specs.Arc.{arc_value}
use Rattle.std.specs.Prelude.{None, option_map, replicate}

-- none of those before is kept
abbrev pub invariant-loop : goal.invariant-loop
invariant-loop l = (length l.slots.items ≡ l.counter) × (map (λ o. option_map (λ m. arc_value m) o) l.slots.items ≡ replicate l.counter None)
