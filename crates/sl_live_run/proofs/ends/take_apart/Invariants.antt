use Rattle.sl_live_run.proofs.ends.take_apart.Given as goal
use Rattle.std.proofs.Common.{Some, map, ◌≡◌}

-- what is left of those before this one
abbrev pub invariant-loop-machine : goal.invariant-loop-machine
invariant-loop-machine g l = map (λ m. m.ran) l.yielded ≡ map (λ r. Some r) l.rans.items
