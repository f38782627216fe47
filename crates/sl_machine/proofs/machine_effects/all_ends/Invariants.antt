use Rattle.sl_machine.proofs.machine_effects.all_ends.Given as goal
use Rattle.sl_trace.specs.Traces as traces
use Rattle.std.proofs.Common.{map, take, ◌≡◌}

-- those before this one are there
abbrev pub invariant-loop-grant : goal.invariant-loop-grant
invariant-loop-grant l = l.ends.items ≡ map traces.end_of (take l.grant-index l.held)
