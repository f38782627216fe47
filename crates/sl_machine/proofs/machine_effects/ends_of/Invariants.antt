use Rattle.sl_machine.proofs.machine_effects.ends_of.Given as goal
use Rattle.sl_trace.specs.Traces as traces
use Rattle.std.proofs.Common.{filter, map, take, ◌==◌, ◌≡◌}

-- those before this one are there
abbrev pub invariant-loop-grant : goal.invariant-loop-grant
invariant-loop-grant l = l.ends.items ≡ map traces.end_of (filter (λ g. g.process == l.process) (take l.grant-index l.held))
