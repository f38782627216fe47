use Rattle.sl_machine.proofs.machine_effects.orphans_left.Given as goal
use Rattle.sl_trace.specs.Traces as traces
use Rattle.std.proofs.Common.{filter, map, take, ◌≡◌}

-- those before this one are there
abbrev pub invariant-loop-grant : goal.invariant-loop-grant
invariant-loop-grant l = l.orphans.items ≡ map traces.orphan_of (filter (traces.leaves_orphan l.held l.process) (take l.grant-index l.held))
