use Rattle.sl_machine.proofs.PlainFilled.{one_more_kept}
use Rattle.sl_machine.proofs.machine_effects.ends_of.Goals as goal
use Rattle.sl_trace.specs.Traces as traces
use Rattle.std.proofs.Common.{◌==◌}

pub loop-grant-preserved : goal.loop-grant-preserved
loop-grant-preserved c =
    one_more_kept traces.end_of (λ g. g.process == c.args.process) c.args.held.now c.loop-grant.grant-index c.grant-item.result c.loop-grant.ends.items c.push_end.new.ends.items
    c.loop-grant-test.true c.grant-item.is c.loop-grant.invariant c.in_ok-push_end.ensures
