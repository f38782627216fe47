use Rattle.sl_machine.proofs.PlainFilled.{one_more_kept}
use Rattle.sl_machine.proofs.machine_effects.orphans_left.Goals as goal
use Rattle.sl_trace.specs.Traces as traces

pub loop-grant-preserved : goal.loop-grant-preserved
loop-grant-preserved c =
    one_more_kept traces.orphan_of (traces.leaves_orphan c.args.held.now c.args.process) c.args.held.now c.loop-grant.grant-index c.grant-item.result c.loop-grant.orphans.items c.push_orphan.new.orphans.items
    c.loop-grant-test.true c.grant-item.is c.loop-grant.invariant c.in_ok-push_orphan.ensures
