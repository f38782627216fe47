use Rattle.sl_run.specs.Worlds.{given_of}
use Rattle.sl_world.proofs.PlainFilled.{one_more_given}
use Rattle.sl_world.proofs.sites.given_to.Goals as goal

pub loop-session-preserved : goal.loop-session-preserved
loop-session-preserved c =
    one_more_given (given_of c.args.header.now c.args.machine) c.as_slice-session-items.result.now c.loop-session.session-index c.session-item.result c.loop-session.given.items
    c.push_given.new.given.items c.loop-session-test.true c.session-item.is c.loop-session.invariant c.in_ok-push_given.ensures
