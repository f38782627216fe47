-- One line more stands.
use Rattle.sl_story.proofs.Openings.{one_more_session}
use Rattle.sl_story.proofs.header.push_sessions.Goals as goal
use Rattle.std.proofs.Common.{arith}

pub loop-machine-preserved : goal.loop-machine-preserved
loop-machine-preserved c =
    let more = c.loop-machine-test.true in
    record {
      within = omega (arith, more);
      stands = one_more_session c.args.lockspace.now c.loop-machine.machine c.args.out.now.items c.loop-machine.out.items c.push_session.new.out.items c.loop-machine.invariant.stands
          c.in_ok-push_session.ensures;
    }
