use Rattle.sl_command.proofs.LineLaws.{one_word_more}
use Rattle.sl_command.proofs.replies.push_each_session.Goals as goal
use Rattle.sl_command.specs.OutputLines.{session_word}

pub loop-session-preserved : goal.loop-session-preserved
loop-session-preserved c =
    record {
      written = one_word_more session_word c.args.sessions.now c.loop-session.session-index c.session-item.result _ _ _
          c.loop-session-test.true c.session-item.is c.loop-session.invariant.written c.in_ok-push_session.ensures.ok;
      kept = λ front is. c.push_session.ensures.kept front (c.loop-session.invariant.kept front is);
    }
