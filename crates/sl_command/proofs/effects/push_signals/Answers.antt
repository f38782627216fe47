use Rattle.sl_command.proofs.LineLaws.{one_read}
use Rattle.sl_command.proofs.effects.push_signals.Goals as goal
use Rattle.sl_command.specs.OutputLines.{line_text}
use Rattle.sl_trace.specs.EffectTexts.{sent_words}

pub loop-sent-preserved : goal.loop-sent-preserved
loop-sent-preserved c =
    record {
      written = one_read (λ x. line_text c.args.machine (sent_words x)) c.args.signals.now c.loop-sent.sent-index _ _ _ _
          c.loop-sent-test.true c.loop-sent.invariant.written c.in_ok-push_signal.ensures.ok;
      kept = λ front is. c.push_signal.ensures.kept front (c.loop-sent.invariant.kept front is);
    }
