use Rattle.sl_command.proofs.LineLaws.{one_more}
use Rattle.sl_command.proofs.effects.push_calls.Goals as goal
use Rattle.sl_command.specs.OutputLines.{line_text}
use Rattle.sl_trace.specs.EffectTexts.{call_words}

pub loop-call-preserved : goal.loop-call-preserved
loop-call-preserved c =
    record {
      written = one_more (λ x. line_text c.args.machine (call_words x)) c.args.calls.now c.loop-call.call-index c.call-item.result _ _ _
          c.loop-call-test.true c.call-item.is c.loop-call.invariant.written c.in_ok-push_call.ensures.ok;
      kept = λ front is. c.push_call.ensures.kept front (c.loop-call.invariant.kept front is);
    }
