use Rattle.sl_command.proofs.LineLaws.{one_more}
use Rattle.sl_command.proofs.effects.push_ends.Goals as goal
use Rattle.sl_command.specs.OutputLines.{line_text}
use Rattle.sl_trace.specs.EffectTexts.{end_words}

pub loop-end-preserved : goal.loop-end-preserved
loop-end-preserved c =
    record {
      written = one_more (λ x. line_text c.args.machine (end_words x)) c.args.ends.now c.loop-end.end-index c.end-item.result _ _ _
          c.loop-end-test.true c.end-item.is c.loop-end.invariant.written c.in_ok-push_end.ensures.ok;
      kept = λ front is. c.push_end.ensures.kept front (c.loop-end.invariant.kept front is);
    }
