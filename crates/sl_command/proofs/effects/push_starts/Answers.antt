use Rattle.sl_command.proofs.LineLaws.{one_more}
use Rattle.sl_command.proofs.effects.push_starts.Goals as goal
use Rattle.sl_command.specs.OutputLines.{line_text}
use Rattle.sl_trace.specs.EffectTexts.{start_words}

pub loop-start-preserved : goal.loop-start-preserved
loop-start-preserved c =
    record {
      written = one_more (λ x. line_text c.args.machine (start_words x)) c.args.starts.now c.loop-start.start-index c.start-item.result _ _ _
          c.loop-start-test.true c.start-item.is c.loop-start.invariant.written c.in_ok-push_start.ensures.ok;
      kept = λ front is. c.push_start.ensures.kept front (c.loop-start.invariant.kept front is);
    }
