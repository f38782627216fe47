use Rattle.sl_command.proofs.LineLaws.{one_more}
use Rattle.sl_command.proofs.effects.push_moves.Goals as goal
use Rattle.sl_command.specs.OutputLines.{line_text}
use Rattle.sl_trace.specs.EffectTexts.{move_words}

pub loop-step-preserved : goal.loop-step-preserved
loop-step-preserved c =
    record {
      written = one_more (λ x. line_text c.args.machine (move_words x)) c.args.moves.now c.loop-step.step-index c.step-item.result _ _ _
          c.loop-step-test.true c.step-item.is c.loop-step.invariant.written c.in_ok-push_move.ensures.ok;
      kept = λ front is. c.push_move.ensures.kept front (c.loop-step.invariant.kept front is);
    }
