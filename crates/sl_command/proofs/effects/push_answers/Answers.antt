use Rattle.sl_command.proofs.LineLaws.{one_more}
use Rattle.sl_command.proofs.effects.push_answers.Goals as goal
use Rattle.sl_command.specs.OutputLines.{line_text}
use Rattle.sl_trace.specs.EffectTexts.{answer_words}

pub loop-answer-preserved : goal.loop-answer-preserved
loop-answer-preserved c =
    record {
      written = one_more (λ x. line_text c.args.machine (answer_words x)) c.args.answers.now c.loop-answer.answer-index c.answer-item.result _ _ _
          c.loop-answer-test.true c.answer-item.is c.loop-answer.invariant.written c.in_ok-push_answer.ensures.ok;
      kept = λ front is. c.push_answer.ensures.kept front (c.loop-answer.invariant.kept front is);
    }
