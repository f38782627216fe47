use Rattle.sl_command.proofs.effects.push_answers.Given as goal
use Rattle.sl_command.specs.OutputLines.{KeepsFronts, class_text}
use Rattle.sl_trace.specs.EffectTexts.{answer_words}
use Rattle.std.proofs.Common.{take, ◌++◌, ◌≡◌}

-- the lines of those before this one have been added
abbrev pub invariant-loop-answer : goal.invariant-loop-answer
invariant-loop-answer l = record {
  written : l.out.items ≡ l.fn.out.items ++ class_text l.machine (λ x. answer_words x) (take l.answer-index l.answers);
  kept : KeepsFronts l.fn.out.items l.out.items;
}
