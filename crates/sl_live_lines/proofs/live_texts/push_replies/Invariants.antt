use Rattle.sl_live_lines.proofs.live_texts.push_replies.Given as goal
use Rattle.sl_live_lines.specs.LiveTexts.{answer_jobs, answer_text}
use Rattle.std.proofs.Common.{take, ◌++◌, ◌≡◌}
use Rattle.std.specs.Prelude.{flat_map}

-- the lines of those before this one have been added, and their jobs
abbrev pub invariant-loop-answer : goal.invariant-loop-answer
invariant-loop-answer l = record {
  text : l.out.items ≡ l.fn.out.items ++ flat_map (answer_text l.machine l.asked) (take l.answer-index l.answers);
  jobs : l.jobs.items ≡ l.fn.jobs.items ++ flat_map (answer_jobs l.asked) (take l.answer-index l.answers);
}
