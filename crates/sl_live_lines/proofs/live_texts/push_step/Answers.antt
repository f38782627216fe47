use Rattle.sl_live_lines.proofs.LiveLaws.{step_texts, step_told}
use Rattle.sl_live_lines.proofs.live_texts.push_step.Goals as goal
use Rattle.sl_live_lines.specs.LiveTexts.{answer_jobs, answer_text}
use Rattle.sl_locks.specs.Replies.{told_as}
use Rattle.std.proofs.Common.{ap, ◌++◌, ◌∙◌}
use Rattle.std.specs.Prelude.{flat_map}

pub returns-clause-text : goal.returns-clause-text
returns-clause-text c =
    step_texts c.args.machine c.args.locks.now c.args.entry.now c.asked_by-asked.result (told_as c.in_ok-line.line) c.args.out.now.items c.push_replies.new.out.items
    c.push_line_told.new.out.items c.asked_by-asked.ensures c.in_ok-line.ensures.told
    (c.in_ok-push_replies.ensures.text ∙ ap (λ rs. c.args.out.now.items ++ flat_map (answer_text c.args.machine c.asked_by-asked.result) rs) c.as_slice.ensures)
    c.in_ok-push_line_told.ensures.text

pub returns-clause-jobs : goal.returns-clause-jobs
returns-clause-jobs c =
    step_told c.args.locks.now c.args.entry.now c.asked_by-asked.result (told_as c.in_ok-line.line) c.args.jobs.now.items c.push_replies.new.jobs.items
    c.push_line_told.new.jobs.items c.asked_by-asked.ensures c.in_ok-line.ensures.told
    (c.in_ok-push_replies.ensures.jobs ∙ ap (λ rs. c.args.jobs.now.items ++ flat_map (answer_jobs c.asked_by-asked.result) rs) c.as_slice.ensures)
    c.in_ok-push_line_told.ensures.jobs
