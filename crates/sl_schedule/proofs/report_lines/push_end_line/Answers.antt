use Rattle.sl_schedule.proofs.WritingLaws.{counted_end, end_line_counted}
use Rattle.sl_schedule.proofs.report_lines.push_end_line.Goals as goal
use Rattle.std.proofs.Common.{rules, ◌∙◌, ◌≡◌}
use Rattle.std.proofs.lemmas.Result.{on_ok_weaker}

pub returns-clause-ok : goal.returns-clause-ok
returns-clause-ok c =
    let words : c.deref.result.now ≡ counted_end c.args.counts.now = search rules in
    on_ok_weaker c.push_line.result (λ e. e ∙ end_line_counted c.args.out.now.items c.deref.result.now c.args.counts.now words) c.push_line.ensures.ok
