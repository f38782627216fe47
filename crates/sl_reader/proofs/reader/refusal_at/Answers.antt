-- A line is judged by its length.
use Rattle.sl_report.specs.Schedules.{greatest_source, line_refusal}
use Rattle.sl_reader.proofs.FirstLines.{judged}
use Rattle.sl_reader.proofs.reader.refusal_at.Goals as goal
use Rattle.std.proofs.Common.{ap, ◌+◌, ◌∙◌}
use Rattle.std.specs.Prelude.{nat_lt}

pub returns : goal.returns
returns c =
    judged c.args.start c.args.len c.args.ends c.line_refusal.result c.requires.0
    (λ text number same. c.line_refusal.ensures text number same
    ∙ ap (λ n. line_refusal (record { number = number; start = c.args.start; text = text; is_past = nat_lt greatest_source (c.args.start + n) })) c.with_feed-bytes.ensures)
