use Rattle.sl_live_lines.proofs.LineLaws.{own_some}
use Rattle.sl_live_lines.proofs.audit.Audit.has_own_line.Goals as goal
use Rattle.std.proofs.Common.{sym, ◌∙◌}

pub returns-then-not-runs_line-clause-own : goal.returns-then-not-runs_line-clause-own
returns-then-not-runs_line-clause-own c =
    λ has. own_some c.args.self.now.locks c.args.entry.now (sym c.runs_line.ensures ∙ c.if-not-runs_line.true) (sym c.has_line.ensures ∙ has)
