use Rattle.sl_trace.specs.Jobs.{is_program}
use Rattle.sl_tables.proofs.TotalsGo.{total_counts}
use Rattle.sl_tables.proofs.jobs.Jobs.programs.Goals as goal
use Rattle.sl_tables.specs.Jobs.{is_ungranted, ungranted}
use Rattle.std.proofs.Common.{ap, sym, ◌∙◌}

pub returns : goal.returns
returns c = sym c.self.invariant.2 ∙ total_counts (is_ungranted is_program) c.self.inside.jobs.items ∙ ap (λ v. ungranted is_program v.jobs) c.self.view_is
