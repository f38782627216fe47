use Rattle.sl_trace.specs.Jobs.{is_asking_lease}
use Rattle.sl_tables.proofs.TotalsGo.{total_counts}
use Rattle.sl_tables.proofs.jobs.Jobs.asking.Goals as goal
use Rattle.sl_tables.specs.Jobs.{is_ungranted, ungranted}
use Rattle.std.proofs.Common.{ap, sym, ◌∙◌}

pub returns : goal.returns
returns c = sym c.self.invariant.1 ∙ total_counts (is_ungranted is_asking_lease) c.self.inside.jobs.items ∙ ap (λ v. ungranted is_asking_lease v.jobs) c.self.view_is
