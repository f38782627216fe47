-- There is none, or no memory.
use Rattle.sha2.specs.Sha256.{sha256}
use Rattle.sl_sector.specs.SectorLayouts.{decoded}
use Rattle.sl_standing.proofs.AreaLaws.{no_memory}
use Rattle.sl_standing.proofs.labels.compare.Goals as goal
use Rattle.sl_standing.specs.Standing.{Lacks}
use Rattle.std.proofs.Common.{sym, ◌∙◌}

pub returns-in_err-due-clause-differs : goal.returns-in_err-due-clause-differs
returns-in_err-due-clause-differs c = no_memory c.from_residual.result c.args.label.now (decoded sha256 c.args.sector.now) c.from_residual.ensures.1

pub returns-in-None-clause-differs : goal.returns-in-None-clause-differs
returns-in-None-clause-differs c = Lacks (sym c.label_in.ensures ∙ c.in-None.is)
