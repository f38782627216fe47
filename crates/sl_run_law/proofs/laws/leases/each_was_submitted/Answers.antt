use Rattle.sl_run_law.proofs.Leases.FrontLaws.{each_was_submitted}
use Rattle.sl_run_law.proofs.laws.leases.each_was_submitted.Goals as goal

pub returns : goal.returns
returns c = each_was_submitted
