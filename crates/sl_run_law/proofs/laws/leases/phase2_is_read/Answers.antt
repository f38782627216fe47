use Rattle.sl_run_law.proofs.Leases.RestLaws.{phase2_is_read}
use Rattle.sl_run_law.proofs.laws.leases.phase2_is_read.Goals as goal

pub returns : goal.returns
returns c = phase2_is_read
