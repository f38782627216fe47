use Rattle.sl_run_law.proofs.Leases.RestLaws.{phase2_follows}
use Rattle.sl_run_law.proofs.laws.leases.phase2_follows.Goals as goal

pub returns : goal.returns
returns c = phase2_follows
