use Rattle.sl_run_law.proofs.Leases.ComingLaws.{blocks_come}
use Rattle.sl_run_law.proofs.laws.leases.blocks_come.Goals as goal

pub returns : goal.returns
returns c = blocks_come
