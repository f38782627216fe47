use Rattle.sl_run_law.proofs.Leases.RestLaws.{blocks_have_fronts}
use Rattle.sl_run_law.proofs.laws.leases.blocks_have_fronts.Goals as goal

pub returns : goal.returns
returns c = blocks_have_fronts
