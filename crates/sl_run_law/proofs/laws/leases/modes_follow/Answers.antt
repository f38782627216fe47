use Rattle.sl_run_law.proofs.Leases.GrantLaws.{modes_follow}
use Rattle.sl_run_law.proofs.laws.leases.modes_follow.Goals as goal

pub returns : goal.returns
returns c = modes_follow
