use Rattle.sl_run_law.proofs.Leases.GrantLaws.{exclusive_follows}
use Rattle.sl_run_law.proofs.laws.leases.exclusive_follows.Goals as goal

pub returns : goal.returns
returns c = exclusive_follows
