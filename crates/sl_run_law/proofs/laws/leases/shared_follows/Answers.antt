use Rattle.sl_run_law.proofs.Leases.GrantLaws.{shared_follows}
use Rattle.sl_run_law.proofs.laws.leases.shared_follows.Goals as goal

pub returns : goal.returns
returns c = shared_follows
