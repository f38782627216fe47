use Rattle.sl_run_law.proofs.Leases.EndLaws.{leaders_follow}
use Rattle.sl_run_law.proofs.laws.leases.leaders_follow.Goals as goal

pub returns : goal.returns
returns c = leaders_follow
