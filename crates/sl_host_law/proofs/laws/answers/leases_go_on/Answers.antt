use Rattle.sl_host_law.proofs.Answers.LeasesGoOn as its
use Rattle.sl_host_law.proofs.laws.answers.leases_go_on.Goals as goal

pub returns : goal.returns
returns c = its.leases_go_on
