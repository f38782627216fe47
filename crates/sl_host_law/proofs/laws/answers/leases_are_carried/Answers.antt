use Rattle.sl_host_law.proofs.Answers.LeasesAreCarried as its
use Rattle.sl_host_law.proofs.laws.answers.leases_are_carried.Goals as goal

pub returns : goal.returns
returns c = its.leases_are_carried
