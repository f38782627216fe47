use Rattle.sl_host_law.proofs.Answers.LeasesSetFree as its
use Rattle.sl_host_law.proofs.laws.answers.leases_set_free.Goals as goal

pub returns : goal.returns
returns c = its.leases_set_free
