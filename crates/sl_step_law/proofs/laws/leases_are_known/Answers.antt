use Rattle.sl_step_law.proofs.LeasesAreKnown as its
use Rattle.sl_step_law.proofs.laws.leases_are_known.Goals as goal

pub returns : goal.returns
returns c = its.leases_are_known
