use Rattle.sl_due_leases.proofs.Grants.OrphansAreLawful as its
use Rattle.sl_due_leases.proofs.laws.grants.orphans_begin.Goals as goal

pub returns : goal.returns
returns c = its.orphans_begin
