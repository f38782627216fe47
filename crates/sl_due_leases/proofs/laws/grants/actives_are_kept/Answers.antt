use Rattle.sl_due_leases.proofs.Grants.ActiveGrants as its
use Rattle.sl_due_leases.proofs.laws.grants.actives_are_kept.Goals as goal

pub returns : goal.returns
returns c = its.actives_are_kept
