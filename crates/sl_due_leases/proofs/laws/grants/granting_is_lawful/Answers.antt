use Rattle.sl_due_leases.proofs.Grants.ActiveGrants as its
use Rattle.sl_due_leases.proofs.laws.grants.granting_is_lawful.Goals as goal

pub returns : goal.returns
returns c = its.granting_is_lawful
