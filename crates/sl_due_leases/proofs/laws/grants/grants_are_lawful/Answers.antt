use Rattle.sl_due_leases.proofs.Grants.GrantsStand as its
use Rattle.sl_due_leases.proofs.laws.grants.grants_are_lawful.Goals as goal

pub returns : goal.returns
returns c = its.grants_are_lawful
