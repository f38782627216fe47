use Rattle.sl_due_leases.proofs.Grants.Values.ValuesAreTold as its
use Rattle.sl_due_leases.proofs.laws.grants.values_are_lawful.Goals as goal

pub returns : goal.returns
returns c = its.values_are_lawful
