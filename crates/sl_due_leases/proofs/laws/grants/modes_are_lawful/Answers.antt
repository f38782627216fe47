use Rattle.sl_due_leases.proofs.Grants.Modes.ModesAreLawful as its
use Rattle.sl_due_leases.proofs.laws.grants.modes_are_lawful.Goals as goal

pub returns : goal.returns
returns c = its.modes_are_lawful
