use Rattle.sl_due_leases.proofs.Leases.CallsMade as its
use Rattle.sl_due_leases.proofs.laws.leases.leaders_are_lawful.Goals as goal

pub returns : goal.returns
returns c = its.leaders_are_lawful
