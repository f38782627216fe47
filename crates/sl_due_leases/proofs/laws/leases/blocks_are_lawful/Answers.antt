use Rattle.sl_due_leases.proofs.Leases.CallsMade as its
use Rattle.sl_due_leases.proofs.laws.leases.blocks_are_lawful.Goals as goal

pub returns : goal.returns
returns c = its.blocks_are_lawful
