use Rattle.sl_due_law.proofs.Recovery.PartingIsLawful as its
use Rattle.sl_due_law.proofs.laws.recovery.parting_is_lawful.Goals as goal

pub returns : goal.returns
returns c = its.parting_is_lawful
