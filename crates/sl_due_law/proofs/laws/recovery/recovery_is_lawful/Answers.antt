use Rattle.sl_due_law.proofs.Recovery.RecoveryIsLawful as its
use Rattle.sl_due_law.proofs.laws.recovery.recovery_is_lawful.Goals as goal

pub returns : goal.returns
returns c = its.recovery_is_lawful
