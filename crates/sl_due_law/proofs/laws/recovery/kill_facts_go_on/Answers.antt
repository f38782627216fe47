use Rattle.sl_due_law.proofs.Recovery.RecoveryIsLawful as its
use Rattle.sl_due_law.proofs.laws.recovery.kill_facts_go_on.Goals as goal

pub returns : goal.returns
returns c = its.kill_facts_end
