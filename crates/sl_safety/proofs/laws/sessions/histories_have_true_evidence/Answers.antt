use Rattle.sl_safety.proofs.Sessions.EvidenceIsTrue.{histories_have_true_evidence}
use Rattle.sl_safety.proofs.laws.sessions.histories_have_true_evidence.Goals as goal

pub returns : goal.returns
returns c = histories_have_true_evidence
