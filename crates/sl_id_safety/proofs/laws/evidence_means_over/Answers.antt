use Rattle.sl_id_safety.proofs.IdSafety.{evidence_means_over}
use Rattle.sl_id_safety.proofs.laws.evidence_means_over.Goals as goal

pub returns : goal.returns
returns c = evidence_means_over
