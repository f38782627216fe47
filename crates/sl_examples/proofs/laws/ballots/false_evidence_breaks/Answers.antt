use Rattle.sl_examples.proofs.Ballots.FalseEvidenceHistory.{false_evidence_breaks}
use Rattle.sl_examples.proofs.laws.ballots.false_evidence_breaks.Goals as goal

pub returns : goal.returns
returns c = false_evidence_breaks
