use Rattle.sl_trace.proofs.EvidenceFacts.{counted_over-more}
use Rattle.sl_trace.proofs.laws.evidence_stays.Goals as goal

pub returns : goal.returns
returns c = counted_over-more
