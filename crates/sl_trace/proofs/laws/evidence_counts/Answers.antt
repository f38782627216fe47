use Rattle.sl_trace.proofs.EvidenceFacts.{counted_over-now}
use Rattle.sl_trace.proofs.laws.evidence_counts.Goals as goal

pub returns : goal.returns
returns c = counted_over-now
