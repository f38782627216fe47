use Rattle.sl_ids.proofs.InterfaceLaws.{evident}
use Rattle.sl_ids.proofs.laws.evidence_means_over.Goals as goal

pub returns : goal.returns
returns c = evident
