use Rattle.sl_id_safety.proofs.State.SessionFacts.{verify_reads_have_claimed}
use Rattle.sl_id_safety.proofs.laws.state.verify_reads_have_claimed.Goals as goal

pub returns : goal.returns
returns c = verify_reads_have_claimed
