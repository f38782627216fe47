use Rattle.sl_id_safety.proofs.IdSafety.{reads_no_other}
use Rattle.sl_id_safety.proofs.laws.reads_no_other.Goals as goal

pub returns : goal.returns
returns c = reads_no_other
