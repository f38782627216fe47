use Rattle.sl_id_safety.proofs.State.SessionFacts.{deciding_reads_have_watched}
use Rattle.sl_id_safety.proofs.laws.state.deciding_reads_have_watched.Goals as goal

pub returns : goal.returns
returns c = deciding_reads_have_watched
