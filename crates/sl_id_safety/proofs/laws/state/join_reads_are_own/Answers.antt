use Rattle.sl_id_safety.proofs.State.SessionFacts.{join_reads_are_own}
use Rattle.sl_id_safety.proofs.laws.state.join_reads_are_own.Goals as goal

pub returns : goal.returns
returns c = join_reads_are_own
