use Rattle.sl_id_safety.proofs.State.SessionFacts.{sessions_follow}
use Rattle.sl_id_safety.proofs.laws.state.sessions_follow.Goals as goal

pub returns : goal.returns
returns c = sessions_follow
