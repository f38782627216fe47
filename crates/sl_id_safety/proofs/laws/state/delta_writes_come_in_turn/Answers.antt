use Rattle.sl_id_safety.proofs.State.SessionFacts.{delta_writes_come_in_turn}
use Rattle.sl_id_safety.proofs.laws.state.delta_writes_come_in_turn.Goals as goal

pub returns : goal.returns
returns c = delta_writes_come_in_turn
