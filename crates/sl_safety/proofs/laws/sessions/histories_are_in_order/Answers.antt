use Rattle.sl_safety.proofs.Sessions.SessionsInOrder.{histories_are_in_order}
use Rattle.sl_safety.proofs.laws.sessions.histories_are_in_order.Goals as goal

pub returns : goal.returns
returns c = histories_are_in_order
