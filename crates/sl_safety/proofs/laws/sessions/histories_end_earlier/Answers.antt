use Rattle.sl_safety.proofs.Sessions.EarlierAreOver.{histories_end_earlier}
use Rattle.sl_safety.proofs.laws.sessions.histories_end_earlier.Goals as goal

pub returns : goal.returns
returns c = histories_end_earlier
