use Rattle.sl_safety.proofs.Sessions.RegisterLemma.{show_newest}
use Rattle.sl_safety.proofs.laws.sessions.histories_show_newest.Goals as goal

pub returns : goal.returns
returns c = show_newest
