use Rattle.sl_safety.proofs.Sessions.NamesAreApart.{names_are_apart}
use Rattle.sl_safety.proofs.laws.sessions.names_are_apart.Goals as goal

pub returns : goal.returns
returns c = names_are_apart
