use Rattle.sl_run_law.proofs.Sessions.NamesAreApart as its
use Rattle.sl_run_law.proofs.laws.sessions.names_are_apart.Goals as goal

pub returns : goal.returns
returns c = its.names_are_apart
