use Rattle.sl_run_law.proofs.Sessions.NamesAreApart as its
use Rattle.sl_run_law.proofs.laws.sessions.writers_stay.Goals as goal

pub returns : goal.returns
returns c = its.writers_stay
