use Rattle.sl_run_law.proofs.Sessions.CallOwners as its
use Rattle.sl_run_law.proofs.laws.sessions.sessions_stay.Goals as goal

pub returns : goal.returns
returns c = its.sessions_stay
