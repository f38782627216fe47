use Rattle.sl_run_law.proofs.Sessions.CallsAreMade as its
use Rattle.sl_run_law.proofs.laws.sessions.answers_stay.Goals as goal

pub returns : goal.returns
returns c = its.answers_stay
