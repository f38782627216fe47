use Rattle.sl_run_law.proofs.Sessions.FrontAnswersStay as its
use Rattle.sl_run_law.proofs.laws.sessions.front_answers_stay.Goals as goal

pub returns : goal.returns
returns c = its.front_answers_stay
