use Rattle.sl_run_law.proofs.Sessions.MarksStay as staying
use Rattle.sl_run_law.proofs.laws.sessions.marks_stay.Goals as goal

pub returns : goal.returns
returns c = staying.marks_stay
