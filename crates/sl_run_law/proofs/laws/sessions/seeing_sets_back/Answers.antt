use Rattle.sl_run_law.proofs.Sessions.FreedAreSilent as its
use Rattle.sl_run_law.proofs.laws.sessions.seeing_sets_back.Goals as goal

pub returns : goal.returns
returns c = its.seeing_sets_back
