use Rattle.sl_run_law.proofs.Sessions.EndedAreSilent as its
use Rattle.sl_run_law.proofs.laws.sessions.ended_are_silent.Goals as goal

pub returns : goal.returns
returns c = its.ended_are_silent
