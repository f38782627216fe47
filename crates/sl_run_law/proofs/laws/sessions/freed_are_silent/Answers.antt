use Rattle.sl_run_law.proofs.Sessions.FreedAreSilent as its
use Rattle.sl_run_law.proofs.laws.sessions.freed_are_silent.Goals as goal

pub returns : goal.returns
returns c = its.freed_are_silent
