use Rattle.sl_run_law.proofs.Sessions.WritesAreCovered as its
use Rattle.sl_run_law.proofs.laws.sessions.writes_are_covered.Goals as goal

pub returns : goal.returns
returns c = its.writes_are_covered
