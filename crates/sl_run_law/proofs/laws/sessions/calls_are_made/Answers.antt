use Rattle.sl_run_law.proofs.Sessions.CallsAreMade as its
use Rattle.sl_run_law.proofs.laws.sessions.calls_are_made.Goals as goal

pub returns : goal.returns
returns c = its.calls_are_made
