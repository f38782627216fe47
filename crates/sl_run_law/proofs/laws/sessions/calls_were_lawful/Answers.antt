use Rattle.sl_run_law.proofs.Sessions.CallOwners as its
use Rattle.sl_run_law.proofs.laws.sessions.calls_were_lawful.Goals as goal

pub returns : goal.returns
returns c = its.calls_were_lawful
