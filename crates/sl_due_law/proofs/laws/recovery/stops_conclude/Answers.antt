use Rattle.sl_due_law.proofs.Recovery.StopsConclude as its
use Rattle.sl_due_law.proofs.laws.recovery.stops_conclude.Goals as goal

pub returns : goal.returns
returns c = its.stops_conclude
