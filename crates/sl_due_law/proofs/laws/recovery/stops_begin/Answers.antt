use Rattle.sl_due_law.proofs.Recovery.StopsBegin as its
use Rattle.sl_due_law.proofs.laws.recovery.stops_begin.Goals as goal

pub returns : goal.returns
returns c = its.stops_begin
