use Rattle.sl_due_law.proofs.Recovery.StopsAreKept as its
use Rattle.sl_due_law.proofs.laws.recovery.stops_are_kept.Goals as goal

pub returns : goal.returns
returns c = its.stops_are_kept
