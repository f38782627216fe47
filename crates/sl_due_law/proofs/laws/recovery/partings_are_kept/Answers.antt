use Rattle.sl_due_law.proofs.Recovery.PartingsAreKept as its
use Rattle.sl_due_law.proofs.laws.recovery.partings_are_kept.Goals as goal

pub returns : goal.returns
returns c = its.partings_are_kept
