use Rattle.sl_due_law.proofs.Recovery.DenialsAreKept as its
use Rattle.sl_due_law.proofs.laws.recovery.denials_are_kept.Goals as goal

pub returns : goal.returns
returns c = its.denials_are_kept
