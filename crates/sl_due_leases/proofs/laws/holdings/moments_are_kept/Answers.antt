use Rattle.sl_due_leases.proofs.Holdings.MomentsAreKept as its
use Rattle.sl_due_leases.proofs.laws.holdings.moments_are_kept.Goals as goal

pub returns : goal.returns
returns c = its.moments_are_kept
