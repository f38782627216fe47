use Rattle.sl_due_leases.proofs.Holdings.MomentsBegin as its
use Rattle.sl_due_leases.proofs.laws.holdings.moments_begin.Goals as goal

pub returns : goal.returns
returns c = its.moments_begin
