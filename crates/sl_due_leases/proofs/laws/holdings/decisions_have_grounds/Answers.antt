use Rattle.sl_due_leases.proofs.Holdings.DecisionsHaveGrounds as its
use Rattle.sl_due_leases.proofs.laws.holdings.decisions_have_grounds.Goals as goal

pub returns : goal.returns
returns c = its.decisions_have_grounds
