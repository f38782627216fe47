use Rattle.sl_due_leases.proofs.Holdings.HoldingFactsAreKept as its
use Rattle.sl_due_leases.proofs.laws.holdings.holding_facts_are_kept.Goals as goal

pub returns : goal.returns
returns c = its.holding_facts_are_kept
