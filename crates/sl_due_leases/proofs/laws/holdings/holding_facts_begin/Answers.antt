use Rattle.sl_due_leases.proofs.Holdings.HoldingFactsBegin as its
use Rattle.sl_due_leases.proofs.laws.holdings.holding_facts_begin.Goals as goal

pub returns : goal.returns
returns c = its.holding_facts_begin
