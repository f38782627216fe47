use Rattle.sl_due_leases.proofs.Ways.WayFactsHeld.StepsBegin as its
use Rattle.sl_due_leases.proofs.laws.ways.turns_rest.Goals as goal

pub returns : goal.returns
returns c = its.turns_rest
