use Rattle.sl_due_leases.proofs.Ways.WayFactsHeld.FactsAreKept as its
use Rattle.sl_due_leases.proofs.laws.ways.way_facts_are_kept.Goals as goal

pub returns : goal.returns
returns c = its.way_facts_are_kept
