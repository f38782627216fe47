use Rattle.sl_due_leases.proofs.Ways.WayFactsHeld.FactsAreKept as its
use Rattle.sl_due_leases.proofs.laws.ways.turn_facts_are_kept.Goals as goal

pub returns : goal.returns
returns c = its.turn_facts_are_kept
