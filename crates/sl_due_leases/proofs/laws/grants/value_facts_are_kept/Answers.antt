use Rattle.sl_due_leases.proofs.Grants.Values.ValueFactsAreKept as its
use Rattle.sl_due_leases.proofs.laws.grants.value_facts_are_kept.Goals as goal

pub returns : goal.returns
returns c = its.value_facts_are_kept
