use Rattle.sl_due_leases.proofs.Grants.WorkFactsAreKept as its
use Rattle.sl_due_leases.proofs.laws.grants.work_facts_are_kept.Goals as goal

pub returns : goal.returns
returns c = its.work_facts_are_kept
