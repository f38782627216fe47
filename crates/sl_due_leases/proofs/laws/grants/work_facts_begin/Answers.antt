use Rattle.sl_due_leases.proofs.Grants.WorkFactsBegin as its
use Rattle.sl_due_leases.proofs.laws.grants.work_facts_begin.Goals as goal

pub returns : goal.returns
returns c = its.work_facts_begin
