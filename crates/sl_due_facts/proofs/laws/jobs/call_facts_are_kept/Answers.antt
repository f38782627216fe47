use Rattle.sl_due_facts.proofs.Jobs.JobLaws as its
use Rattle.sl_due_facts.proofs.laws.jobs.call_facts_are_kept.Goals as goal

pub returns : goal.returns
returns c = its.call_facts_are_kept
