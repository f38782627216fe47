use Rattle.sl_due_facts.proofs.Jobs.EntriesFollow as its
use Rattle.sl_due_facts.proofs.laws.jobs.entries_follow.Goals as goal

pub returns : goal.returns
returns c = its.entries_follow
