use Rattle.sl_due_facts.proofs.Acts.TracesKeep as its
use Rattle.sl_due_facts.proofs.laws.acts.due_is_seen.Goals as goal

pub returns : goal.returns
returns c = its.due_is_seen
