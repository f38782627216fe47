use Rattle.sl_due_facts.proofs.Acts.DecisionsAreTheirs as its
use Rattle.sl_due_facts.proofs.laws.acts.decisions_are_theirs.Goals as goal

pub returns : goal.returns
returns c = its.decisions_are_theirs
