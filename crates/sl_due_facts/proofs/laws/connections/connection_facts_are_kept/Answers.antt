use Rattle.sl_due_facts.proofs.Connections.ConnectionFactsAreKept as its
use Rattle.sl_due_facts.proofs.laws.connections.connection_facts_are_kept.Goals as goal

pub returns : goal.returns
returns c = its.connection_facts_are_kept
