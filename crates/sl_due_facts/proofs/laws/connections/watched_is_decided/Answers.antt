use Rattle.sl_due_facts.proofs.Connections.DeltaLaws as its
use Rattle.sl_due_facts.proofs.laws.connections.watched_is_decided.Goals as goal

pub returns : goal.returns
returns c = its.watched_decided
