use Rattle.sl_due_facts.proofs.Connections.DeltaLaws as its
use Rattle.sl_due_facts.proofs.laws.connections.free_is_decided.Goals as goal

pub returns : goal.returns
returns c = its.free_decided
