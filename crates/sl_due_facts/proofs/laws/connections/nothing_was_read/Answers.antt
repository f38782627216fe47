use Rattle.sl_due_facts.proofs.Connections.DeltaLaws as its
use Rattle.sl_due_facts.proofs.laws.connections.nothing_was_read.Goals as goal

pub returns : goal.returns
returns c = its.nothing_was_read
