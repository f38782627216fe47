use Rattle.sl_due_facts.proofs.Connections.DeltaLaws as its
use Rattle.sl_due_facts.proofs.laws.connections.frees_are_lawful.Goals as goal

pub returns : goal.returns
returns c = its.frees
