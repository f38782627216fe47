use Rattle.sl_due_facts.proofs.Connections.DeltaLaws as its
use Rattle.sl_due_facts.proofs.laws.connections.first_renewals_are_lawful.Goals as goal

pub returns : goal.returns
returns c = its.first_renewals
