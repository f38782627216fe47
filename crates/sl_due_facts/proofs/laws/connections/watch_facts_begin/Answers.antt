use Rattle.sl_due_facts.proofs.Connections.DeltaLaws as its
use Rattle.sl_due_facts.proofs.laws.connections.watch_facts_begin.Goals as goal

pub returns : goal.returns
returns c = its.reads_begin
