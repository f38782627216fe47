use Rattle.sl_due_facts.proofs.Connections.DeltasAreKept as its
use Rattle.sl_due_facts.proofs.laws.connections.calls_begin.Goals as goal

pub returns : goal.returns
returns c = its.calls_begin
