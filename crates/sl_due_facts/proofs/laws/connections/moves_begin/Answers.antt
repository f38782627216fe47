use Rattle.sl_due_facts.proofs.Connections.MovesAreKept as its
use Rattle.sl_due_facts.proofs.laws.connections.moves_begin.Goals as goal

pub returns : goal.returns
returns c = its.moves_begin
