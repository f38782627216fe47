use Rattle.sl_due_facts.proofs.Connections.JoinsAreLawful as its
use Rattle.sl_due_facts.proofs.laws.connections.joins_begin.Goals as goal

pub returns : goal.returns
returns c = its.joins_begin
