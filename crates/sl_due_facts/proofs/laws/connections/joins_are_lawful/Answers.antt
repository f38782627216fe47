use Rattle.sl_due_facts.proofs.Connections.JoinsAreLawful as its
use Rattle.sl_due_facts.proofs.laws.connections.joins_are_lawful.Goals as goal

pub returns : goal.returns
returns c = its.joins_are_kept
