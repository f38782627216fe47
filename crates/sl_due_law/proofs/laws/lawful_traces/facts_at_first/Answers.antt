use Rattle.sl_due_law.proofs.LawfulTraces.FirstFacts as its
use Rattle.sl_due_law.proofs.laws.lawful_traces.facts_at_first.Goals as goal

pub returns : goal.returns
returns c = its.facts_at_first
