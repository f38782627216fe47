use Rattle.sl_due_law.proofs.LawfulTraces.TracesHold as its
use Rattle.sl_due_law.proofs.laws.lawful_traces.traces_are_lawful.Goals as goal

pub returns : goal.returns
returns c = its.traces_are_lawful
