use Rattle.sl_due_law.proofs.LawfulTraces.TracesHold as its
use Rattle.sl_due_law.proofs.laws.lawful_traces.traces_hold.Goals as goal

pub returns : goal.returns
returns c = its.traces_hold
