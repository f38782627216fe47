use Rattle.sl_due_law.proofs.LawfulTraces.BusyKept as its
use Rattle.sl_due_law.proofs.laws.lawful_traces.due_is_well_with.Goals as goal

pub returns : goal.returns
returns c = its.due_is_well_with
