use Rattle.sl_due_law.proofs.LawfulTraces.AcquiresKeep as its
use Rattle.sl_due_law.proofs.laws.lawful_traces.acquires_keep_to_theirs.Goals as goal

pub returns : goal.returns
returns c = its.acquires_keep_to_theirs
