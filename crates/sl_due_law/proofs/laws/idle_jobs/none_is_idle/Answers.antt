use Rattle.sl_due_law.proofs.LawfulTraces.BusyKept as its
use Rattle.sl_due_law.proofs.laws.idle_jobs.none_is_idle.Goals as goal

pub returns : goal.returns
returns c = its.none_is_idle
