-- The areas are back, and the one that failed counts.
use Rattle.sl_live_run.proofs.ReadyLaws.{explains_back}
use Rattle.sl_live_run.proofs.disks.lend.Goals as goal

pub returns-in-Err-clause-err : goal.returns-in-Err-clause-err
returns-in-Err-clause-err g c = explains_back c.in-Err.why _ _ _ _ c.lend_each.ensures.count c.take_back.ensures.count c.in-Err.ensures.fault
