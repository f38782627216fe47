use Rattle.sl_run_law.proofs.Watchdog.WatchdogLaws.{covered_may_act}
use Rattle.sl_run_law.proofs.laws.watchdog.covered_may_act.Goals as goal

pub returns : goal.returns
returns c = covered_may_act
