use Rattle.sl_run_law.proofs.Watchdog.WatchdogLaws.{writers_may_act}
use Rattle.sl_run_law.proofs.laws.watchdog.writers_may_act.Goals as goal

pub returns : goal.returns
returns c = writers_may_act
