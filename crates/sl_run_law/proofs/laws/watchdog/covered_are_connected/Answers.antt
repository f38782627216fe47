use Rattle.sl_run_law.proofs.Watchdog.WatchdogLaws.{covered_are_connected}
use Rattle.sl_run_law.proofs.laws.watchdog.covered_are_connected.Goals as goal

pub returns : goal.returns
returns c = covered_are_connected
