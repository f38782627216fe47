use Rattle.sl_run_law.proofs.Watchdog.WatchdogLaws.{writes_in_flight_are_covered}
use Rattle.sl_run_law.proofs.laws.premises.writes_in_flight_are_covered.Goals as goal

pub returns : goal.returns
returns c = writes_in_flight_are_covered
