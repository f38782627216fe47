use Rattle.sl_run_law.proofs.WorldsGoOn.{event_goes}
use Rattle.sl_run_law.proofs.laws.worlds_go_on.Goals as goal

pub returns : goal.returns
returns c = event_goes
