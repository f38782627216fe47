use Rattle.sl_run_law.proofs.Beginnings.{begins_counted}
use Rattle.sl_run_law.proofs.laws.begins_counted.Goals as goal

pub returns : goal.returns
returns c = begins_counted
