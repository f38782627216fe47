use Rattle.sl_run_law.proofs.Beginnings.{begins_new}
use Rattle.sl_run_law.proofs.laws.begins_new.Goals as goal

pub returns : goal.returns
returns c = begins_new
