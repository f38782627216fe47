use Rattle.sl_run_law.proofs.Front.RunsFromFronts.{one_step}
use Rattle.sl_run_law.proofs.laws.front.events_have_one_step.Goals as goal

pub returns : goal.returns
returns c = one_step
