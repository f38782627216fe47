use Rattle.sl_run_law.proofs.Front.RunsFromFronts.{fronts_are_lawful}
use Rattle.sl_run_law.proofs.laws.front.fronts_are_lawful.Goals as goal

pub returns : goal.returns
returns c = fronts_are_lawful
