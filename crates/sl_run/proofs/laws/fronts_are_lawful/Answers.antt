use Rattle.sl_run.proofs.LawFacts.{lawful-front}
use Rattle.sl_run.proofs.laws.fronts_are_lawful.Goals as goal

pub returns : goal.returns
returns c = lawful-front
