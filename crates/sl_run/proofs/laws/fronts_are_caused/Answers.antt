use Rattle.sl_run.proofs.LawFacts.{caused-front}
use Rattle.sl_run.proofs.laws.fronts_are_caused.Goals as goal

pub returns : goal.returns
returns c = caused-front
