use Rattle.sl_run.proofs.LawFacts.{orderly-front}
use Rattle.sl_run.proofs.laws.fronts_are_orderly.Goals as goal

pub returns : goal.returns
returns c = orderly-front
