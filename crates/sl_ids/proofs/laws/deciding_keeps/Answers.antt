use Rattle.sl_ids.proofs.ReadSteps.{decide_kept}
use Rattle.sl_ids.proofs.laws.deciding_keeps.Goals as goal

pub returns : goal.returns
returns c = decide_kept
