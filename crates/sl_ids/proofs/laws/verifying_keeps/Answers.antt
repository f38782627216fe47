use Rattle.sl_ids.proofs.ReadSteps.{verify_kept}
use Rattle.sl_ids.proofs.laws.verifying_keeps.Goals as goal

pub returns : goal.returns
returns c = verify_kept
