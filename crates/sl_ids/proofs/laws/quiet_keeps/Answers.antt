use Rattle.sl_ids.proofs.QuietSteps.{quiet_kept}
use Rattle.sl_ids.proofs.laws.quiet_keeps.Goals as goal

pub returns : goal.returns
returns c = quiet_kept
