use Rattle.sl_ids.proofs.WholeRuns.{step_kept}
use Rattle.sl_ids.proofs.laws.step_keeps.Goals as goal

pub returns : goal.returns
returns c = step_kept
