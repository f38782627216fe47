use Rattle.sl_ids.proofs.WholeRuns.{start_kept}
use Rattle.sl_ids.proofs.laws.start_holds.Goals as goal

pub returns : goal.returns
returns c = start_kept
