use Rattle.sl_world_law.proofs.PassedTime.{times_are_kept}
use Rattle.sl_world_law.proofs.changes.times_are_kept.Goals as goal

pub returns : goal.returns
returns c = times_are_kept
