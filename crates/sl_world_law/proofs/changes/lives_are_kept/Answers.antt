use Rattle.sl_world_law.proofs.DaemonLives.{lives_are_kept}
use Rattle.sl_world_law.proofs.changes.lives_are_kept.Goals as goal

pub returns : goal.returns
returns c = lives_are_kept
