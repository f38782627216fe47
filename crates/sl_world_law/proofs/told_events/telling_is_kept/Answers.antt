use Rattle.sl_world_law.proofs.TellingIsKept.{telling_is_kept}
use Rattle.sl_world_law.proofs.told_events.telling_is_kept.Goals as goal

pub returns : goal.returns
returns c = telling_is_kept
