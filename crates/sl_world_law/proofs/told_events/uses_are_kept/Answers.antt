use Rattle.sl_world_law.proofs.TellingIsKept.{uses_are_kept}
use Rattle.sl_world_law.proofs.told_events.uses_are_kept.Goals as goal

pub returns : goal.returns
returns c = uses_are_kept
