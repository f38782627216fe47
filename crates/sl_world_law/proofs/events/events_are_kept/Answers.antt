use Rattle.sl_world_law.proofs.WholeEvents.{events_are_kept}
use Rattle.sl_world_law.proofs.events.events_are_kept.Goals as goal

pub returns : goal.returns
returns c = events_are_kept
