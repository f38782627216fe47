use Rattle.sl_world_law.proofs.TellingIsKept.{asks_are_kept}
use Rattle.sl_world_law.proofs.told_events.asks_are_kept.Goals as goal

pub returns : goal.returns
returns c = asks_are_kept
