use Rattle.sl_world_law.proofs.ConflictsAreCounted.{conflicts_are_counted}
use Rattle.sl_world_law.proofs.told_events.conflicts_are_counted.Goals as goal

pub returns : goal.returns
returns c = conflicts_are_counted
