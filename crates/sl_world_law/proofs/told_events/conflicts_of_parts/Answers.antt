use Rattle.sl_world_law.proofs.ConflictsAreCounted.{conflicts_of_parts}
use Rattle.sl_world_law.proofs.told_events.conflicts_of_parts.Goals as goal

pub returns : goal.returns
returns c = conflicts_of_parts
