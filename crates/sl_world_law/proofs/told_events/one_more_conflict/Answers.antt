use Rattle.sl_world_law.proofs.ConflictsAreCounted.{one_more_conflict}
use Rattle.sl_world_law.proofs.told_events.one_more_conflict.Goals as goal

pub returns : goal.returns
returns c = one_more_conflict
