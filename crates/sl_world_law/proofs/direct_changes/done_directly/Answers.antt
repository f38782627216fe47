use Rattle.sl_world_law.proofs.DirectChanges.{done_directly}
use Rattle.sl_world_law.proofs.direct_changes.done_directly.Goals as goal

pub returns : goal.returns
returns c = done_directly
