use Rattle.sl_world_law.proofs.DirectChanges.{resets_are_quiet}
use Rattle.sl_world_law.proofs.direct_changes.resets_are_quiet.Goals as goal

pub returns : goal.returns
returns c = resets_are_quiet
