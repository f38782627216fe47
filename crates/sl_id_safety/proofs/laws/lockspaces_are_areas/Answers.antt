use Rattle.sl_id_safety.proofs.IdInterface.{lockspaces_are_areas}
use Rattle.sl_id_safety.proofs.laws.lockspaces_are_areas.Goals as goal

pub returns : goal.returns
returns c = lockspaces_are_areas
