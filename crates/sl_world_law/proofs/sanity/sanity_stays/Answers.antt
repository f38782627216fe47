use Rattle.sl_world_law.proofs.SaneEvents.{sanity_stays}
use Rattle.sl_world_law.proofs.sanity.sanity_stays.Goals as goal

pub returns : goal.returns
returns c = sanity_stays
