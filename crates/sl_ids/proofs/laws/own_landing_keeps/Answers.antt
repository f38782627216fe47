use Rattle.sl_ids.proofs.OwnLandings.{land_own_kept}
use Rattle.sl_ids.proofs.laws.own_landing_keeps.Goals as goal

pub returns : goal.returns
returns c = land_own_kept
