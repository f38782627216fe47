use Rattle.sl_ids.proofs.ClaimLandings.{claim_landing_kept}
use Rattle.sl_ids.proofs.laws.claim_landing_keeps.Goals as goal

pub returns : goal.returns
returns c = claim_landing_kept
