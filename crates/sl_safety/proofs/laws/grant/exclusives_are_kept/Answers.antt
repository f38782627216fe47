use Rattle.sl_safety.proofs.Grant.GrantLaws.{exclusives_are_kept}
use Rattle.sl_safety.proofs.laws.grant.exclusives_are_kept.Goals as goal

pub returns : goal.returns
returns c = exclusives_are_kept
