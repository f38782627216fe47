use Rattle.sl_safety.proofs.Holding.ExclusivesUnfreed.{exclusives_are_unfreed}
use Rattle.sl_safety.proofs.laws.holding.exclusives_are_unfreed.Goals as goal

pub returns : goal.returns
returns c = exclusives_are_unfreed
