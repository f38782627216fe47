use Rattle.sl_watch.proofs.SightingLaws.{sighted_is_spelled}
use Rattle.sl_watch.proofs.laws.sighted_is_spelled.Goals as goal

pub returns : goal.returns
returns c = sighted_is_spelled
