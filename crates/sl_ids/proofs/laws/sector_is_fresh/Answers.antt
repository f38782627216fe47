use Rattle.sl_ids.proofs.StateLaws.{fresh}
use Rattle.sl_ids.proofs.laws.sector_is_fresh.Goals as goal

pub returns : goal.returns
returns c = fresh
