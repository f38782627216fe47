use Rattle.sl_sector.proofs.PublicLaws.{each_is_spelled}
use Rattle.sl_sector.proofs.laws.each_is_spelled.Goals as goal

pub returns : goal.returns
returns c = each_is_spelled
