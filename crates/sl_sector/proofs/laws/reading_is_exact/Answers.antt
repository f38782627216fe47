use Rattle.sl_sector.proofs.PublicLaws.{reading_is_exact}
use Rattle.sl_sector.proofs.laws.reading_is_exact.Goals as goal

pub returns : goal.returns
returns c = reading_is_exact
