use Rattle.sl_headline.proofs.Quiet.NoDenial.NothingIsCaused.{nothing_is_caused}
use Rattle.sl_headline.proofs.laws.quiet.no_denial.nothing_is_caused.Goals as goal

pub returns : goal.returns
returns c = nothing_is_caused
