use Rattle.sl_words.proofs.GreatestLaws.{greatest_is_most}
use Rattle.sl_words.proofs.laws.greatest_is_most.Goals as goal

pub returns : goal.returns
returns c = greatest_is_most
