use Rattle.sl_ballot.proofs.RiseLaws.{numbers_rise}
use Rattle.sl_ballot.proofs.laws.numbers_rise.Goals as goal

pub returns : goal.returns
returns c = numbers_rise
