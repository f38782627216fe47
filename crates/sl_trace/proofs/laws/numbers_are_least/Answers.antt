use Rattle.sl_trace.proofs.NumberFacts.{numbers_are_least}
use Rattle.sl_trace.proofs.laws.numbers_are_least.Goals as goal

pub returns : goal.returns
returns c = numbers_are_least
