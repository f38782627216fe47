use Rattle.sl_examples.proofs.Ballots.TakenOverHistory.{some_is_taken_over}
use Rattle.sl_examples.proofs.laws.ballots.some_is_taken_over.Goals as goal

pub returns : goal.returns
returns c = some_is_taken_over
