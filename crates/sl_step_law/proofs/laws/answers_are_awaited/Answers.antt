use Rattle.sl_step_law.proofs.AnswersAreAwaited as its
use Rattle.sl_step_law.proofs.laws.answers_are_awaited.Goals as goal

pub returns : goal.returns
returns c = its.answers_are_awaited
