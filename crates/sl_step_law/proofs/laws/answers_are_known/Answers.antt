use Rattle.sl_step_law.proofs.AnswersAreKnown as its
use Rattle.sl_step_law.proofs.laws.answers_are_known.Goals as goal

pub returns : goal.returns
returns c = its.answers_are_known
