use Rattle.sl_host_state.proofs.StepQuestions as its
use Rattle.sl_host_state.proofs.laws.questions_are_answered.Goals as goal

pub returns : goal.returns
returns c = its.questions_are_answered
