use Rattle.sl_run_law.proofs.AnswersStay.{event_answers}
use Rattle.sl_run_law.proofs.laws.answers_stay.Goals as goal

pub returns : goal.returns
returns c = event_answers
