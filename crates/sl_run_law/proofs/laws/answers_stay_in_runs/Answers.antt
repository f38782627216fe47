use Rattle.sl_run_law.proofs.AnswersStay.{run_answers}
use Rattle.sl_run_law.proofs.laws.answers_stay_in_runs.Goals as goal

pub returns : goal.returns
returns c = run_answers
