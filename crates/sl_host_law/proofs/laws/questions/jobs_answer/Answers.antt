use Rattle.sl_host_law.proofs.Questions.JobsAnswer as its
use Rattle.sl_host_law.proofs.laws.questions.jobs_answer.Goals as goal

pub returns : goal.returns
returns c = its.jobs_answer
