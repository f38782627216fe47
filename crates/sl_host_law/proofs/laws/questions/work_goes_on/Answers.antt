use Rattle.sl_host_law.proofs.Questions.JobsAnswer as its
use Rattle.sl_host_law.proofs.laws.questions.work_goes_on.Goals as goal

pub returns : goal.returns
returns c = its.work_goes_on
