use Rattle.sl_host_law.proofs.Questions.RefusalsAreTold as its
use Rattle.sl_host_law.proofs.laws.questions.refusals_are_told.Goals as goal

pub returns : goal.returns
returns c = its.refusals_are_told
