use Rattle.sl_host_law.proofs.Questions.PartsAreTold as its
use Rattle.sl_host_law.proofs.laws.questions.members_part.Goals as goal

pub returns : goal.returns
returns c = its.members_part
