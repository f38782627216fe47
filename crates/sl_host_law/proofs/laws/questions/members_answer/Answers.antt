use Rattle.sl_host_law.proofs.Questions.MembersAnswer as its
use Rattle.sl_host_law.proofs.laws.questions.members_answer.Goals as goal

pub returns : goal.returns
returns c = its.members_answer
