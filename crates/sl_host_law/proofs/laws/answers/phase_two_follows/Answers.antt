use Rattle.sl_host_law.proofs.Answers.PhaseTwoFollows as its
use Rattle.sl_host_law.proofs.laws.answers.phase_two_follows.Goals as goal

pub returns : goal.returns
returns c = its.phase_two_follows
