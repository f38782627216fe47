use Rattle.sl_step_law.proofs.LeaseAnswersAreKnown as its
use Rattle.sl_step_law.proofs.laws.lease_answers_are_known.Goals as goal

pub returns : goal.returns
returns c = its.lease_answers_are_known
