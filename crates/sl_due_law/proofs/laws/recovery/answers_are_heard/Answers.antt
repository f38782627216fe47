use Rattle.sl_due_law.proofs.Recovery.StopsConclude as its
use Rattle.sl_due_law.proofs.laws.recovery.answers_are_heard.Goals as goal

pub returns : goal.returns
returns c = its.just_heard
