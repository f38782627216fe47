use Rattle.sl_due_law.proofs.DueIsLawful as its
use Rattle.sl_due_law.proofs.laws.due.due_is_lawful.Goals as goal

pub returns : goal.returns
returns c = its.due_is_lawful
