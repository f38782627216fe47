use Rattle.sl_due_leases.proofs.Ways.NextsFit.AnswersFit as its
use Rattle.sl_due_leases.proofs.laws.ways.answers_fit.Goals as goal

pub returns : goal.returns
returns c = its.answers_fit
