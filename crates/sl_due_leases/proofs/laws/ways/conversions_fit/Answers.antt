use Rattle.sl_due_leases.proofs.Ways.NextsFit.AnswersFit as its
use Rattle.sl_due_leases.proofs.laws.ways.conversions_fit.Goals as goal

pub returns : goal.returns
returns c = its.conversions_fit
