use Rattle.sl_due_leases.proofs.Ways.NextsFit.AnswersFit as its
use Rattle.sl_due_leases.proofs.laws.ways.releases_fit.Goals as goal

pub returns : goal.returns
returns c = its.releases_fit
