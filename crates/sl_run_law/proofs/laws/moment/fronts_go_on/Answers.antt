use Rattle.sl_run_law.proofs.Moment.LaterThanFront.{fronts_go}
use Rattle.sl_run_law.proofs.laws.moment.fronts_go_on.Goals as goal

pub returns : goal.returns
returns c = fronts_go
