use Rattle.sl_id_safety.proofs.Steps.Samplings.{samplings_go_on}
use Rattle.sl_id_safety.proofs.laws.steps.samplings_go_on.Goals as goal

pub returns : goal.returns
returns c = samplings_go_on
