use Rattle.sl_id_safety.proofs.Steps.EventsAreSteps.{endings_go_on}
use Rattle.sl_id_safety.proofs.laws.steps.endings_go_on.Goals as goal

pub returns : goal.returns
returns c = endings_go_on
