use Rattle.sl_id_safety.proofs.Steps.EventsAreSteps.{landings_go_on}
use Rattle.sl_id_safety.proofs.laws.steps.landings_go_on.Goals as goal

pub returns : goal.returns
returns c = landings_go_on
