use Rattle.sl_id_safety.proofs.Steps.EventsAreSteps.{entries_go_on}
use Rattle.sl_id_safety.proofs.laws.steps.entries_go_on.Goals as goal

pub returns : goal.returns
returns c = entries_go_on
