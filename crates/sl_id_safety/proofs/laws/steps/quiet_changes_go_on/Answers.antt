use Rattle.sl_id_safety.proofs.Steps.EventsAreSteps.{quiet_changes_go_on}
use Rattle.sl_id_safety.proofs.laws.steps.quiet_changes_go_on.Goals as goal

pub returns : goal.returns
returns c = quiet_changes_go_on
