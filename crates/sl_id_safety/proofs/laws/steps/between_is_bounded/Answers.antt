use Rattle.sl_id_safety.proofs.Steps.EventsAreSteps.{between_is_bounded}
use Rattle.sl_id_safety.proofs.laws.steps.between_is_bounded.Goals as goal

pub returns : goal.returns
returns c = between_is_bounded
