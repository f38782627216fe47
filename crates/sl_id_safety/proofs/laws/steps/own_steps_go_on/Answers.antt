use Rattle.sl_id_safety.proofs.Steps.QuietEvents.{own_steps_go_on}
use Rattle.sl_id_safety.proofs.laws.steps.own_steps_go_on.Goals as goal

pub returns : goal.returns
returns c = own_steps_go_on
