use Rattle.sl_examples.proofs.QuietPremisesTell.{quiet_premises_tell}
use Rattle.sl_examples.proofs.schedules_show.quiet_premises_tell.Goals as goal

pub returns : goal.returns
returns c = quiet_premises_tell
