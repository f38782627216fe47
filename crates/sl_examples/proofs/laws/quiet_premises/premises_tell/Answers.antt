use Rattle.sl_examples.proofs.QuietPremises.PremisesTell.{premises_tell}
use Rattle.sl_examples.proofs.laws.quiet_premises.premises_tell.Goals as goal

pub returns : goal.returns
returns c = premises_tell
