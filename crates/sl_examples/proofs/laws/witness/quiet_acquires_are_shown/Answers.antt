use Rattle.sl_examples.proofs.Witness.QuietAcquiresShown.{quiet_acquires_are_shown}
use Rattle.sl_examples.proofs.laws.witness.quiet_acquires_are_shown.Goals as goal

pub returns : goal.returns
returns c = quiet_acquires_are_shown
