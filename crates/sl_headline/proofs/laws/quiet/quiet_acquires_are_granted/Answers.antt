use Rattle.sl_headline.proofs.Quiet.Start.QuietIsGranted.{quiet_acquires_are_granted}
use Rattle.sl_headline.proofs.laws.quiet.quiet_acquires_are_granted.Goals as goal

pub returns : goal.returns
returns c = quiet_acquires_are_granted
