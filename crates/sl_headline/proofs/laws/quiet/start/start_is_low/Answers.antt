use Rattle.sl_headline.proofs.Quiet.Start.StartIsLow.{start_is_low}
use Rattle.sl_headline.proofs.laws.quiet.start.start_is_low.Goals as goal

pub returns : goal.returns
returns c = start_is_low
