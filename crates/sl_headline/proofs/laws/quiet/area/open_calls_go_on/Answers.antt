use Rattle.sl_headline.proofs.Quiet.Area.OpenCalls.{open_calls_go_on}
use Rattle.sl_headline.proofs.laws.quiet.area.open_calls_go_on.Goals as goal

pub returns : goal.returns
returns c = open_calls_go_on
