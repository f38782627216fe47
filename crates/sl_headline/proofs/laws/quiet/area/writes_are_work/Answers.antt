use Rattle.sl_headline.proofs.Quiet.Area.WritesAreWork.{writes_are_work}
use Rattle.sl_headline.proofs.laws.quiet.area.writes_are_work.Goals as goal

pub returns : goal.returns
returns c = writes_are_work
