use Rattle.sl_held.proofs.LinesTell.{lines_tell_holdings}
use Rattle.sl_held.proofs.laws.lines_tell_holdings.Goals as goal

pub returns : goal.returns
returns c = lines_tell_holdings
