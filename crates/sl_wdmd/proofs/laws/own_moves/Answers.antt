use Rattle.sl_wdmd.proofs.MoveLaws.{own_moves}
use Rattle.sl_wdmd.proofs.laws.own_moves.Goals as goal

pub returns : goal.returns
returns c = own_moves
