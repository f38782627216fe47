use Rattle.sl_picture.proofs.LinesMove.{lines_move_bars}
use Rattle.sl_picture.proofs.laws.lines_move_bars.Goals as goal

pub returns : goal.returns
returns c = lines_move_bars
