use Rattle.sl_picture.proofs.BarsBegin.{bars_begin}
use Rattle.sl_picture.proofs.laws.bars_begin.Goals as goal

pub returns : goal.returns
returns c = bars_begin
