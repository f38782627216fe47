use Rattle.sl_watch.proofs.SightingLaws.{bytes_are_read_true}
use Rattle.sl_watch.proofs.laws.bytes_are_read_true.Goals as goal

pub returns : goal.returns
returns c = bytes_are_read_true
