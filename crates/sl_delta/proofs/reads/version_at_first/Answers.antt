use Rattle.sl_area.specs.AreaSizes.{layout_of}
use Rattle.sl_delta.proofs.WatchLaws.{nothing_spelled}
use Rattle.sl_delta.proofs.reads.version_at_first.Goals as goal
use Rattle.std.proofs.Common.{sym}

pub returns-in-None : goal.returns-in-None
returns-in-None c = λ z. rw c.in-None.is (sym (nothing_spelled (layout_of z)))
