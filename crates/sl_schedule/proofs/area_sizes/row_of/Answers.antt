use Rattle.sl_schedule.proofs.SizeLaws.{row_is}
use Rattle.sl_schedule.proofs.area_sizes.row_of.Goals as goal
use Rattle.std.proofs.Common.{◌∙◌}

pub returns : goal.returns
returns c = c.row_for.ensures ∙ row_is c.args.areas.now.sector c.args.areas.now.mebibytes
