use Rattle.sl_schedule.proofs.SizeLaws.{some_sized}
use Rattle.sl_schedule.proofs.area_sizes.sizes_of.Goals as goal
use Rattle.sl_run.specs.Worlds.{mebibyte}
use Rattle.std.proofs.Common.{◌*◌, ◌∙◌}

pub returns : goal.returns
returns c =
    c.ok.ensures.value
    ∙ some_sized c.args.areas.now.sector (c.args.areas.now.mebibytes * mebibyte) c.args.hosts c.args.paired
    (c.in_ok-sector.sector, c.in_ok-sector.area, c.in_ok-sector.field-0-2) c.sized.result c.in_ok-sector.ensures c.sized.ensures.ok c.sized.ensures.value
