use Rattle.sl_top.proofs.DirectLaws.{acts_on}
use Rattle.sl_top.proofs.top.direct.Goals as goal
use Rattle.std.proofs.Common.{◌∙◌}

pub returns : goal.returns
returns g c =
    acts_on c.args.action.now _ _ _ _ _ _ _ _ _ _ _ _ _ _ _ _ _ _ (c.as_str.ensures ∙ c.path-path.ensures) c.area-area.ensures.disk c.area-area.ensures.fresh c.area-area.ensures.count
    c.run_direct-directed.ensures c.back.ensures.disk c.back.ensures.count c.status_after.ensures
