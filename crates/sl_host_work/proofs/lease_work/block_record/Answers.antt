use Rattle.sl_area.specs.AreaSizes.{layout_of}
use Rattle.sl_host_work.proofs.BlocksStand.{block_as}
use Rattle.sl_host_work.proofs.lease_work.block_record.Goals as goal
use Rattle.std.proofs.Common.{◌∙◌}
use Rattle.std.specs.Prelude.{[], false, true, unwrap_or}

pub returns-then-is_paired-clause-exact : goal.returns-then-is_paired-clause-exact
returns-then-is_paired-clause-exact c =
    let a = c.args in
    c.pair_record.ensures.exact ∙ block_as (layout_of a.host.now.kept.config.sizes) a.turn a.who.now.lockspace (unwrap_or a.name []) a.block true c.if-is_paired.ensures

pub returns-else-is_paired-clause-exact : goal.returns-else-is_paired-clause-exact
returns-else-is_paired-clause-exact c =
    let a = c.args in
    block_as (layout_of a.host.now.kept.config.sizes) a.turn a.who.now.lockspace (unwrap_or a.name []) a.block false c.if-is_paired.ensures
