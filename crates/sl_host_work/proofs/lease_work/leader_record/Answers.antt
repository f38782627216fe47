use Rattle.sl_area.specs.AreaSizes.{layout_of}
use Rattle.sl_host_work.proofs.BlocksStand.{leader_as}
use Rattle.sl_host_work.proofs.lease_work.leader_record.Goals as goal
use Rattle.std.specs.Prelude.{false, true}

pub returns-then-is_paired-clause-exact : goal.returns-then-is_paired-clause-exact
returns-then-is_paired-clause-exact c = leader_as (layout_of c.args.host.now.kept.config.sizes) c.args.leader true c.if-is_paired.ensures

pub returns-else-is_paired-clause-exact : goal.returns-else-is_paired-clause-exact
returns-else-is_paired-clause-exact c = leader_as (layout_of c.args.host.now.kept.config.sizes) c.args.leader false c.if-is_paired.ensures
