use Rattle.sl_area.specs.AreaSizes.{layout_of}
use Rattle.sl_member.proofs.leases.set_values.Goals as goal
use Rattle.sl_member.specs.Leases.{value_set}
use Rattle.std.proofs.Common.{rules}
use Rattle.std.proofs.lemmas.List.Edits.{map_over_more}

pub loop-lease-preserved : goal.loop-lease-preserved
loop-lease-preserved c = search (rules, map_over_more (value_set (layout_of c.args.geometry.now) c.args.path.now c.args.offset c.args.value))
