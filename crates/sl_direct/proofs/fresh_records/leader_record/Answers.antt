use Rattle.sl_area.proofs.FreshRecords.{leader_with_pairs, leader_without}
use Rattle.sl_area.specs.AreaSizes.{layout_of}
use Rattle.sl_direct.proofs.fresh_records.leader_record.Goals as goal
use Rattle.std.proofs.Common.{sym}

pub returns-then-is_paired : goal.returns-then-is_paired
returns-then-is_paired c = leader_with_pairs (layout_of c.args.geometry) c.args.leader (sym c.if-is_paired.ensures.exact)

pub returns-else-is_paired : goal.returns-else-is_paired
returns-else-is_paired c = leader_without (layout_of c.args.geometry) c.args.leader (sym c.if-is_paired.ensures.exact)
