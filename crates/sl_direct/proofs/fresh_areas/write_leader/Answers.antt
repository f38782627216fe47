-- The record is that of a leader of either kind.
use Rattle.sl_area.specs.AreaSizes.{layout_of}
use Rattle.sl_area.specs.AreaRecords.{fresh_leader, leader_record}
use Rattle.sl_area.specs.AreaLayout.{leader_offset}
use Rattle.sl_area.specs.Roles.{place_at}
use Rattle.sl_direct.proofs.FreshLaws.{broke_as, wrote_as}
use Rattle.sl_direct.proofs.fresh_areas.write_leader.Goals as goal
use Rattle.std.proofs.Common.{ap, ◌∙◌}

pub returns-clause-ok : goal.returns-clause-ok
returns-clause-ok g c =
    let layout = layout_of c.args.geometry in
    wrote_as c.write_record.result c.leader_place.result (place_at c.args.geometry (leader_offset c.args.base)) c.leader_record.result
    (leader_record layout (fresh_leader layout c.args.lockspace c.args.resource)) _ _ c.leader_place.ensures
    (c.leader_record.ensures ∙ ap (leader_record layout) c.fresh_leader-leader.ensures) c.write_record.ensures.ok

pub returns-clause-failed : goal.returns-clause-failed
returns-clause-failed g c =
    let layout = layout_of c.args.geometry in
    broke_as c.write_record.result c.leader_place.result (place_at c.args.geometry (leader_offset c.args.base)) c.leader_record.result
    (leader_record layout (fresh_leader layout c.args.lockspace c.args.resource)) _ _ c.leader_place.ensures
    (c.leader_record.ensures ∙ ap (leader_record layout) c.fresh_leader-leader.ensures) c.write_record.ensures.failed
