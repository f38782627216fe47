-- The sector was read, and compared.
use Rattle.sl_area.specs.AreaLayout.{leader_offset}
use Rattle.sl_area.specs.Roles.{place_at}
use Rattle.sl_standing.proofs.AreaLaws.{leader_faults, leader_lacks, resource_base, sector_at}
use Rattle.sl_standing.proofs.leaders.check_resource.Goals as goal
use Rattle.std.proofs.Common.{rules}

pub leader_place-requires : goal.leader_place-requires
leader_place-requires g c = resource_base c.args.header.now c.args.line.now c.requires.header c.requires.line

pub returns-in_err-read-clause-lacks : goal.returns-in_err-read-clause-lacks
returns-in_err-read-clause-lacks g c = leader_faults c.from_residual.result c.args.header.now _ _ _ c.args.line.now c.from_residual.ensures.1 c.in_err-read.ensures.cause.failed

pub returns-clause-lacks : goal.returns-clause-lacks
returns-clause-lacks g c =
    let h = c.args.header.now in
    leader_lacks c.compare.result h _ _ _ c.args.line.now c.read.new.buffer
    (sector_at h _ c.leader_place.result (place_at h.geometry (leader_offset c.args.line.now.offset)) c.read.new.buffer c.leader_place.ensures (search rules)
    c.in_ok-read.ensures.bytes) c.compare.ensures
