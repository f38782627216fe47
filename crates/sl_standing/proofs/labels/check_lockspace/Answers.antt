-- The sector was read, and compared.
use Rattle.sl_area.specs.AreaLayout.{value_offset}
use Rattle.sl_area.specs.AreaSizes.{layout_of}
use Rattle.sl_area.specs.Roles.{place_at}
use Rattle.sl_standing.proofs.AreaLaws.{label_faults, label_lacks, labelled, lockspace_base, sector_at}
use Rattle.sl_standing.proofs.labels.check_lockspace.Goals as goal
use Rattle.std.proofs.Common.{rules}

pub value_place-requires : goal.value_place-requires
value_place-requires g c = lockspace_base c.args.header.now c.args.line.now c.requires.header c.requires.line

pub returns-in_err-read-clause-lacks : goal.returns-in_err-read-clause-lacks
returns-in_err-read-clause-lacks g c = label_faults c.from_residual.result c.args.header.now _ _ _ c.args.line.now c.from_residual.ensures.1 c.in_err-read.ensures.cause.failed

pub returns-clause-ok : goal.returns-clause-ok
returns-clause-ok g c =
    let h = c.args.header.now in
    labelled c.compare.result h _ c.args.line.now c.label_of.result c.read.new.buffer c.label_of.ensures
    (sector_at h _ c.value_place.result (place_at h.geometry (value_offset (layout_of h.geometry) c.args.line.now.offset)) c.read.new.buffer c.value_place.ensures (search rules)
    c.in_ok-read.ensures.bytes) c.compare.ensures.ok

pub returns-clause-lacks : goal.returns-clause-lacks
returns-clause-lacks g c =
    let h = c.args.header.now in
    label_lacks c.compare.result h _ _ _ c.args.line.now c.label_of.result c.read.new.buffer c.label_of.ensures
    (sector_at h _ c.value_place.result (place_at h.geometry (value_offset (layout_of h.geometry) c.args.line.now.offset)) c.read.new.buffer c.value_place.ensures (search rules)
    c.in_ok-read.ensures.bytes) c.compare.ensures.differs
