-- The records are apart, so each stands.
use Rattle.sl_area.specs.AreaSizes.{layout_of}
use Rattle.sl_direct.proofs.ActLaws.{writes_broke, writes_done}
use Rattle.sl_direct.proofs.FreshLaws.{lockspace_apart}
use Rattle.sl_direct.proofs.fresh_areas.init_lockspace.Goals as goal
use Rattle.sl_direct.specs.FreshAreas.{lockspace_writes}
use Rattle.sl_direct.specs.Lines.{lockspace_line}

pub returns-in-Ok-write_lockspace-clause-acted : goal.returns-in-Ok-write_lockspace-clause-acted
returns-in-Ok-write_lockspace-clause-acted g c =
    let l = c.args.lockspace.now in
    writes_done (lockspace_writes (layout_of c.args.geometry) l.name l.offset) (lockspace_line l c.args.geometry.hosts) _ _ _ _
    (lockspace_apart c.args.geometry l.name l.offset c.requires.action.0 c.requires.action.1) c.in-Ok-write_lockspace.ensures.ok c.requires.first c.in-Ok.ensures.ok

pub returns-in-Err-write_lockspace-clause-acted : goal.returns-in-Err-write_lockspace-clause-acted
returns-in-Err-write_lockspace-clause-acted g c =
    let l = c.args.lockspace.now in
    writes_broke (lockspace_writes (layout_of c.args.geometry) l.name l.offset) (lockspace_line l c.args.geometry.hosts) _ _ _
    (lockspace_apart c.args.geometry l.name l.offset c.requires.action.0 c.requires.action.1) c.in-Err-write_lockspace.ensures.failed c.clear.ensures.items
