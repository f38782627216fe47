-- The sectors are apart, so each stands.
use Rattle.sl_area.specs.AreaSizes.{layout_of}
use Rattle.sl_direct.proofs.ActLaws.{writes_broke, writes_done}
use Rattle.sl_direct.proofs.FreshLaws.{resource_apart}
use Rattle.sl_direct.proofs.fresh_areas.init_resource.Goals as goal
use Rattle.sl_direct.specs.FreshAreas.{resource_writes}
use Rattle.sl_direct.specs.Lines.{resource_line}

pub returns-in-Ok-write_resource-clause-acted : goal.returns-in-Ok-write_resource-clause-acted
returns-in-Ok-write_resource-clause-acted g c =
    let r = c.args.resource.now in
    writes_done (resource_writes (layout_of c.args.geometry) r.lockspace r.name r.offset) (resource_line r c.args.geometry.hosts) _ _ _ _
    (resource_apart c.args.geometry r.lockspace r.name r.offset c.requires.action.0 c.requires.action.1 c.requires.action.2) c.in-Ok-write_resource.ensures.ok c.requires.first
    c.in-Ok.ensures.ok

pub returns-in-Err-write_resource-clause-acted : goal.returns-in-Err-write_resource-clause-acted
returns-in-Err-write_resource-clause-acted g c =
    let r = c.args.resource.now in
    writes_broke (resource_writes (layout_of c.args.geometry) r.lockspace r.name r.offset) (resource_line r c.args.geometry.hosts) _ _ _
    (resource_apart c.args.geometry r.lockspace r.name r.offset c.requires.action.0 c.requires.action.1 c.requires.action.2) c.in-Err-write_resource.ensures.failed c.clear.ensures.items
