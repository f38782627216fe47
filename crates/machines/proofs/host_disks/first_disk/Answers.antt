use Rattle.machines.proofs.host_disks.first_disk.Goals as goal
use Rattle.sl_live_run.proofs.WriteLaws.{item_inside}

pub write_there-requires-clause-line : goal.write_there-requires-clause-line
write_there-requires-clause-line c =
    item_inside c.args.header.now.resources c.as_slice-resource-items.result.now c.loop-resource.resource-index c.resource-item.result c.as_slice-resource-items.ensures
    c.loop-resource-test.true c.resource-item.is
