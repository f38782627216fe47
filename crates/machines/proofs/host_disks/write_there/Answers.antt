use Rattle.machines.proofs.host_disks.write_there.Goals as goal
use Rattle.sl_live_run.proofs.WriteLaws.{resource_named}

pub write_resource-requires-clause-named : goal.write_resource-requires-clause-named
write_resource-requires-clause-named c = resource_named c.args.header.now c.args.line.now c.requires.header c.requires.line
