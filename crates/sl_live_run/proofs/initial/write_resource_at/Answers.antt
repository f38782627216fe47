-- The resource and its lockspace have names, and its area begins where one may.
use Rattle.sl_live_run.proofs.WriteLaws.{resource_named}
use Rattle.sl_live_run.proofs.initial.write_resource_at.Goals as goal

pub write_resource-requires-clause-named : goal.write_resource-requires-clause-named
write_resource-requires-clause-named g c = resource_named c.args.header.now c.args.line.now c.requires.header c.requires.line
