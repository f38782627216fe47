-- The lockspace's area begins where one may, and the record of an id keeps its rules.
use Rattle.sl_live_run.proofs.WriteLaws.{delta_is, lockspace_base}
use Rattle.sl_live_run.proofs.initial.write_delta.Goals as goal
use Rattle.sl_sector.specs.Records.{IsDelta}
use Rattle.std.proofs.Common.{subst, sym}

pub delta_place-at-requires-clause-base : goal.delta_place-at-requires-clause-base
delta_place-at-requires-clause-base g c = lockspace_base c.args.header.now c.args.line.now c.requires.header c.requires.line

pub write_record-requires-clause-rules : goal.write_record-requires-clause-rules
write_record-requires-clause-rules g c =
    subst IsDelta (sym c.initial_delta.ensures)
    (delta_is c.args.header.now c.args.line.now c.args.id c.requires.header c.requires.line c.requires.id.0 c.requires.id.1)
