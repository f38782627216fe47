use Rattle.machines.proofs.BeginLaws.{good_read}
use Rattle.machines.proofs.cell_starts.header_of.Goals as goal

pub returns-in-Ok-Ok : goal.returns-in-Ok-Ok
returns-in-Ok-Ok c = good_read _ _ _ _ c.in-Ok-Ok.header c.headers_are_good.ensures c.in-Ok-Ok.ensures.ok c.in-Ok-Ok.field-0-is
