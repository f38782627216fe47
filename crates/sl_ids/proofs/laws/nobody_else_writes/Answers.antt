use Rattle.sl_ids.proofs.InterfaceLaws.{nobody_else}
use Rattle.sl_ids.proofs.laws.nobody_else_writes.Goals as goal

pub returns : goal.returns
returns c = nobody_else
