use Rattle.sl_ids.proofs.InterfaceLaws.{one_over}
use Rattle.sl_ids.proofs.laws.one_is_over.Goals as goal

pub returns : goal.returns
returns c = one_over
