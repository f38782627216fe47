use Rattle.sl_ids.proofs.InterfaceLaws.{earlier}
use Rattle.sl_ids.proofs.laws.earlier_are_over.Goals as goal

pub returns : goal.returns
returns c = earlier
