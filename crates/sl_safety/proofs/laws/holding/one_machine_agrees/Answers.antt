use Rattle.sl_safety.proofs.Holding.Holders.{one_machine_agrees}
use Rattle.sl_safety.proofs.laws.holding.one_machine_agrees.Goals as goal

pub returns : goal.returns
returns c = one_machine_agrees
