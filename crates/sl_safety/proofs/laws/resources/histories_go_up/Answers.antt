use Rattle.sl_safety.proofs.Resources.Bases.{go_up}
use Rattle.sl_safety.proofs.laws.resources.histories_go_up.Goals as goal

pub returns : goal.returns
returns c = go_up
