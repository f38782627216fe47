use Rattle.sl_ids.proofs.InterfaceLaws.{names_one}
use Rattle.sl_ids.proofs.laws.generation_names_one.Goals as goal

pub returns : goal.returns
returns c = names_one
