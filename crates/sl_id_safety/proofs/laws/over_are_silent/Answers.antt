use Rattle.sl_id_safety.proofs.OverIsQuiet.{over_are_silent}
use Rattle.sl_id_safety.proofs.laws.over_are_silent.Goals as goal

pub returns : goal.returns
returns c = over_are_silent
