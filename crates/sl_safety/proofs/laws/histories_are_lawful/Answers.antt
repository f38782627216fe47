use Rattle.sl_safety.proofs.HistoriesAreLawful.{are_lawful}
use Rattle.sl_safety.proofs.laws.histories_are_lawful.Goals as goal

pub returns : goal.returns
returns c = are_lawful
