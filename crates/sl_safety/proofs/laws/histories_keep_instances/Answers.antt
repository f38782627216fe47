use Rattle.sl_safety.proofs.HistoriesAreLawful.{keep_instances}
use Rattle.sl_safety.proofs.laws.histories_keep_instances.Goals as goal

pub returns : goal.returns
returns c = keep_instances
