use Rattle.sl_safety.proofs.Pairs.PairsAreLogs.{pairs_are_logs}
use Rattle.sl_safety.proofs.laws.host_pairs.pairs_are_logs.Goals as goal

pub returns : goal.returns
returns c = pairs_are_logs
