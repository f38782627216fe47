use Rattle.sl_ballot_law.proofs.PairLogs.LogsStand.{logs_stand}
use Rattle.sl_ballot_law.proofs.laws.pair_logs.logs_stand.Goals as goal

pub returns : goal.returns
returns c = logs_stand
