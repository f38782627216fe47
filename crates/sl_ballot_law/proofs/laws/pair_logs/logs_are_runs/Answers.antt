use Rattle.sl_ballot_law.proofs.PairLogs.RunSteps.{logs_are_runs}
use Rattle.sl_ballot_law.proofs.laws.pair_logs.logs_are_runs.Goals as goal

pub returns : goal.returns
returns c = logs_are_runs
