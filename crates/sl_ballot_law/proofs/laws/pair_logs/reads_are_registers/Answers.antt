use Rattle.sl_ballot_law.proofs.PairLogs.RegistersAreRead.{reads_are_registers}
use Rattle.sl_ballot_law.proofs.laws.pair_logs.reads_are_registers.Goals as goal

pub returns : goal.returns
returns c = reads_are_registers
