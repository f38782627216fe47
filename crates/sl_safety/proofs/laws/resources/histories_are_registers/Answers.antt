use Rattle.sl_safety.proofs.Resources.Registers.{are_registers}
use Rattle.sl_safety.proofs.laws.resources.histories_are_registers.Goals as goal

pub returns : goal.returns
returns c = are_registers
