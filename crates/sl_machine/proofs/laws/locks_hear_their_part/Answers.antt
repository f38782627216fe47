use Rattle.sl_machine.proofs.PartsHeard as parts
use Rattle.sl_machine.proofs.laws.locks_hear_their_part.Goals as goal

pub returns : goal.returns
returns c = parts.locks_hear_their_part
