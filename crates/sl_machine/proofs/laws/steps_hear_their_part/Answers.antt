use Rattle.sl_machine.proofs.PartsHeard as parts
use Rattle.sl_machine.proofs.laws.steps_hear_their_part.Goals as goal

pub returns : goal.returns
returns c = parts.steps_hear_their_part
