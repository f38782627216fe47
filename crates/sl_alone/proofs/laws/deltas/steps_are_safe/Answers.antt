use Rattle.sl_alone.proofs.DeltaSafe as lemmas
use Rattle.sl_alone.proofs.laws.deltas.steps_are_safe.Goals as goal

pub returns : goal.returns
returns c = lemmas.steps_are_safe
