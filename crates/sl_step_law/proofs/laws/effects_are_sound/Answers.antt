use Rattle.sl_step_law.proofs.EffectsAreSound as its
use Rattle.sl_step_law.proofs.laws.effects_are_sound.Goals as goal

pub returns : goal.returns
returns c = its.effects_are_sound
