use Rattle.sl_host_state.proofs.EffectsAreTaken as its
use Rattle.sl_host_state.proofs.laws.effects_are_taken.Goals as goal

pub returns : goal.returns
returns c = its.effects_are_taken
