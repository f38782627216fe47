use Rattle.sl_due_facts.proofs.AddedEffects.EffectsAreTold as its
use Rattle.sl_due_facts.proofs.laws.added_effects.effects_are_told.Goals as goal

pub returns : goal.returns
returns c = its.effects_are_told
