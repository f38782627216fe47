use Rattle.sl_due_facts.proofs.AddedEffects.MovesLeaveCalls as its
use Rattle.sl_due_facts.proofs.laws.added_effects.moves_leave_calls.Goals as goal

pub returns : goal.returns
returns c = its.moves_leave_calls
