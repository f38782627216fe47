use Rattle.sl_due_facts.proofs.AddedEffects.JoinedCallsKeepOrder as its
use Rattle.sl_due_facts.proofs.laws.added_effects.joined_calls_keep_order.Goals as goal

pub returns : goal.returns
returns c = its.joined_calls_keep_order
