use Rattle.sl_due_facts.proofs.AddedEffects.RepliesLeaveCalls as its
use Rattle.sl_due_facts.proofs.laws.added_effects.replies_leave_calls.Goals as goal

pub returns : goal.returns
returns c = its.replies_leave_calls
