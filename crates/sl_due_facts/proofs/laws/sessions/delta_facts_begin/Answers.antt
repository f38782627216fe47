use Rattle.sl_due_facts.proofs.Sessions.DeltaFactsBegin as its
use Rattle.sl_due_facts.proofs.laws.sessions.delta_facts_begin.Goals as goal

pub returns : goal.returns
returns c = its.delta_facts_begin
