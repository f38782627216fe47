use Rattle.sl_due_facts.proofs.Sessions.NameFactsAreKept as its
use Rattle.sl_due_facts.proofs.laws.sessions.name_facts_begin.Goals as goal

pub returns : goal.returns
returns c = its.name_facts_begin
