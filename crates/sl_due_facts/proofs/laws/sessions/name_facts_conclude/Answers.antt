use Rattle.sl_due_facts.proofs.Sessions.NameFactsConclude as its
use Rattle.sl_due_facts.proofs.laws.sessions.name_facts_conclude.Goals as goal

pub returns : goal.returns
returns c = its.name_facts_conclude
