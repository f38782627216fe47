use Rattle.sl_due_facts.proofs.Acts.CallsAreOwned as its
use Rattle.sl_due_facts.proofs.laws.acts.hosts_own_their_calls.Goals as goal

pub returns : goal.returns
returns c = its.hosts_own_their_calls
