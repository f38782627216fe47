use Rattle.sl_host_law.proofs.SharedFacts.MembersAreSessions as its
use Rattle.sl_host_law.proofs.laws.shared_facts.numbers_are_apart.Goals as goal

pub returns : goal.returns
returns c = its.numbers_are_apart
