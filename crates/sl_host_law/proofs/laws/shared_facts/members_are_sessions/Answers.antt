use Rattle.sl_host_law.proofs.SharedFacts.MembersAreSessions as its
use Rattle.sl_host_law.proofs.laws.shared_facts.members_are_sessions.Goals as goal

pub returns : goal.returns
returns c = its.members_are_sessions
