use Rattle.sl_safety.proofs.Sessions.FollowingSessions.{sessions_follow}
use Rattle.sl_safety.proofs.laws.sessions.sessions_follow.Goals as goal

pub returns : goal.returns
returns c = sessions_follow
