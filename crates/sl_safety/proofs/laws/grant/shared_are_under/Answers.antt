use Rattle.sl_safety.proofs.Grant.GrantLaws.{shared_are_under}
use Rattle.sl_safety.proofs.laws.grant.shared_are_under.Goals as goal

pub returns : goal.returns
returns c = shared_are_under
