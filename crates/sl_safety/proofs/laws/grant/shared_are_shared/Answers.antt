use Rattle.sl_safety.proofs.Grant.GrantLaws.{shared_are_shared}
use Rattle.sl_safety.proofs.laws.grant.shared_are_shared.Goals as goal

pub returns : goal.returns
returns c = shared_are_shared
