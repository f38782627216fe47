use Rattle.sl_safety.proofs.Grant.GrantLaws.{exclusive_grants_are}
use Rattle.sl_safety.proofs.laws.grant.exclusive_grants_are.Goals as goal

pub returns : goal.returns
returns c = exclusive_grants_are
