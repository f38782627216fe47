use Rattle.sl_safety.proofs.Ballot.InstancesHaveReasons.{instances_have_reasons}
use Rattle.sl_safety.proofs.laws.ballot.instances_have_reasons.Goals as goal

pub returns : goal.returns
returns c = instances_have_reasons
