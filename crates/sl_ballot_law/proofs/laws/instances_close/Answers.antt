use Rattle.sl_ballot_law.proofs.InstanceLaws.{instances_close}
use Rattle.sl_ballot_law.proofs.laws.instances_close.Goals as goal

pub returns : goal.returns
returns c = instances_close
