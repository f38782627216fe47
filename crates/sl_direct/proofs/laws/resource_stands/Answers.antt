use Rattle.sl_direct.proofs.AreaLaws as its
use Rattle.sl_direct.proofs.laws.resource_stands.Goals as goal

pub returns : goal.returns
returns c = its.resource_stands
