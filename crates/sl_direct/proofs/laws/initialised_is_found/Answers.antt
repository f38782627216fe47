use Rattle.sl_direct.proofs.AreaLaws as its
use Rattle.sl_direct.proofs.laws.initialised_is_found.Goals as goal

pub returns : goal.returns
returns c = its.initialised_is_found
