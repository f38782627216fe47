use Rattle.sl_direct.proofs.UpgradeTold as its
use Rattle.sl_direct.proofs.laws.upgrade_is_told.Goals as goal

pub returns : goal.returns
returns c = its.upgrade_is_told
