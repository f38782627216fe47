use Rattle.sl_direct.proofs.AreaLaws as its
use Rattle.sl_direct.proofs.laws.leader_is_last.Goals as goal

pub returns : goal.returns
returns c = its.leader_is_last
