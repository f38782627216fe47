use Rattle.sl_top.proofs.LiveLaws as its
use Rattle.sl_top.proofs.laws.live_histories_are_good.Goals as goal

pub returns : goal.returns
returns g c = its.live_histories_are_good _
