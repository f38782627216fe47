use Rattle.sl_generate.proofs.StillTime.{time_may_stand_still}
use Rattle.sl_generate.proofs.laws.timely.time_may_stand_still.Goals as goal

pub returns : goal.returns
returns c = time_may_stand_still
