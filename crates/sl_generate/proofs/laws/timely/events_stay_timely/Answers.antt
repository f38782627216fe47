use Rattle.sl_generate.proofs.TimelyWorlds.{events_stay_timely}
use Rattle.sl_generate.proofs.laws.timely.events_stay_timely.Goals as goal

pub returns : goal.returns
returns c = events_stay_timely
