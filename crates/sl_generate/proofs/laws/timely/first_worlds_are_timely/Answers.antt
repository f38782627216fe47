use Rattle.sl_generate.proofs.TimelyWorlds.{first_worlds_are_timely}
use Rattle.sl_generate.proofs.laws.timely.first_worlds_are_timely.Goals as goal

pub returns : goal.returns
returns c = first_worlds_are_timely
