use Rattle.sl_examples.proofs.RefusedByLaw.{laws_refuse}
use Rattle.sl_examples.proofs.schedules_show.laws_refuse.Goals as goal

pub returns : goal.returns
returns c = laws_refuse
