use Rattle.sl_examples.proofs.RefusedTraces.{traces_are_refused}
use Rattle.sl_examples.proofs.schedules_show.traces_are_refused.Goals as goal

pub returns : goal.returns
returns c = traces_are_refused
