use Rattle.sl_trace.proofs.TraceFacts.{submitted-push}
use Rattle.sl_trace.proofs.laws.calls_grow.Goals as goal

pub returns : goal.returns
returns c = submitted-push
