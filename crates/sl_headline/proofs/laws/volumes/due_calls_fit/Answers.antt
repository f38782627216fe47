use Rattle.sl_headline.proofs.Volumes.DueCallsFit.{due_calls_fit}
use Rattle.sl_headline.proofs.laws.volumes.due_calls_fit.Goals as goal

pub returns : goal.returns
returns c = due_calls_fit
