use Rattle.sl_headline.proofs.Volumes.DueCallsFit.{due_runs_are_answered}
use Rattle.sl_headline.proofs.laws.volumes.due_runs_are_answered.Goals as goal

pub returns : goal.returns
returns c = due_runs_are_answered
