use Rattle.sl_headline.proofs.Volumes.WholeProgramReads.{locks_are_held_when_due}
use Rattle.sl_headline.proofs.laws.volumes.locks_are_held_when_due.Goals as goal

pub returns : goal.returns
returns c = locks_are_held_when_due
