use Rattle.sl_headline.proofs.Volumes.LocksAreHeld.{locks_are_held}
use Rattle.sl_headline.proofs.laws.volumes.locks_are_held.Goals as goal

pub returns : goal.returns
returns c = locks_are_held
