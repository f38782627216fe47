use Rattle.sl_examples.proofs.Ballots.OverlapHistory.{overlap_breaks}
use Rattle.sl_examples.proofs.laws.ballots.overlap_breaks.Goals as goal

pub returns : goal.returns
returns c = overlap_breaks
