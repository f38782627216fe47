use Rattle.sl_ballot_law.proofs.Pairs.ShowLaws.{show_newest}
use Rattle.sl_ballot_law.proofs.laws.pairs.pairs_show_newest.Goals as goal

pub returns : goal.returns
returns c = show_newest
