use Rattle.sl_watch.proofs.ToldLaws.{watches_are_told}
use Rattle.sl_watch.proofs.laws.watches_are_told.Goals as goal

pub returns : goal.returns
returns c = watches_are_told
