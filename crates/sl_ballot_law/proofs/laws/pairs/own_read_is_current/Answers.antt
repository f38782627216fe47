use Rattle.sl_ballot_law.proofs.Pairs.ReadLaws.{own_read}
use Rattle.sl_ballot_law.proofs.laws.pairs.own_read_is_current.Goals as goal

pub returns : goal.returns
returns c = own_read
