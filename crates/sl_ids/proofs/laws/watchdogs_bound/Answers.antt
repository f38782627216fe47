use Rattle.sl_ids.proofs.DerivedLaws.{watchdogs}
use Rattle.sl_ids.proofs.laws.watchdogs_bound.Goals as goal

pub returns : goal.returns
returns c = watchdogs
