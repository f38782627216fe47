use Rattle.sl_live_run.proofs.RunLaws.{told_on}
use Rattle.sl_live_run.proofs.beside.beside_script.Goals as goal
use Rattle.std.proofs.Common.{rules}

pub returns-clause-told : goal.returns-clause-told
returns-clause-told g c = λ count so put.
    told_on g.L.LiveLines.has_given _ _ _ _ _ _ _ _ _ (search rules) (search rules) (search rules) (c.join_mut-told.ensures.1.met.1 count so put)
