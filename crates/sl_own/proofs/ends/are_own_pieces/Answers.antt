-- All put as many as they counted.
use Rattle.sl_own.proofs.SettleLaws.{own_pieces}
use Rattle.sl_own.proofs.ends.are_own_pieces.Goals as goal

pub returns-in-Ok : goal.returns-in-Ok
returns-in-Ok g c = λ is.
    own_pieces c.args.place c.in-Ok.writers.items c.args.own c.args.script c.args.pieces.now c.in-Ok.ensures (c.have_put.ensures.exact is) (c.have_put.ensures.below is)
