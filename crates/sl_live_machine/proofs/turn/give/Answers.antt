use Rattle.sl_live_machine.proofs.SeatLaws.{on_err}
use Rattle.sl_live_machine.proofs.turn.give.Goals as goal

pub returns-in_err-effects-clause-err : goal.returns-in_err-effects-clause-err
returns-in_err-effects-clause-err g c =
    on_err c.from_residual.result (c.deref_mut.result.now.children, c.give.new.self.children, c.in_err-effects.ensures.err)
