use Rattle.sl_live.specs.Turns.{IsTicker}
use Rattle.sl_live_machine.proofs.ticker.tick.Given as goal

abbrev pub invariant-loop : goal.invariant-loop
invariant-loop g l = IsTicker l.seat
