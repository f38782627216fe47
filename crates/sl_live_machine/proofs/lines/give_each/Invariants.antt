use Rattle.sl_live.specs.Turns.{IsLineThread}
use Rattle.sl_live_machine.proofs.lines.give_each.Given as goal

abbrev pub invariant-loop : goal.invariant-loop
invariant-loop g l = IsLineThread l.fn.seat → IsLineThread l.seat
