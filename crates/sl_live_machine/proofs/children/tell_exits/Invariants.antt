use Rattle.sl_live.specs.Turns.{IsChildThread}
use Rattle.sl_live_machine.proofs.children.tell_exits.Given as goal

abbrev pub invariant-loop : goal.invariant-loop
invariant-loop g l = IsChildThread l.seat
