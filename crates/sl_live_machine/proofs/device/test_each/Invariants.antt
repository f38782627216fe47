use Rattle.sl_live.specs.Turns.{IsDeviceThread}
use Rattle.sl_live_machine.proofs.device.test_each.Given as goal

abbrev pub invariant-loop : goal.invariant-loop
invariant-loop g l = IsDeviceThread l.fn.seat → IsDeviceThread l.seat
