-- The readings so far are those of the clocks so far.
use Rattle.sl_live_run.proofs.clocks.start_clocks.Given as goal
use Rattle.sl_live_run.specs.Clocks.{readings_from}
use Rattle.std.proofs.Common.{length, ◌≡◌}

abbrev pub invariant-loop-before : goal.invariant-loop-before
invariant-loop-before g l = record {
  readings : l.readings.items ≡ readings_from g.V.Clock.Clock.last 1 l.clocks.items;
  each : length l.clocks.items ≡ l.before;
  lendings : g.V.Devices.lendings l.devices ≡ g.V.Devices.lendings l.fn.devices;
  count : g.V.Devices.faults l.devices ≡ g.V.Devices.faults l.fn.devices;
}
