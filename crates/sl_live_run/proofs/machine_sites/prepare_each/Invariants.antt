-- The machines before this one are ready, and the clocks of the others are left.
use Rattle.sl_live_run.proofs.machine_sites.prepare_each.Given as goal
use Rattle.sl_live_run.specs.Clocks.{AreTicks}
use Rattle.sl_live_run.specs.Grounds.{AreReady}
use Rattle.sl_live_run.specs.Lent.{AreAllHad}
use Rattle.sl_live_run.specs.Runs.{disks_in}
use Rattle.std.proofs.Common.{length, map, ◌+◌, ◌≡◌, ◌≤◌}

abbrev pub invariant-loop-before : goal.invariant-loop-before
invariant-loop-before g l = record {
  left : AreTicks g.V.Clock.Clock.last l.header (l.before + 1) l.clocks.items;
  some : length l.clocks.items + l.before ≡ l.header.machines;
  each : length l.machines.items ≡ l.before;
  ready : AreReady g.V.Clock.Clock.last g.V.Spawner.Spawner.running g.V.Spawner.Spawner.acts g.V.Device.Device.last g.V.Device.Device.fire l.header l.machines.items;
  had : AreAllHad g.V.Area.Area.content l.folder l.header 1 (map (λ p. disks_in p.parts) l.machines.items) (g.V.Devices.lendings l.fn.devices) (g.V.Devices.lendings l.devices);
  later : g.V.Devices.faults l.fn.devices ≤ g.V.Devices.faults l.devices;
}
