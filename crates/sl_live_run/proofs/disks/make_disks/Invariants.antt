-- The devices' count never falls; what stood stands, unless it is made anew.
use Rattle.sl_live_run.proofs.disks.make_disks.Given as goal
use Rattle.sl_outside.specs.Disks.{Stay}
use Rattle.std.proofs.Common.{false, ◌≡◌, ◌≤◌}

abbrev pub invariant-loop-disk : goal.invariant-loop-disk
invariant-loop-disk g l = record {
  later : g.V.Devices.faults l.fn.devices ≤ g.V.Devices.faults l.devices;
  lendings : g.V.Devices.lendings l.devices ≡ g.V.Devices.lendings l.fn.devices;
  kept : l.anew ≡ false → Stay (g.V.Devices.disks l.fn.devices) (g.V.Devices.disks l.devices);
}
