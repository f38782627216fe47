-- Those so far stand, each with its size.
use Rattle.sl_own.proofs.place.look_at_each.Given as goal
use Rattle.sl_own.specs.OwnGrounds.{HasSize}
use Rattle.std.proofs.Common.{take, ◌≡◌}
use Rattle.std.specs.Prelude.{All}

abbrev pub invariant-loop-disk : goal.invariant-loop-disk
invariant-loop-disk g l = record {
  sizes : All (HasSize (g.V.Devices.disks l.fn.devices) l.folder) (take l.disk-index l.disk-items);
  same : g.V.Devices.disks l.devices ≡ g.V.Devices.disks l.fn.devices;
  lendings : g.V.Devices.lendings l.devices ≡ g.V.Devices.lendings l.fn.devices;
  count : g.V.Devices.faults l.devices ≡ g.V.Devices.faults l.fn.devices;
}
