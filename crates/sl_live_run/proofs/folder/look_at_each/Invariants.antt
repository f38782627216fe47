-- No disk so far stands.
use Rattle.sl_live_run.proofs.folder.look_at_each.Given as goal
use Rattle.sl_run.specs.declared.header.Disk.{Disk}
use Rattle.std.proofs.Common.{None, take, ◌++◌, ◌≡◌, ◌≤◌}
use Rattle.std.specs.Prelude.{All}

abbrev pub invariant-loop-disk : goal.invariant-loop-disk
invariant-loop-disk g l = record {
  free : All (λ (d : Disk). g.V.Devices.disks l.fn.devices (l.folder ++ d.path) ≡ None) (take l.disk-index l.disk-items);
  same : g.V.Devices.disks l.devices ≡ g.V.Devices.disks l.fn.devices;
  lendings : g.V.Devices.lendings l.devices ≡ g.V.Devices.lendings l.fn.devices;
  later : g.V.Devices.faults l.fn.devices ≤ g.V.Devices.faults l.devices;
}
