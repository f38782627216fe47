-- An area of each disk so far is handed out.
use Rattle.sl_live_run.proofs.disks.lend_each.Given as goal
use Rattle.sl_live_run.specs.Areas.{AreLent}
use Rattle.std.proofs.Common.{take, ◌≡◌}

abbrev pub invariant-loop-disk : goal.invariant-loop-disk
invariant-loop-disk g l = record {
  lent : AreLent g.V.Area.Area.content l.folder l.header l.machine l.part (take l.disk-index l.disk-items) l.disks.items (g.V.Devices.lendings l.fn.devices) (g.V.Devices.lendings l.devices);
  count : g.V.Devices.faults l.devices ≡ g.V.Devices.faults l.fn.devices;
}
