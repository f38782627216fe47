-- An area of each disk so far is handed out; the other disks are as they were.
use Rattle.sl_own.proofs.LendLaws.{AreUntaken}
use Rattle.sl_own.proofs.lending.lend_each.Given as goal
use Rattle.sl_own.specs.OwnGrounds.{AreLeft, FindsOn}
use Rattle.std.proofs.Common.{take, ◌≡◌}

abbrev pub invariant-loop-disk : goal.invariant-loop-disk
invariant-loop-disk g l = record {
  left : AreLeft g.V.Area.Area.content (FindsOn (g.V.Devices.disks l.fn.devices) l.folder l.header l.part) l.folder l.machine l.part (take l.disk-index l.disk-items) l.disks.items
      (g.V.Devices.lendings l.fn.devices) (g.V.Devices.lendings l.devices);
  untaken : AreUntaken (g.V.Devices.disks l.fn.devices) (g.V.Devices.disks l.devices) l.folder (take l.disk-index l.disk-items);
  count : g.V.Devices.faults l.devices ≡ g.V.Devices.faults l.fn.devices;
}
