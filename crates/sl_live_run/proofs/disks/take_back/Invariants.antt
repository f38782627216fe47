-- Some are back, and what they counted counts.
use Rattle.sl_live_run.proofs.LentLaws.{AreGoing, IsGoingBack}
use Rattle.sl_live_run.proofs.disks.take_back.Given as goal
use Rattle.std.specs.Prelude.{vec_len}

abbrev pub invariant-loop-disk : goal.invariant-loop-disk
invariant-loop-disk g l = record {
  count : IsGoingBack g.V.Area.Area.faults l.fn.disks.items l.disks.items (g.V.Devices.faults l.fn.devices) (g.V.Devices.faults l.devices);
  back : AreGoing g.V.Area.Area.content g.V.Area.Area.faults l.fn.disks.items l.disks.items (g.V.Devices.lendings l.fn.devices) (g.V.Devices.lendings l.devices);
}

abbrev pub decreases-loop-disk : goal.decreases-loop-disk
decreases-loop-disk g l = vec_len l.disks
