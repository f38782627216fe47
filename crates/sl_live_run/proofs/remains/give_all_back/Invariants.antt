-- What the machines before this one left is back.
use Rattle.sl_live_run.proofs.remains.give_all_back.Given as goal
use Rattle.sl_live_run.specs.Lent.{AreAllBack}
use Rattle.sl_live_run.specs.Runs.{remains_of}
use Rattle.std.proofs.Common.{map}

abbrev pub invariant-loop-left : goal.invariant-loop-left
invariant-loop-left g l =
    AreAllBack g.V.Area.Area.content g.V.Area.Area.faults g.V.Spawner.Spawner.acts (map remains_of l.yielded) (g.V.Devices.lendings l.fn.devices) (g.V.Devices.lendings l.devices)
