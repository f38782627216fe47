use Rattle.sl_live.specs.declared.disks.Disk.{Disk}
use Rattle.sl_live_machine.proofs.worker.serve_each.Given as goal
use Rattle.sl_live_machine.specs.ThreadTurns.{WorksOn}
use Rattle.std.proofs.Common.{List}

-- what was made so far is made still
abbrev pub invariant-loop : goal.invariant-loop
invariant-loop g l =
    (start : List (Disk g.row.A.Denot)) → WorksOn g.A.Area.content g.A.Area.faults l.room.geometry.sector g.J.Station.setting l.fn.part start l.fn.disks l.fn.seat
    → WorksOn g.A.Area.content g.A.Area.faults l.room.geometry.sector g.J.Station.setting l.fn.part start l.disks l.seat
