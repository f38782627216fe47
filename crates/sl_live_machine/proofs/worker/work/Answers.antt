use Rattle.sl_cell.specs.Seats.{SeatState}
use Rattle.sl_live_machine.proofs.WorkChains.{works_none, works_of}
use Rattle.sl_live_machine.proofs.worker.work.Goals as goal
use Rattle.std.proofs.Common.{ap}

pub returns-clause-works : goal.returns-clause-works
returns-clause-works g c =
    let none = works_none g.A.Area.content g.A.Area.faults c.args.room.now.geometry.sector g.J.Station.setting c.args.part c.args.disks.now c.seat-seat.result
    (ap (λ (s : SeatState). s.count) c.seat-seat.ensures) (ap (λ (s : SeatState). s.taken) c.seat-seat.ensures) in
    works_of g.A.Area.content g.A.Area.faults c.args.room.now.geometry.sector g.J.Station.setting c.args.part c.args.disks.now c.serve_each.new.disks c.serve_each.new.seat
    (c.in_ok-serve_each.ensures c.args.disks.now none)
