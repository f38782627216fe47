use Rattle.sl_cell.specs.Seats.{SeatState}
use Rattle.sl_live_machine.proofs.StartChains.{starts_begun}
use Rattle.sl_live_machine.proofs.starter.start_programs.Goals as goal
use Rattle.std.proofs.Common.{ap}

pub returns-clause-starts : goal.returns-clause-starts
returns-clause-starts g c =
    let begun = starts_begun g.J.Station.setting c.args.starter.now.killed (g.P.Spawner.acts c.args.starter.now.spawner) c.seat-seat.result
    (ap (λ (s : SeatState). s.count) c.seat-seat.ensures) (ap (λ (s : SeatState). s.taken) c.seat-seat.ensures) in
    c.in_ok-start_each.ensures.starts (g.P.Spawner.acts c.args.starter.now.spawner) begun
