use Rattle.sl_live_machine.proofs.SeatLaws.{lines_on, turn_gave}
use Rattle.sl_live_machine.proofs.lines.give_line.Goals as goal

pub returns : goal.returns
returns g c =
    let st = g.J.Station.setting in
    let gave = turn_gave g.P.Spawner.acts g.P.Spawner.faults g.P.Spawner.running st (g.C.Clock.last c.give.new.clock) c.in_ok-turn.turn.effects c.args.input c.args.seat.now c.give.new.seat
    c.in_ok-turn.ensures.made in
    lines_on st c.args.input c.args.seat.now c.give.new.seat c.requires gave
