use Rattle.sl_live_machine.proofs.SeatLaws.{on_ok, turn_gave, wakes_on}
use Rattle.sl_live_machine.proofs.ticker.wake.Goals as goal
use Rattle.sl_trace.specs.declared.input.Input.TheVariants.{Wake}

pub returns : goal.returns
returns g c =
    let st = g.J.Station.setting in
    let gave = turn_gave g.P.Spawner.acts g.P.Spawner.faults g.P.Spawner.running st (g.C.Clock.last c.give.new.clock) c.in_ok-turn.turn.effects Wake c.args.seat.now c.give.new.seat
    c.in_ok-turn.ensures.made in
    on_ok c.end_turn.result (wakes_on st c.args.seat.now c.give.new.seat gave)
