use Rattle.sl_live.specs.Turns.{MakesTurn}
use Rattle.sl_live_machine.proofs.SeatLaws.{answers_so}
use Rattle.sl_live_machine.proofs.worker.answer.Goals as goal
use Rattle.sl_live_machine.specs.ThreadTurns.{OnChildren}
use Rattle.sl_trace.specs.declared.input.Input.TheVariants.{Answer as Told}

pub returns : goal.returns
returns g c =
    let made = c.in_ok-answer.ensures in
    answers_so g.A.Area.content g.A.Area.faults c.args.room.now.geometry.sector c.args.call.now c.args.disks.now c.make.new.disks c.in_ok-answer.answer
    (λ t a. OnChildren (λ before after. MakesTurn g.P.Spawner.acts g.P.Spawner.faults g.P.Spawner.running g.J.Station.setting (g.C.Clock.last c.give.new.clock) t.effects
    (Told c.args.call.now.number a) before after c.args.seat.now c.give.new.seat)) c.give.result
    (record { no_disk = made.no_disk; no_bytes = made.no_bytes; made = made.made; kind = made.kind }) c.give.ensures.made
