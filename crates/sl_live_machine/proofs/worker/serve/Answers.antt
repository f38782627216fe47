use Rattle.sl_cell.specs.Told.{IsTaken}
use Rattle.sl_live_machine.proofs.SeatLaws.{turn_gave}
use Rattle.sl_live_machine.proofs.WorkChains.{works_on}
use Rattle.sl_live_machine.proofs.worker.serve.Goals as goal
use Rattle.sl_trace.specs.declared.input.Input.TheVariants.{Answer as Told}
use Rattle.std.proofs.Common.{subst}

pub returns-in_ok-turn-in-Some : goal.returns-in_ok-turn-in-Some
returns-in_ok-turn-in-Some g c = λ start w.
    let st = g.J.Station.setting in
    let answered = c.in_ok-turn-in-Some.ensures in
    let call = c.in-Some.call in
    let gave = turn_gave g.P.Spawner.acts g.P.Spawner.faults g.P.Spawner.running st (g.C.Clock.last c.answer.new.clock) c.in_ok-turn-in-Some.turn.effects (Told call.number answered.0)
    c.take.new.seat c.answer.new.seat answered.2 in
    works_on g.A.Area.content g.A.Area.faults c.args.room.now.geometry.sector st c.args.part start c.args.disks.now c.answer.new.disks c.args.seat.now c.take.new.seat c.answer.new.seat call
    answered.0 (subst (IsTaken c.args.part c.args.seat.now c.take.new.seat) c.in-Some.is c.in-Ok.ensures.taken) answered.1 gave w
