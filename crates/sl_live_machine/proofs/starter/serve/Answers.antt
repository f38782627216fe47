use Rattle.sl_live.specs.CarriedOut.{IsTakenStart}
use Rattle.sl_live.specs.Turns.{Starts}
use Rattle.sl_live_machine.proofs.SeatLaws.{made_gave, starter_seen}
use Rattle.sl_live_machine.proofs.StartChains.{or_first, or_second, runs_so, starts_on}
use Rattle.sl_live_machine.proofs.starter.serve.Goals as goal
use Rattle.sl_trace.specs.declared.input.Input.TheVariants.{Spawned}
use Rattle.std.proofs.Common.{subst}

pub returns-clause-thread : goal.returns-clause-thread
returns-clause-thread g c = λ so.
    let took = subst (IsTakenStart c.args.seat.now c.take.new.seat) c.in-Some.is c.in_ok-due.ensures.taken in
    c.in_ok-turn.ensures.thread (starter_seen c.args.seat.now c.take.new.seat took.seen so)

pub returns-clause-starts : goal.returns-clause-starts
returns-clause-starts g c = λ before so.
    let st = g.J.Station.setting in
    let due = c.in-Some.due in
    let took = subst (IsTakenStart c.args.seat.now c.take.new.seat) c.in-Some.is c.in_ok-due.ensures.taken in
    let told = c.in_ok-turn.ensures.tells in
    let ok = told.0 in
    let tells = told.2.2 in
    let w = due.awaited in
    let child = c.start_step-child.result in
    let starts = subst (λ x. Starts g.P.Spawner.acts g.P.Spawner.faults w x c.start_step-child.new.starter child) c.note.ensures.spawner c.start_step-child.ensures.starts in
    starts_on st g.P.Spawner.acts g.P.Spawner.faults c.args.starter.now.killed c.note.new.self.killed due.killed before w c.args.starter.now.spawner c.start_step-child.new.starter
    child ok c.args.seat.now c.take.new.seat c.tell.new.seat (or_first c.args.starter.now.killed due.killed c.note.new.self.killed c.note.ensures.killed)
    (or_second c.args.starter.now.killed due.killed c.note.new.self.killed c.note.ensures.killed) took starts (runs_so ok child tells.takes.none)
    (made_gave g.P.Spawner.acts g.P.Spawner.faults g.P.Spawner.running st (g.C.Clock.last c.tell.new.clock) c.in_ok-turn.turn.effects (Spawned w.start.process ok) tells.taken told.2.1
    c.take.new.seat c.tell.new.seat tells.turn) so
