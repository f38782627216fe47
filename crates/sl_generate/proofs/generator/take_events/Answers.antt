-- One event after another.
use Rattle.sl_generate.proofs.DrawnEvents.{all_drawn, drawing_on, more_drawn}
use Rattle.sl_generate.proofs.generator.take_events.Goals as goal
use Rattle.sl_play.specs.Plays.{state_of}
use Rattle.std.proofs.Common.{arith}

pub loop-number-preserved : goal.loop-number-preserved
loop-number-preserved g c =
    let more = c.loop-number-test.true in
    record {
      within = omega (arith, more);
      drawn =
          more_drawn g.D.Daemon.commands g.D.Daemon.stands (state_of g.L.LockTable.locks c.args.play.now) (state_of g.L.LockTable.locks c.loop-number.play)
          (state_of g.L.LockTable.locks c.take_event.new.play) c.args.seed c.args.events c.loop-number.number c.loop-number.state c.draw_event-draw.new.state c.draw_event-draw.result.a
          c.draw_event-draw.result.b c.draw_event-draw.result.c more c.draw_event-draw.ensures.state c.draw_event-draw.ensures.a c.draw_event-draw.ensures.b c.draw_event-draw.ensures.c
          c.loop-number.invariant.drawn c.in_ok-take_event.ensures;
    }

pub returns : goal.returns
returns g c =
    all_drawn g.D.Daemon.commands g.D.Daemon.stands (state_of g.L.LockTable.locks c.args.play.now) (state_of g.L.LockTable.locks c.loop-number.play) c.args.seed c.args.events
    c.loop-number.number c.loop-number.state c.loop-number-test.false c.loop-number.invariant.drawn

pub take_event-requires : goal.take_event-requires
take_event-requires g c =
    drawing_on g.D.Daemon.commands g.D.Daemon.stands (state_of g.L.LockTable.locks c.args.play.now) (state_of g.L.LockTable.locks c.loop-number.play) c.args.seed c.args.events
    c.loop-number.number c.loop-number.state c.requires c.loop-number.invariant.drawn
