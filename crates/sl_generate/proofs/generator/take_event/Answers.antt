-- The event that is drawn comes to pass.
use Rattle.sl_generate.proofs.DrawnEvents.{takes_drawn}
use Rattle.sl_generate.proofs.generator.take_event.Goals as goal
use Rattle.sl_play.specs.Plays.{state_of}
use Rattle.std.proofs.lemmas.Result.{on_ok_weaker}

pub returns : goal.returns
returns g c =
    on_ok_weaker c.take_first.result
    (takes_drawn g.D.Daemon.commands g.D.Daemon.stands (state_of g.L.LockTable.locks c.args.play.now) (state_of g.L.LockTable.locks c.take_first.new.play) c.args.draw.a c.args.draw.b
    c.args.draw.c c.args.number c.in_ok-candidates.candidates.items c.in_ok-candidates.ensures)
    c.take_first.ensures
