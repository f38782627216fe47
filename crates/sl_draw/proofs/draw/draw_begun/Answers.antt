-- The lines behind a header, whose picture was begun.
use Rattle.sl_draw.proofs.Drawn.{header_lacks}
use Rattle.sl_draw.proofs.DrawnLines.{drawing_started}
use Rattle.sl_draw.proofs.draw.draw_begun.Goals as goal
use Rattle.sl_play.specs.Plays.{state_of}
use Rattle.std.proofs.Common.{◌++◌}

pub returns-in-Err : goal.returns-in-Err
returns-in-Err g c first part b titled is =
    header_lacks g.D.Daemon.commands g.D.Daemon.stands part first (g.S.Source.left c.args.source.now) (g.K.Sink.taken c.args.sink.now) (g.S.Source.faults c.args.source.now)
    (g.S.Source.faults c.args.source.now) (g.K.Sink.faults c.args.sink.now) (g.K.Sink.faults c.args.sink.now) (b.consumed ++ c.args.reader.now.left, b.gives)

pub returns : goal.returns
returns g c first part b titled is =
    c.draw_lines.ensures c.args.header first part
    (drawing_started g.D.Daemon.commands g.D.Daemon.stands part c.args.header first (g.S.Source.left c.args.source.now) c.args.reader.now (state_of g.L.LockTable.locks c.in-Ok.play)
    c.args.caption.now c.args.picture.now b titled c.in-Ok.ensures is)
