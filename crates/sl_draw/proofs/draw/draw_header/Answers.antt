-- The lines behind a header.
use Rattle.sl_draw.proofs.Drawn.{header_lacks}
use Rattle.sl_draw.proofs.draw.draw_header.Goals as goal
use Rattle.std.proofs.Common.{◌++◌}

pub returns-in-Err : goal.returns-in-Err
returns-in-Err g c first b titled =
    header_lacks g.D.Daemon.commands g.D.Daemon.stands c.args.part first (g.S.Source.left c.args.source.now) (g.K.Sink.taken c.args.sink.now) (g.S.Source.faults c.args.source.now)
    (g.S.Source.faults c.args.source.now) (g.K.Sink.faults c.args.sink.now) (g.K.Sink.faults c.args.sink.now) (b.consumed ++ c.args.reader.now.left, b.gives)

pub returns-in-Ok : goal.returns-in-Ok
returns-in-Ok g c first b titled = c.draw_begun.ensures first c.args.part b titled c.in-Ok.ensures
