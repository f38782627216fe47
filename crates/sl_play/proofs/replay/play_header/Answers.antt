-- The lines behind a header.
use Rattle.sl_play.specs.Plays.{state_of}
use Rattle.sl_play.proofs.LinesPlayed.{header_lacks, started}
use Rattle.sl_play.proofs.replay.play_header.Goals as goal
use Rattle.std.proofs.Common.{◌++◌}

pub returns-in-Err : goal.returns-in-Err
returns-in-Err g c first b =
    header_lacks g.D.Daemon.commands g.D.Daemon.stands first (g.S.Source.left c.args.source.now) (g.K.Sink.taken c.args.sink.now) (g.S.Source.faults c.args.source.now)
    (g.S.Source.faults c.args.source.now) (g.K.Sink.faults c.args.sink.now) (g.K.Sink.faults c.args.sink.now) (b.consumed ++ c.args.reader.now.left, b.gives)

pub returns : goal.returns
returns g c first b =
    c.play_lines.ensures c.args.header first (g.K.Sink.taken c.args.sink.now)
    (started g.D.Daemon.commands g.D.Daemon.stands c.args.header first (g.S.Source.left c.args.source.now) (g.K.Sink.taken c.args.sink.now) c.args.reader.now
    (state_of g.L.LockTable.locks c.in-Ok.play) b c.in-Ok.ensures)
