-- The first lines, and the story behind them.
use Rattle.sl_play.proofs.LinesPlayed.{front_of}
use Rattle.sl_play.specs.Plays.{state_of}
use Rattle.sl_story.proofs.StoryPlays.{telling_first}
use Rattle.sl_story.proofs.StoryTold.{begun_plays, nothing_told, opening_part}
use Rattle.sl_story.proofs.story.tell_behind.Goals as goal
use Rattle.std.proofs.Common.{subst, take}
use Rattle.std.specs.Io.KnownBytes.{Appends}

pub tell_lines-requires : goal.tell_lines-requires
tell_lines-requires g c = begun_plays g.D.Daemon.commands g.D.Daemon.stands c.args.opening.header (state_of g.L.LockTable.locks c.in-Ok.play) c.in-Ok.ensures

pub returns-in_default : goal.returns-in_default
returns-in_default g c hosts paired opens = nothing_told g.D.Daemon.commands g.D.Daemon.stands hosts c.args.events paired (g.K.Sink.taken c.args.sink.now) (g.K.Sink.faults c.args.sink.now)

pub returns-in-Ok-write_all : goal.returns-in-Ok-write_all
returns-in-Ok-write_all g c hosts paired opens =
    c.tell_lines.ensures hosts paired c.args.opening.text.items (g.K.Sink.taken c.args.sink.now) (g.K.Sink.faults c.args.sink.now)
    (telling_first g.D.Daemon.commands g.D.Daemon.stands hosts paired c.args.opening (state_of g.L.LockTable.locks c.in-Ok.play) opens c.in-Ok.ensures)
    (subst (Appends (g.K.Sink.taken c.args.sink.now) (g.K.Sink.taken c.write_all.new.sink)) c.deref.ensures.value c.in-Ok-write_all.ensures.all) c.write_all.ensures.cause.later

pub returns : goal.returns
returns g c hosts paired opens =
    let front = c.in-Err.ensures.front in
    opening_part g.D.Daemon.commands g.D.Daemon.stands hosts c.args.events paired c.args.opening (state_of g.L.LockTable.locks c.in-Ok.play) (g.K.Sink.taken c.args.sink.now) (g.K.Sink.taken c.write_all.new.sink)
    (take front.0 c.deref.result.now) (g.K.Sink.faults c.args.sink.now) (g.K.Sink.faults c.write_all.new.sink) opens c.in-Ok.ensures front.2
    (front_of c.deref.result.now c.args.opening.text.items front.0 c.deref.ensures.value) c.in-Err.ensures.cause.failed
