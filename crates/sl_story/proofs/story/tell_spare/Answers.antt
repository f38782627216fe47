-- A spare line is told, or there is no room for it.
use Rattle.sl_play.specs.Plays.{IsPlaying, state_of}
use Rattle.sl_story.proofs.StoryTold.{goes_on, line_put, none_first, put_moves, some_first}
use Rattle.sl_story.proofs.story.tell_spare.Goals as goal
use Rattle.sl_story.specs.StoryPlays.{No_memory, No_room}
use Rattle.std.proofs.Common.{ap, string_bytes, ◌∙◌}
use Rattle.std.proofs.KnownBytes.{Appends-nil}
use Rattle.std.specs.Prelude.{Ok}

pub returns-in_default-clause-tells : goal.returns-in_default-clause-tells
returns-in_default-clause-tells g c = No_memory (Appends-nil (g.K.Sink.taken c.args.sink.now))

pub returns-in-None-clause-tells : goal.returns-in-None-clause-tells
returns-in-None-clause-tells g c =
    No_room (Appends-nil (g.K.Sink.taken c.args.sink.now))
    (none_first g.D.Daemon.commands g.D.Daemon.stands c.args.place (state_of g.L.LockTable.locks c.args.play.now) (state_of g.L.LockTable.locks c.take_spare.new.play) c.in-Ok.taken c.in-None.is c.in-Ok.ensures.takes)
    (c.take_spare.ensures.room (c.in-Ok.is ∙ ap Ok c.in-None.is))

pub returns-in-Some-clause-tells : goal.returns-in-Some-clause-tells
returns-in-Some-clause-tells g c =
    line_put g.D.Daemon.commands g.D.Daemon.stands c.args.place c.in-Some.taken.place (string_bytes c.in-Some.taken.line) (g.K.Sink.taken c.args.sink.now) (g.K.Sink.taken c.hear_and_put.new.sink)
    (g.K.Sink.faults c.args.sink.now) (g.K.Sink.faults c.hear_and_put.new.sink) (state_of g.L.LockTable.locks c.args.play.now) (state_of g.L.LockTable.locks c.take_spare.new.play) c.hear_and_put.result
    c.hear_and_put.ensures.puts
    (some_first g.D.Daemon.commands g.D.Daemon.stands c.args.place (state_of g.L.LockTable.locks c.args.play.now) (state_of g.L.LockTable.locks c.take_spare.new.play) c.in-Ok.taken c.in-Some.taken c.in-Some.is c.in-Ok.ensures.takes)

pub returns-in-Some-clause-plays : goal.returns-in-Some-clause-plays
returns-in-Some-clause-plays g c =
    goes_on g.D.Daemon.commands g.D.Daemon.stands c.hear_and_put.result (IsPlaying g.D.Daemon.commands g.D.Daemon.stands (state_of g.L.LockTable.locks c.take_spare.new.play)) c.in-Ok.ensures.plays

pub returns-in-Some-clause-moves : goal.returns-in-Some-clause-moves
returns-in-Some-clause-moves g c =
    put_moves c.in-Some.taken.place (string_bytes c.in-Some.taken.line) (g.K.Sink.taken c.args.sink.now) (g.K.Sink.taken c.hear_and_put.new.sink) (g.K.Sink.faults c.args.sink.now)
    (g.K.Sink.faults c.hear_and_put.new.sink) c.hear_and_put.result c.hear_and_put.ensures.puts
