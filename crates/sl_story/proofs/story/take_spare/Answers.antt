-- One spare line is tried, and then the other.
use Rattle.sl_play.specs.Plays.{PlayState, state_of}
use Rattle.sl_story.proofs.SpareLines.{no_room_left}
use Rattle.sl_story.proofs.StoryTold.{none_first, some_first}
use Rattle.sl_story.proofs.story.take_spare.Goals as goal
use Rattle.sl_story.specs.StoryPlays.{TakesFirst}
use Rattle.std.proofs.Common.{ap, string_bytes, subst, ◌∙◌}
use Rattle.std.specs.Prelude.{IfOk, Ok}

pub returns-in-Some-clause-takes : goal.returns-in-Some-clause-takes
returns-in-Some-clause-takes g c =
    some_first g.D.Daemon.commands g.D.Daemon.stands c.args.place (state_of g.L.LockTable.locks c.args.play.now) (state_of g.L.LockTable.locks c.take_line.new.play) c.in_ok-taken.field-0
    c.in-Some.taken c.in-Some.is c.in_ok-taken.ensures.takes

pub returns-in_ok-test-in-None-clause-takes : goal.returns-in_ok-test-in-None-clause-takes
returns-in_ok-test-in-None-clause-takes g c =
    subst (λ (s : PlayState _). IfOk c.take_line-in-None.result (TakesFirst g.D.Daemon.commands g.D.Daemon.stands c.args.place s (state_of g.L.LockTable.locks c.take_line-in-None.new.play)))
    (none_first g.D.Daemon.commands g.D.Daemon.stands c.args.place (state_of g.L.LockTable.locks c.args.play.now) (state_of g.L.LockTable.locks c.take_line.new.play) c.in_ok-taken.field-0
    c.in-None.is c.in_ok-taken.ensures.takes) c.take_line-in-None.ensures.takes

pub returns-in_ok-test-in-None-clause-room : goal.returns-in_ok-test-in-None-clause-room
returns-in_ok-test-in-None-clause-room g c is =
    no_room_left g.D.Daemon.commands g.D.Daemon.stands (state_of g.L.LockTable.locks c.args.play.now) (state_of g.L.LockTable.locks c.take_line.new.play) c.args.place
    (string_bytes c.in_ok-restart.restart) (string_bytes c.in_ok-test-in-None.test) c.requires
    (none_first g.D.Daemon.commands g.D.Daemon.stands c.args.place (state_of g.L.LockTable.locks c.args.play.now) (state_of g.L.LockTable.locks c.take_line.new.play) c.in_ok-taken.field-0
    c.in-None.is c.in_ok-taken.ensures.takes) c.in_ok-restart.ensures.ok c.in_ok-test-in-None.ensures.ok
    (c.take_line.ensures.stands (c.in_ok-taken.was ∙ ap Ok c.in-None.is)) (c.take_line-in-None.ensures.stands is)
