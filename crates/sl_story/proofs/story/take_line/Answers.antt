-- A line is tried.
use Rattle.sl_play.specs.Plays.{state_of}
use Rattle.sl_story.proofs.StoryTold.{line_left, line_taken}
use Rattle.sl_story.proofs.story.take_line.Goals as goal
use Rattle.sl_story.specs.StoryPlays.{MayStand}
use Rattle.std.proofs.Common.{ap, string_bytes, subst, sym, ◌∙◌}
use Rattle.std.specs.Prelude.{Ok}

pub returns-in-Some-clause-takes : goal.returns-in-Some-clause-takes
returns-in-Some-clause-takes g c =
    line_taken g.D.Daemon.commands g.D.Daemon.stands c.args.place c.in-Some.place (string_bytes c.args.line) c.as_bytes.result.now (state_of g.L.LockTable.locks c.args.play.now)
    (state_of g.L.LockTable.locks c.take_text.new.play) c.in_ok-place.field-0 c.as_bytes.ensures.value c.in-Some.is c.in_ok-place.ensures.takes

pub returns-in-None-clause-takes : goal.returns-in-None-clause-takes
returns-in-None-clause-takes g c =
    line_left g.D.Daemon.commands g.D.Daemon.stands c.args.place c.as_bytes.result.now (state_of g.L.LockTable.locks c.args.play.now) (state_of g.L.LockTable.locks c.take_text.new.play)
    c.in_ok-place.field-0 c.in-None.is c.in_ok-place.ensures.takes

pub returns-in-None-clause-stands : goal.returns-in-None-clause-stands
returns-in-None-clause-stands g c is w on may =
    c.take_text.ensures.stands (c.in_ok-place.was ∙ ap Ok c.in-None.is) w on
    (subst (MayStand (state_of g.L.LockTable.locks c.args.play.now).kept.header w c.args.place) (sym c.as_bytes.ensures.value) may)
