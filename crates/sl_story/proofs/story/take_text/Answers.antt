-- A text is tried.
use Rattle.sl_play.specs.Plays.{state_of}
use Rattle.sl_story.proofs.SpareLines.{never_refused, nowhere}
use Rattle.sl_story.proofs.StoryTold.{text_plays, text_taken}
use Rattle.sl_story.proofs.story.take_text.Goals as goal
use Rattle.sl_story.specs.StoryPlays.{line_at}
use Rattle.std.proofs.Common.{refl}

pub returns-in-None-clause-takes : goal.returns-in-None-clause-takes
returns-in-None-clause-takes g c =
    text_taken g.D.Daemon.commands g.D.Daemon.stands c.args.place c.in-Some.behind c.args.text.now c.clear.new.self.items c.take_line.new.out.items (state_of g.L.LockTable.locks c.args.play.now)
    (state_of g.L.LockTable.locks c.take_line.new.self) (line_at c.in-Some.behind.lines c.args.place.bytes c.args.text.now) c.in_ok-take_line.field-0 c.in-Some.ensures.says c.in-Some.ensures.lines
    c.in-Some.ensures.bytes c.in-Some.ensures.inside refl c.clear.ensures.items c.in-None.is c.in_ok-take_line.ensures

pub returns-in-None-clause-plays : goal.returns-in-None-clause-plays
returns-in-None-clause-plays g c =
    text_plays g.D.Daemon.commands g.D.Daemon.stands c.clear.new.self.items c.take_line.new.out.items (state_of g.L.LockTable.locks c.args.play.now) (state_of g.L.LockTable.locks c.take_line.new.self)
    (line_at c.in-Some.behind.lines c.args.place.bytes c.args.text.now) c.in_ok-take_line.field-0 c.clear.ensures.items c.in-None.is c.in_ok-take_line.ensures c.requires

pub returns-in_default-clause-stands : goal.returns-in_default-clause-stands
returns-in_default-clause-stands g c is w on may =
    nowhere g.D.Daemon.commands g.D.Daemon.stands c.args.place c.args.text.now c.behind.result (state_of g.L.LockTable.locks c.args.play.now).kept.header w c.in_default.is c.behind.ensures.room may

pub returns-in-Some-2-clause-stands : goal.returns-in-Some-2-clause-stands
returns-in-Some-2-clause-stands g c is w on may =
    never_refused g.D.Daemon.commands g.D.Daemon.stands c.args.place c.in-Some.behind c.args.text.now c.clear.new.self.items c.take_line.new.out.items (state_of g.L.LockTable.locks c.args.play.now)
    (state_of g.L.LockTable.locks c.take_line.new.self) c.in_ok-take_line.field-0 c.in-Some-2.field-0 w c.in-Some-2.is c.in-Some.ensures.lines c.in_ok-take_line.ensures on may
