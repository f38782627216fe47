-- One line after another is tried.
use Rattle.sl_play.specs.Plays.{state_of}
use Rattle.sl_story.proofs.StoryTold.{first_taken, none_taken, still_plays}
use Rattle.sl_story.proofs.story.take_first.Goals as goal

pub take_line-requires : goal.take_line-requires
take_line-requires g c = still_plays g.D.Daemon.commands g.D.Daemon.stands (state_of g.L.LockTable.locks c.args.play.now) (state_of g.L.LockTable.locks c.loop-line.play) c.loop-line.invariant.same c.requires

pub loop-line-preserved : goal.loop-line-preserved
loop-line-preserved g c =
    record {
      same = none_taken g.D.Daemon.commands g.D.Daemon.stands c.args.place (state_of g.L.LockTable.locks c.args.play.now) (state_of g.L.LockTable.locks c.loop-line.play) (state_of g.L.LockTable.locks c.take_line.new.play)
          c.in_ok-taken.field-0 c.loop-line.invariant.same c.in-None.is c.in_ok-taken.ensures.takes;
    }

pub returns-in-Some-2 : goal.returns-in-Some-2
returns-in-Some-2 g c =
    record {
      takes = first_taken g.D.Daemon.commands g.D.Daemon.stands c.args.place (state_of g.L.LockTable.locks c.args.play.now) (state_of g.L.LockTable.locks c.loop-line.play) (state_of g.L.LockTable.locks c.take_line.new.play)
          c.in_ok-taken.field-0 c.in-Some-2.taken c.loop-line.invariant.same c.in-Some-2.is c.in_ok-taken.ensures.takes;
      plays = c.in_ok-taken.ensures.plays;
    }

pub returns : goal.returns
returns g c = record { takes = c.loop-line.invariant.same; plays = still_plays g.D.Daemon.commands g.D.Daemon.stands (state_of g.L.LockTable.locks c.args.play.now) (state_of g.L.LockTable.locks c.loop-line.play) c.loop-line.invariant.same c.requires }
