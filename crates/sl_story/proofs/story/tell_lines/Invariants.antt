-- So many lines have been told, and so many are left.
use Rattle.sl_play.specs.Plays.{IsPlaying, state_of}
use Rattle.sl_story.proofs.StoryTold.{ToldSoFar}
use Rattle.sl_story.proofs.story.tell_lines.Given as goal
use Rattle.std.proofs.Common.{◌+◌, ◌-◌, ◌≤◌}

abbrev pub invariant-loop-at : goal.invariant-loop-at
invariant-loop-at g l = record {
  within : l.at.lines ≤ l.events;
  told : ToldSoFar g.D.Daemon.commands g.D.Daemon.stands l.fn.place (state_of g.L.LockTable.locks l.fn.play) (g.K.Sink.taken l.fn.sink) (l.events - l.at.lines) l.at.place (state_of g.L.LockTable.locks l.play) (g.K.Sink.taken l.sink);
  plays : IsPlaying g.D.Daemon.commands g.D.Daemon.stands (state_of g.L.LockTable.locks l.play);
  later : g.K.Sink.faults l.fn.sink ≤ g.K.Sink.faults l.sink;
}

abbrev pub decreases-loop-at : goal.decreases-loop-at
decreases-loop-at g l = l.at.lines + l.at.acts
