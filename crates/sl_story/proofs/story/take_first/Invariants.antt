-- The play stays as it was while no line is taken.
use Rattle.sl_play.specs.Plays.{state_of}
use Rattle.sl_story.proofs.story.take_first.Given as goal
use Rattle.std.proofs.Common.{length, ◌≡◌}

abbrev pub invariant-loop-line : goal.invariant-loop-line
invariant-loop-line g l = record {
  same : state_of g.L.LockTable.locks l.play ≡ state_of g.L.LockTable.locks l.fn.play;
}

abbrev pub decreases-loop-line : goal.decreases-loop-line
decreases-loop-line g l = length l.lines.items
