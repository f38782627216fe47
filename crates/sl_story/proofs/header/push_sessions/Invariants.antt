-- The lines of so many machines stand.
use Rattle.sl_story.proofs.header.push_sessions.Given as goal
use Rattle.sl_story.specs.StoryHeaders.{session_line}
use Rattle.sl_text.specs.Forms.{as_bytes}
use Rattle.std.proofs.Common.{map, ◌++◌, ◌-◌, ◌≡◌, ◌≤◌}
use Rattle.std.specs.List.{range_with_len}

abbrev pub invariant-loop-machine : goal.invariant-loop-machine
invariant-loop-machine l = record {
  within : l.machine ≤ l.hosts;
  stands : l.out.items ≡ l.fn.out.items ++ as_bytes (map (session_line l.lockspace) (range_with_len 1 l.machine));
}

abbrev pub decreases-loop-machine : goal.decreases-loop-machine
decreases-loop-machine l = l.hosts - l.machine
