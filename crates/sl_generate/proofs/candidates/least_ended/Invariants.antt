-- The least of the machines behind this one is found.
use Rattle.sl_generate.proofs.candidates.least_ended.Given as goal
use Rattle.sl_play.specs.Plays.{state_of}
use Rattle.sl_words.specs.Words.{first_of_list}
use Rattle.sl_world_law.specs.DrawnCandidates.{ended_in}
use Rattle.std.proofs.Common.{◌+◌, ◌≡◌, ◌≤◌}
use Rattle.std.specs.List.{enumerate_from}
use Rattle.std.specs.Prelude.{drop, filter_map}

abbrev pub invariant-loop-machine : goal.invariant-loop-machine
invariant-loop-machine g l = record {
  within : l.machine ≤ l.hosts;
  found : l.least ≡ first_of_list (filter_map ended_in (enumerate_from (l.machine + 1) (drop l.machine (state_of g.L.LockTable.locks l.play).kept.machines)));
}

abbrev pub decreases-loop-machine : goal.decreases-loop-machine
decreases-loop-machine g l = l.machine
