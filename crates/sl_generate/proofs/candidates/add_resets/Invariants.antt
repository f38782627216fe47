-- The machines behind this one are looked at.
use Rattle.sl_generate.proofs.candidates.add_resets.Given as goal
use Rattle.sl_play.specs.Plays.{state_of}
use Rattle.sl_run.specs.declared.event.Event.TheVariants.{Reset}
use Rattle.sl_world_law.specs.DrawnCandidates.{starves_in}
use Rattle.std.proofs.Common.{map, ◌++◌, ◌+◌, ◌-◌, ◌≡◌, ◌≤◌}
use Rattle.std.specs.List.{range_with_len}
use Rattle.std.specs.Prelude.{filter}

abbrev pub invariant-loop-machine : goal.invariant-loop-machine
invariant-loop-machine g l = record {
  within : l.machine ≤ l.hosts;
  added : l.events.items
      ≡ map (λ t. Reset t) (filter (starves_in (state_of g.L.LockTable.locks l.play).kept) (range_with_len (l.machine + 1) (l.hosts - l.machine))) ++ l.fn.events.items;
}

abbrev pub decreases-loop-machine : goal.decreases-loop-machine
decreases-loop-machine g l = l.machine
