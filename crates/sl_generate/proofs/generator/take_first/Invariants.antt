-- The play stays as it was, and what is found among the candidates that are left is what is found among all.
use Rattle.sl_generate.proofs.generator.take_first.Given as goal
use Rattle.sl_generate.specs.Candidates.{first_allowed}
use Rattle.sl_play.specs.Plays.{StaysAs, state_of}
use Rattle.std.proofs.Common.{length, ◌≡◌}

abbrev pub invariant-loop-event : goal.invariant-loop-event
invariant-loop-event g l = record {
  same : StaysAs (state_of g.L.LockTable.locks l.fn.play) (state_of g.L.LockTable.locks l.play);
  found : first_allowed g.D.Daemon.commands (state_of g.L.LockTable.locks l.fn.play).kept l.fn.candidates.items
      ≡ first_allowed g.D.Daemon.commands (state_of g.L.LockTable.locks l.fn.play).kept l.candidates.items;
}

abbrev pub decreases-loop-event : goal.decreases-loop-event
decreases-loop-event g l = length l.candidates.items
