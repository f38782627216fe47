-- Nothing of the spawner changes that is seen.
use Rattle.sl_outside.proofs.child_spawner.ChildSpawner.exited_at.Given as goal
use Rattle.std.proofs.Common.{length, ◌≡◌, ◌≤◌}

abbrev pub invariant-loop-at : goal.invariant-loop-at
invariant-loop-at g l = (l.self ≡ l.fn.self) × (l.at-end ≤ length l.fn.self.running)
