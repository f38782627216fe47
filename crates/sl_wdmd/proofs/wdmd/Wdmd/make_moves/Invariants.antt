use Rattle.sl_trace.specs.WatchdogConnections.{after_move}
use Rattle.sl_wdmd.proofs.wdmd.Wdmd.make_moves.Given as goal
use Rattle.std.proofs.Common.{fold, take, ◌+◌, ◌≡◌, ◌≤◌}

-- the moves before this one are made
abbrev pub invariant-loop-change : goal.invariant-loop-change
invariant-loop-change l = record {
  connections : l.self.connections ≡ fold after_move l.fn.self.connections (take l.change-index l.moves);
  room : l.fn.self.room ≤ l.self.room + l.change-index;
}
