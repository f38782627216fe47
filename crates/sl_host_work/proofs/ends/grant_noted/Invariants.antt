use Rattle.sl_host_law.specs.StepParts.Signals.{over}
use Rattle.sl_host_state.specs.KeptState.{state_of}
use Rattle.sl_host_state.specs.MadeEffects.{with_grant}
use Rattle.sl_host_work.proofs.ends.grant_noted.Given as goal
use Rattle.sl_trace.specs.declared.command.Command.{Command}
use Rattle.sl_host.specs.Host.{SameRun}
use Rattle.std.proofs.Common.{List, Result, drop, length, ℕ, ◌+◌, ◌≡◌, ◌≤◌}

-- those from this place on are still to come
abbrev pub invariant-loop-place : goal.invariant-loop-place
invariant-loop-place l = record {
  comes : (read : List ℕ → Result Command ℕ) → over l.grants.items with_grant (state_of read l.fn.host.kept) ≡ over (drop l.place l.grants.items) with_grant (state_of read l.host.kept);
  run : SameRun l.fn.host l.host;
  room : length (drop l.place l.grants.items) ≤ l.host.left;
  spent : l.fn.host.left + length (drop l.place l.grants.items) ≤ l.host.left + length l.grants.items;
  calls : l.fn.host.calls ≤ l.host.calls;
}
