use Rattle.sl_host_law.specs.StepParts.Recoveries.{killing}
use Rattle.sl_host_law.specs.StepParts.Signals.{over}
use Rattle.sl_host_state.specs.KeptState.{state_of}
use Rattle.sl_host_work.proofs.recoveries.kill_all.Given as goal
use Rattle.sl_host_work.specs.Holders.{SameButSignals}
use Rattle.sl_host_work.specs.KilledMembers.{holders_of_all}
use Rattle.sl_trace.specs.declared.command.Command.{Command}
use Rattle.sl_host.specs.Host.{SameRun}
use Rattle.std.proofs.Common.{List, Result, drop, ℕ, ◌+◌, ◌≡◌, ◌≤◌}

-- the members from this place on are still to come
abbrev pub invariant-loop-place : goal.invariant-loop-place
invariant-loop-place l = record {
  comes : (read : List ℕ → Result Command ℕ) → over l.fn.host.kept.members killing (state_of read l.fn.host.kept) ≡ over (drop l.place l.fn.host.kept.members) killing (state_of read l.host.kept);
  stays : SameButSignals l.fn.host l.host;
  run : SameRun l.fn.host l.host;
  room : holders_of_all (drop l.place l.fn.host.kept.members) l.fn.host.kept.holdings ≤ l.host.left;
  spent : l.fn.host.left + holders_of_all (drop l.place l.fn.host.kept.members) l.fn.host.kept.holdings ≤ l.host.left + holders_of_all l.fn.host.kept.members l.fn.host.kept.holdings;
  calls : l.fn.host.calls ≤ l.host.calls;
}
