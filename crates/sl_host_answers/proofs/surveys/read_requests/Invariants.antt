use Rattle.sl_host_answers.proofs.surveys.read_requests.Given as goal
use Rattle.sl_host_answers.specs.Surveys.{SameHoldings}
use Rattle.sl_host_law.specs.Answers.Surveys.{reading_request_on}
use Rattle.sl_host_law.specs.StepParts.Signals.{over}
use Rattle.sl_host_state.specs.KeptState.{state_of}
use Rattle.sl_trace.specs.declared.command.Command.{Command}
use Rattle.sl_host.specs.Host.{SameRun}
use Rattle.std.proofs.Common.{List, Result, drop, length, ℕ, ◌+◌, ◌≡◌, ◌≤◌}

-- those from this place on are still to come
abbrev pub invariant-loop-place : goal.invariant-loop-place
invariant-loop-place l = record {
  comes : (read : List ℕ → Result Command ℕ) → over l.spots.items (reading_request_on l.who) (state_of read l.fn.host.kept) ≡ over (drop l.place l.spots.items) (reading_request_on l.who) (state_of read l.host.kept);
  run : SameRun l.fn.host l.host;
  stays : SameHoldings l.fn.host l.host;
  room : length (drop l.place l.spots.items) ≤ l.host.calls;
  spent : l.fn.host.calls + length (drop l.place l.spots.items) ≤ l.host.calls + length l.spots.items;
  others : l.fn.host.left ≤ l.host.left;
}
