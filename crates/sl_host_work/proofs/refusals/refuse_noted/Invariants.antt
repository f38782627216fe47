use Rattle.sl_host_law.specs.StepParts.Signals.{over}
use Rattle.sl_host_state.specs.KeptState.{state_of}
use Rattle.sl_host_state.specs.MadeEffects.{with_reply}
use Rattle.sl_host_work.proofs.refusals.refuse_noted.Given as goal
use Rattle.sl_host_work.specs.RefusalReplies.{reply_of}
use Rattle.sl_trace.specs.declared.command.Command.{Command}
use Rattle.sl_host.specs.Host.{SameRun}
use Rattle.std.proofs.Common.{List, Result, drop, length, ℕ, ◌+◌, ◌≡◌, ◌≤◌}

-- those from this place on are still to come
abbrev pub invariant-loop-place : goal.invariant-loop-place
invariant-loop-place l = record {
  comes : (read : List ℕ → Result Command ℕ) → over l.numbers.items (λ n. with_reply n (reply_of l.fn.refusal)) (state_of read l.fn.host.kept) ≡ over (drop l.place l.numbers.items) (λ n. with_reply n (reply_of l.fn.refusal)) (state_of read l.host.kept);
  run : SameRun l.fn.host l.host;
  room : length (drop l.place l.numbers.items) ≤ l.host.left;
  spent : l.fn.host.left + length (drop l.place l.numbers.items) ≤ l.host.left + length l.numbers.items;
  calls : l.fn.host.calls ≤ l.host.calls;
}
