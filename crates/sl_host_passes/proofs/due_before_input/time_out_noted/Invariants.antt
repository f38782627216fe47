use Rattle.sl_host_law.specs.Answers.RefusalsFollow.{timing_out}
use Rattle.sl_host_law.specs.StepParts.Signals.{over}
use Rattle.sl_host_law.specs.Steps.Passes.{at_job}
use Rattle.sl_host_state.specs.KeptState.{state_of}
use Rattle.sl_host_passes.proofs.due_before_input.time_out_noted.Given as goal
use Rattle.sl_trace.specs.declared.command.Command.{Command}
use Rattle.sl_host.specs.Host.{SameRun}
use Rattle.std.proofs.Common.{List, Result, drop, length, ℕ, ◌*◌, ◌+◌, ◌≡◌, ◌≤◌}

-- those from this place on are still to come
abbrev pub invariant-loop-place : goal.invariant-loop-place
invariant-loop-place l = record {
  comes : (read : List ℕ → Result Command ℕ) → over l.numbers.items (λ n. at_job n timing_out) (state_of read l.fn.host.kept) ≡ over (drop l.place l.numbers.items) (λ n. at_job n timing_out) (state_of read l.host.kept);
  run : SameRun l.fn.host l.host;
  room : 2 * length (drop l.place l.numbers.items) ≤ l.host.left;
  spent : l.fn.host.left + 2 * length (drop l.place l.numbers.items) ≤ l.host.left + 2 * length l.numbers.items;
  calls : l.fn.host.calls ≤ l.host.calls;
}
