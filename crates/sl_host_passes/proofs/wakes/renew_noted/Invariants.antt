use Rattle.sl_host_law.specs.StepParts.Ends.{renewing_in}
use Rattle.sl_host_law.specs.StepParts.Signals.{over}
use Rattle.sl_host_law.specs.Steps.Passes.{at_member}
use Rattle.sl_host_passes.proofs.wakes.renew_noted.Given as goal
use Rattle.sl_host_passes.specs.PassPremises.{WakeKnown}
use Rattle.sl_host_state.specs.KeptState.{state_of}
use Rattle.sl_trace.specs.declared.command.Command.{Command}
use Rattle.sl_host.specs.Host.{SameRun}
use Rattle.std.proofs.Common.{List, Result, drop, length, ℕ, ◌+◌, ◌≡◌, ◌≤◌}

-- those from this place on are still to come
abbrev pub invariant-loop-place : goal.invariant-loop-place
invariant-loop-place l = record {
  comes : (read : List ℕ → Result Command ℕ) → over l.members.items (λ n. at_member n renewing_in) (state_of read l.fn.host.kept) ≡ over (drop l.place l.members.items) (λ n. at_member n renewing_in) (state_of read l.host.kept);
  run : SameRun l.fn.host l.host;
  known : WakeKnown l.host.kept;
  left : l.fn.host.left ≤ l.host.left;
  calls : length (drop l.place l.members.items) ≤ l.host.calls;
  called : l.fn.host.calls + length (drop l.place l.members.items) ≤ l.host.calls + length l.members.items;
}
