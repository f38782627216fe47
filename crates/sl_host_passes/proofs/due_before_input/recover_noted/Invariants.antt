use Rattle.sl_host_law.specs.StepParts.Recoveries.{recovering_in}
use Rattle.sl_host_law.specs.StepParts.Signals.{over}
use Rattle.sl_host_law.specs.Steps.Passes.{at_member}
use Rattle.sl_host_passes.proofs.due_before_input.recover_noted.Given as goal
use Rattle.sl_host_passes.specs.PassesLessen.{holders_among}
use Rattle.sl_host_state.specs.KeptState.{state_of}
use Rattle.sl_trace.specs.declared.command.Command.{Command}
use Rattle.sl_host.specs.Host.{SameRun}
use Rattle.std.proofs.Common.{List, Result, drop, length, ℕ, ◌+◌, ◌≡◌, ◌≤◌}

-- those from this place on are still to come; a job that was refused is no more there
abbrev pub invariant-loop-place : goal.invariant-loop-place
invariant-loop-place l = record {
  comes : (read : List ℕ → Result Command ℕ) → over l.members.items (λ n. at_member n recovering_in) (state_of read l.fn.host.kept) ≡ over (drop l.place l.members.items) (λ n. at_member n recovering_in) (state_of read l.host.kept);
  run : SameRun l.fn.host l.host;
  held : l.host.kept.holdings ≡ l.fn.host.kept.holdings;
  most : l.numbers.most ≡ l.fn.numbers.most;
  jobs : length l.host.kept.jobs ≤ l.fn.numbers.most;
  room : holders_among (drop l.place l.members.items) l.fn.host.kept.holdings + length l.host.kept.jobs ≤ l.host.left;
  spent : l.fn.host.left + (holders_among (drop l.place l.members.items) l.fn.host.kept.holdings + length l.host.kept.jobs) ≤ l.host.left + (holders_among l.members.items l.fn.host.kept.holdings + length l.fn.host.kept.jobs);
  calls : l.fn.host.calls ≤ l.host.calls;
}
