use Rattle.sl_host_law.specs.StepParts.Signals.{over, sending}
use Rattle.sl_host_state.specs.KeptState.{state_of}
use Rattle.sl_host_work.proofs.NumbersRise.{those_above}
use Rattle.sl_host_work.proofs.signals.signal_holders.Given as goal
use Rattle.sl_host_work.specs.Holders.{SameButSignals, holders_under, signalling_all}
use Rattle.sl_trace.specs.declared.command.Command.{Command}
use Rattle.sl_host.specs.Host.{SameRun}
use Rattle.std.proofs.Common.{List, Result, length, ℕ, ◌+◌, ◌≡◌, ◌≤◌}

-- those above the last are still to come
abbrev pub invariant-loop-process : goal.invariant-loop-process
invariant-loop-process l = record {
  comes : (read : List ℕ → Result Command ℕ) → signalling_all l.fn.signal l.fn.session (state_of read l.fn.host.kept) ≡ over (those_above l.last (holders_under l.fn.session l.fn.host.kept.holdings)) (λ p. sending p l.fn.signal) (state_of read l.host.kept);
  stays : SameButSignals l.fn.host l.host;
  run : SameRun l.fn.host l.host;
  room : length (those_above l.last (holders_under l.fn.session l.fn.host.kept.holdings)) ≤ l.host.left;
  spent : l.fn.host.left + length (those_above l.last (holders_under l.fn.session l.fn.host.kept.holdings)) ≤ l.host.left + length (holders_under l.fn.session l.fn.host.kept.holdings);
  calls : l.host.calls ≡ l.fn.host.calls;
}

abbrev pub decreases-loop-process : goal.decreases-loop-process
decreases-loop-process l = length (those_above l.last (holders_under l.fn.session l.fn.host.kept.holdings))
