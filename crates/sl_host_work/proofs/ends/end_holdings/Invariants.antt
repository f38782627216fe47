use Rattle.sl_host_law.specs.StepParts.Exits.{ending}
use Rattle.sl_host_state.specs.KeptState.{state_of}
use Rattle.sl_host_work.proofs.ends.end_holdings.Given as goal
use Rattle.sl_host_work.specs.ProcessHoldings.{HoldsOnce, held_by}
use Rattle.sl_trace.specs.Traces.{orphans_left}
use Rattle.sl_trace.specs.declared.command.Command.{Command}
use Rattle.sl_host.specs.Host.{SameRun}
use Rattle.std.proofs.Common.{List, Result, length, ℕ, ◌+◌, ◌++◌, ◌≡◌, ◌≤◌}

-- what is held now is still to end
abbrev pub invariant-loop-grant : goal.invariant-loop-grant
invariant-loop-grant l = record {
  comes : (read : List ℕ → Result Command ℕ) → ending l.fn.process (state_of read l.fn.host.kept) ≡ ending l.fn.process (state_of read l.host.kept);
  once : HoldsOnce l.fn.process l.host.kept.holdings;
  run : SameRun l.fn.host l.host;
  room : length (held_by l.fn.process l.host.kept.holdings) ≤ l.host.left;
  spent : l.fn.host.left + length (held_by l.fn.process l.host.kept.holdings) ≤ l.host.left + length (held_by l.fn.process l.fn.host.kept.holdings);
  calls : l.fn.host.calls ≤ l.host.calls;
  noted : l.orphans.items ++ orphans_left l.fn.process l.host.kept.holdings ≡ orphans_left l.fn.process l.fn.host.kept.holdings;
  most : l.orphans.most ≡ l.fn.orphans.most;
  few : length l.orphans.items + length (held_by l.fn.process l.host.kept.holdings) ≤ l.fn.orphans.most;
}

abbrev pub decreases-loop-grant : goal.decreases-loop-grant
decreases-loop-grant l = length (held_by l.fn.process l.host.kept.holdings)
