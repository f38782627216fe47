use Rattle.sl_host_law.specs.StepParts.Signals.{over}
use Rattle.sl_host_law.specs.Steps.Passes.{at_member}
use Rattle.sl_host_law.specs.Steps.WakePasses.{settling_all}
use Rattle.sl_host_passes.proofs.wakes.settle_members.Given as goal
use Rattle.sl_host_passes.specs.PassesLessen.{SameLeases, leases_among}
use Rattle.sl_host_passes.specs.PassPremises.{WakeKnown}
use Rattle.sl_host_state.specs.KeptState.{state_of}
use Rattle.sl_trace.specs.declared.command.Command.{Command}
use Rattle.sl_host.specs.Host.{SameRun}
use Rattle.std.proofs.Common.{List, Result, drop, ℕ, ◌*◌, ◌+◌, ◌≡◌, ◌≤◌}

-- those from this place on are still to come
abbrev pub invariant-loop-place : goal.invariant-loop-place
invariant-loop-place l = record {
  comes : (read : List ℕ → Result Command ℕ) → over l.members.items (λ n. at_member n settling_all) (state_of read l.fn.host.kept) ≡ over (drop l.place l.members.items) (λ n. at_member n settling_all) (state_of read l.host.kept);
  run : SameRun l.fn.host l.host;
  known : WakeKnown l.host.kept;
  same : SameLeases l.fn.host.kept.members l.host.kept.members;
  most : l.spots.most ≡ l.fn.spots.most;
  room : 3 * leases_among (drop l.place l.members.items) l.fn.host.kept.members ≤ l.host.left;
  spent : l.fn.host.left + 3 * leases_among (drop l.place l.members.items) l.fn.host.kept.members ≤ l.host.left + 3 * leases_among l.members.items l.fn.host.kept.members;
  calls : leases_among (drop l.place l.members.items) l.fn.host.kept.members ≤ l.host.calls;
  called : l.fn.host.calls + leases_among (drop l.place l.members.items) l.fn.host.kept.members ≤ l.host.calls + leases_among l.members.items l.fn.host.kept.members;
}
