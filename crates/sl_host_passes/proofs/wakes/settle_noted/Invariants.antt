use Rattle.sl_host_law.specs.StepParts.Signals.{over}
use Rattle.sl_host_law.specs.Steps.Passes.{at_member}
use Rattle.sl_host_law.specs.Steps.WakePasses.{settling_here}
use Rattle.sl_host_passes.proofs.wakes.settle_noted.Given as goal
use Rattle.sl_host_passes.specs.PassesLessen.{SameLeases}
use Rattle.sl_host_passes.specs.PassPremises.{HasLeases, WakeKnown}
use Rattle.sl_host_state.specs.KeptState.{state_of}
use Rattle.sl_trace.specs.declared.command.Command.{Command}
use Rattle.sl_host.specs.Host.{SameRun}
use Rattle.sl_member.specs.HostMembers.{AreApart}
use Rattle.std.proofs.Common.{List, Result, drop, length, map, ℕ, ◌*◌, ◌+◌, ◌≡◌, ◌≤◌}

-- those from this place on are still to come
abbrev pub invariant-loop-place : goal.invariant-loop-place
invariant-loop-place l = record {
  comes : (read : List ℕ → Result Command ℕ) → over l.spots.items (λ at. at_member l.fn.number (settling_here at)) (state_of read l.fn.host.kept) ≡ over (drop l.place l.spots.items) (λ at. at_member l.fn.number (settling_here at)) (state_of read l.host.kept);
  run : SameRun l.fn.host l.host;
  known : WakeKnown l.host.kept;
  apart : AreApart (map (λ m. m.who.number) l.host.kept.members);
  has : HasLeases l.fn.number l.spots.items l.host.kept.members;
  same : SameLeases l.fn.host.kept.members l.host.kept.members;
  room : 3 * length (drop l.place l.spots.items) ≤ l.host.left;
  spent : l.fn.host.left + 3 * length (drop l.place l.spots.items) ≤ l.host.left + 3 * length l.spots.items;
  calls : length (drop l.place l.spots.items) ≤ l.host.calls;
  called : l.fn.host.calls + length (drop l.place l.spots.items) ≤ l.host.calls + length l.spots.items;
}
