-- What is known of holdings at a host's input: who holds a resource has a lease on its area, and holds it once.
use Rattle.sl_due.specs.Steps.{Step}
use Rattle.sl_host_law.specs.Decisions.CommandDecisions.{held_of}
use Rattle.sl_host_law.specs.Steps.LinesFollow.{IsLeased}
use Rattle.sl_host_state.specs.KeptState.{HostState, MemberState}
use Rattle.sl_due_law.specs.LawfulTraces.CarriedFacts.{Kept}
use Rattle.sl_host_state.specs.HostStands.{Stands}
use Rattle.sl_step_law.specs.ReadyHosts.{IsReady}
use Rattle.sl_trace.specs.Traces.{held_by, same_place, spot_of_grant}
use Rattle.sl_trace.specs.declared.effects.Grant.{Grant}
use Rattle.sl_trace.specs.declared.input.Input.{Input}
use Rattle.std.specs.List.{AllByRecursion}
use Rattle.std.specs.Prelude.{Contains, List, false, length, true, [], ℕ, ◌&&◌, ◌==◌, ◌∷◌, ◌≡◌}

-- The process holds no place twice.
abbrev pub HoldsOnce : ℕ → List Grant → Type 0
HoldsOnce p [] = Unit {0}
HoldsOnce p (g ∷ gs) = ((g.process == p) ≡ true → AllByRecursion (λ k. (k.process == p && same_place g.path g.offset k.path k.offset) ≡ false) gs) × HoldsOnce p gs

pub record HoldingsAreKnown : Type 0 where
  pub leased : (h : HostState) (x : Step) (m : MemberState) (g : Grant) → IsReady h x → Contains h.members m → Contains (held_of h m) g → IsLeased m (spot_of_grant g)
  pub once : (h : HostState) (x : Step) (g : Grant) → IsReady h x → Contains h.holdings g → length (held_by h.holdings g.process g.path g.offset) ≡ 1
  pub apart : (i : Input) (h : HostState) (x : Step) (p : ℕ) → Stands i h x → Kept x → HoldsOnce p h.holdings
