-- Where sessions and holdings stand, at each moment of a step; and that what a lease keeps of the blocks that it read last is so.
use Rattle.sl_area.specs.AreaLayout.{is_base}
use Rattle.sl_due.specs.Steps.{Step}
use Rattle.sl_due_law.specs.LawfulTraces.CarriedFacts.{Kept}
use Rattle.sl_host_law.specs.Steps.Leases.{kept_blocks}
use Rattle.sl_host_state.specs.KeptState.{HostState, LeaseState, MemberState}
use Rattle.sl_host_state.specs.MadeEffects.{is_lease_on}
use Rattle.sl_host_state.specs.HostStands.{Stands}
use Rattle.sl_lease.specs.LeaseQuestions.{TopStands}
use Rattle.sl_lease.specs.Bounds.{IsInstance}
use Rattle.sl_trace.specs.Traces.{is_shared}
use Rattle.sl_trace.specs.declared.effects.Grant.{Grant}
use Rattle.sl_trace.specs.declared.effects.Spot.{Spot}
use Rattle.sl_trace.specs.declared.input.Input.{Input}
use Rattle.std.specs.Prelude.{Contains, IsTrue, Some, false, find, ◌≡◌, ◌≤◌}

pub record PlacesAreKnown : Type 0 where
  -- a member's id is one of the layout, and its area stands at a base
  pub sessions : (i : Input) (h : HostState) (x : Step) (m : MemberState) → Stands i h x → Kept x → Contains h.members m
      → (1 ≤ m.who.id) × (m.who.id ≤ h.config.layout.hosts) × IsTrue (is_base h.config.layout m.who.offset)
  -- so does that of a holding
  pub holdings : (i : Input) (h : HostState) (x : Step) (g : Grant) → Stands i h x → Kept x → Contains h.holdings g → IsTrue (is_base h.config.layout g.offset)
  -- an exclusive one is of an instance
  pub instances : (i : Input) (h : HostState) (x : Step) (g : Grant) → Stands i h x → Kept x → Contains h.holdings g → is_shared g.mode ≡ false → IsInstance g.lver
  pub tops : (i : Input) (h : HostState) (x : Step) (m : MemberState) (at : Spot) (l : LeaseState) → Stands i h x → Contains h.members m → find (is_lease_on at) m.leases ≡ Some l
      → TopStands l (kept_blocks l)
