-- What is known of leases and of who holds, at each moment of a step.
use Rattle.sl_area.specs.AreaLayout.{is_base}
use Rattle.sl_due.specs.Steps.{Step}
use Rattle.sl_host_law.specs.Decisions.CommandDecisions.{held_of}
use Rattle.sl_host_law.specs.Questions.Members.{exclusive_at}
use Rattle.sl_host_law.specs.Steps.Leases.{kept_blocks, lease_at}
use Rattle.sl_host_state.specs.KeptState.{HostState, LeaseState, MemberState}
use Rattle.sl_host_state.specs.MadeEffects.{is_lease_on}
use Rattle.sl_lease.specs.LeaseQuestions.{TopStands}
use Rattle.sl_lease.specs.Bounds.{IsInstance}
use Rattle.sl_lease.specs.Side.{is_named}
use Rattle.sl_step_law.specs.Moments.{IsMoment}
use Rattle.sl_trace.specs.Traces.{spot_of_grant}
use Rattle.sl_trace.specs.declared.effects.Grant.{Grant}
use Rattle.sl_trace.specs.declared.effects.Spot.{Spot}
use Rattle.sl_trace.specs.declared.input.Input.{Input}
use Rattle.std.specs.Prelude.{Contains, IfSome, IsTrue, Some, find, is_some, true, ◌≡◌}

pub record LeasesAreKnown : Type 0 where
  -- a lease's area stands at a base
  pub placed : (i : Input) (h : HostState) (x : Step) (m : MemberState) (l : LeaseState) → IsMoment i h x → Contains h.members m → Contains m.leases l → IsTrue (is_base h.config.layout l.spot.base)
  -- whoever has written a block has verified the resource's name
  pub named : (i : Input) (h : HostState) (x : Step) (m : MemberState) (l : LeaseState) → IsMoment i h x → Contains h.members m → Contains m.leases l → is_some l.own ≡ true → IsTrue (is_named l)
  pub owned : (i : Input) (h : HostState) (x : Step) (m : MemberState) (at : Spot) → IsMoment i h x → Contains h.members m → is_some (lease_at m at).own ≡ true → IsTrue (is_named (lease_at m at))
  -- an open ballot is of a block that was written
  pub opened : (i : Input) (h : HostState) (x : Step) (m : MemberState) (at : Spot) → IsMoment i h x → Contains h.members m → is_some (lease_at m at).ballot ≡ true → is_some (lease_at m at).own ≡ true
  -- what is kept of the blocks read last is so, on whatever area
  pub tops : (i : Input) (h : HostState) (x : Step) (m : MemberState) (at : Spot) → IsMoment i h x → Contains h.members m → TopStands (lease_at m at) (kept_blocks (lease_at m at))
  pub each_top : (i : Input) (h : HostState) (x : Step) (m : MemberState) (l : LeaseState) → IsMoment i h x → Contains h.members m → Contains m.leases l → TopStands l (kept_blocks l)
  -- who holds does so under an instance, and has written a block of it
  pub instances : (i : Input) (h : HostState) (x : Step) (g : Grant) → IsMoment i h x → Contains h.holdings g → IsInstance g.lver
  pub held : (i : Input) (h : HostState) (x : Step) (m : MemberState) (at : Spot) → IsMoment i h x → Contains h.members m → IfSome (exclusive_at h m at) (λ g. IsInstance g.lver)
  pub wrote : (i : Input) (h : HostState) (x : Step) (m : MemberState) (g : Grant) → IsMoment i h x → Contains h.members m → Contains (held_of h m) g
      → (l : LeaseState) × (find (is_lease_on (spot_of_grant g)) m.leases ≡ Some l) × (is_some l.own ≡ true)
  -- so its name was verified
  pub holders : (i : Input) (h : HostState) (x : Step) (m : MemberState) (g : Grant) → IsMoment i h x → Contains h.members m → Contains (held_of h m) g → IsTrue (is_named (lease_at m (spot_of_grant g)))
