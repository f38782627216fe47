-- What is known of what a host keeps as a pass begins.
use Rattle.sl_area.specs.AreaSizes.{IsGeometry, Sizes}
use Rattle.sl_host_law.specs.Decisions.CommandDecisions.{is_active_member}
use Rattle.sl_host_law.specs.Steps.Leases.{kept_blocks, lease_at}
use Rattle.sl_host_state.specs.KeptState.{HostKept, LeaseState, MemberState}
use Rattle.sl_host_state.specs.HostStands.{IsQuiet}
use Rattle.sl_host_work.specs.LeaseQuestions.{IsOwned}
use Rattle.sl_host_work.specs.SectorPlaces.{IsArea, IsPlaced}
use Rattle.sl_lease.specs.LeaseQuestions.{TopStands}
use Rattle.sl_lease.specs.Bounds.{IsInstance}
use Rattle.sl_member.specs.HostMembers.{AreApart, member_with}
use Rattle.sl_sector.specs.Records.{Fits}
use Rattle.sl_trace.specs.declared.session.Begun.{Begun}
use Rattle.sl_trace.specs.Traces.{is_shared}
use Rattle.sl_trace.specs.declared.effects.Grant.{Grant}
use Rattle.sl_trace.specs.declared.effects.Spot.{Spot}
use Rattle.sl_host.specs.BookQuestions.{state_in}
use Rattle.sl_words.specs.Bounds.{moments}
use Rattle.std.specs.Prelude.{Contains, List, None, Option, Some, [], cond, false, map, true, ℕ, ◌+◌, ◌<◌, ◌^◌, ◌≡◌}

-- Each recovery of a member began in a step before.
abbrev pub BegunBefore : List MemberState → ℕ → Type 0
BegunBefore ms entries = (m : MemberState) (b : Begun) → Contains ms m → m.renewing.recovery ≡ Some b → b.at < entries

-- As a step begins, at this reading.
pub record BeginKnown (now : ℕ) (k : HostKept) : Type 0 where
  pub entries : k.entries < 2 ^ 63
  pub kills : now + k.config.grace < 2 ^ 64
  pub quiet : IsQuiet (state_in k)
  pub before : BegunBefore k.members k.entries

-- Where sessions and leases stand, that what is kept of a lease's blocks, and of exclusive holdings, is so, and that whoever has written a
-- block has verified its resource's name.
pub record AreKnown (z : Sizes) (ms : List MemberState) (held : List Grant) : Type 0 where
  pub placed : (m : MemberState) → Contains ms m → IsPlaced z m.who
  pub areas : (m : MemberState) (l : LeaseState) → Contains ms m → Contains m.leases l → IsArea z l.spot.base
  pub tops : (m : MemberState) (l : LeaseState) → Contains ms m → Contains m.leases l → TopStands l (kept_blocks l)
  pub owned : (m : MemberState) (at : Spot) → Contains ms m → IsOwned (lease_at m at)
  pub instances : (g : Grant) → Contains held g → is_shared g.mode ≡ false → IsInstance g.lver

-- As a wake begins.
pub record WakeKnown (k : HostKept) : Type 0 where
  pub now : k.reading < moments
  pub geometry : IsGeometry k.config.sizes
  pub each : AreKnown k.config.sizes k.members k.holdings

-- As what comes last in a step begins: a leaving's free that isn't written can be.
pub record FinishKnown (k : HostKept) : Type 0 where
  pub now : k.reading < moments
  pub placed : (m : MemberState) → Contains k.members m → IsPlaced k.config.sizes m.who
  pub left : (m : MemberState) (j : ℕ) → Contains k.members m → m.joined ≡ true → m.known.leaving ≡ Some j → m.known.freed ≡ false → Fits (m.known.seq + 1)

-- Running jobs have numbers of their own.
abbrev pub JobsApart : HostKept → Type 0
JobsApart k = AreApart (map (λ j. j.number) k.jobs)

-- The areas to be settled for the member of a number: those of leases of it, while it is joined.
abbrev pub spots_of : Option MemberState → List Spot
spots_of None = []
spots_of (Some m) = cond (is_active_member m) (map (λ l. l.spot) m.leases) []

-- The member of this number, where there are any of these areas, is joined, and has a lease on each.
abbrev pub HasLeases : ℕ → List Spot → List MemberState → Type 0
HasLeases n ats ms = (m : MemberState) (at : Spot) → member_with n ms ≡ Some m → Contains ats at → (m.joined ≡ true) × Contains (map (λ l. l.spot) m.leases) at

-- Each of these areas stands at a base.
abbrev pub AreAreas : Sizes → List Spot → Type 0
AreAreas z ats = (at : Spot) → Contains ats at → IsArea z at.base
