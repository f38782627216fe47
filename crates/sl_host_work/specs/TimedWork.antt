-- What is due to a session by time, as it is found before it is done.
use Rattle.sl_host_law.specs.StepParts.Wakes.{bits_in, delta_in, is_free_at, next_by_newest}
use Rattle.sl_host_law.specs.Questions.Jobs.{running_in}
use Rattle.sl_host_law.specs.Steps.Leases.{kept_blocks, lease_at, settling_next}
use Rattle.sl_host_law.specs.Answers.CarriedDecisions.{carrying, writing_own}
use Rattle.sl_host_state.specs.KeptState.{HostKept, HostState, MemberState}
use Rattle.sl_host_work.specs.LeaseQuestions.{MayAsk}
use Rattle.sl_host_work.specs.SectorPlaces.{IsPlaced}
use Rattle.sl_trace.specs.declared.lease.LeaseNext.{LeaseNext}
use Rattle.sl_member.specs.HostMembers.{member_with}
use Rattle.sl_sector.specs.declared.sector.DeltaRec.{DeltaRec}
use Rattle.sl_sector.specs.declared.sector.DeltaState.TheVariants.{Live}
use Rattle.sl_trace.specs.DeltaDecisions.{delta_record, is_renewal_due}
use Rattle.sl_trace.specs.declared.delta.DeltaNext.TheVariants.{WriteRenewal}
use Rattle.sl_trace.specs.declared.delta.DeltaNext.{DeltaNext}
use Rattle.sl_trace.specs.declared.session.Session.{Session}
use Rattle.sl_trace.specs.declared.effects.Spot.{Spot}
use Rattle.sl_trace.specs.declared.effects.Purpose.TheVariants.{Renewal}
use Rattle.sl_host.specs.BookQuestions.{state_in}
use Rattle.std.specs.Prelude.{None, Option, Some, cond, option_map, ℕ, ◌+◌, ◌≡◌}

-- Each member's session is placed.
abbrev pub ArePlaced : HostKept → Type 0
ArePlaced k = (n : ℕ) (m : MemberState) → member_with n k.members ≡ Some m → IsPlaced k.config.sizes m.who

-- What a renewal writes.
abbrev pub renewal_written : DeltaNext → Option DeltaRec
renewal_written (WriteRenewal d) = Some d
renewal_written next = None

-- What a member's renewal writes, where it is due.
abbrev pub written_in : HostState → MemberState → Option DeltaRec
written_in h m =
    cond (is_renewal_due (delta_in h m) h.reading m.known)
    (Some (delta_record (delta_in h m) Live m.known.generation (m.known.seq + 1) h.reading (bits_in h m))) None

-- The renewal of a member, with its session, where it is due.
abbrev pub renewal_of : HostState → Option MemberState → Option (Session × DeltaRec)
renewal_of h None = None
renewal_of h (Some m) = cond m.joined (option_map (λ d. (m.who, d)) (written_in h m)) None

-- It is written.
abbrev pub renewing_by : Option (Session × DeltaRec) → HostState → HostState
renewing_by None h = h
renewing_by (Some r) h = writing_own r.0 Renewal r.1 h

-- What a member's joining does next by time, with its session, while its job runs.
abbrev pub joining_of : HostState → Option MemberState → Option (Session × DeltaNext)
joining_of h None = None
joining_of h (Some m) =
    elim m.who.job [ None ↦ None | Some j ↦ cond (running_in h j) (Some (m.who, next_by_newest (delta_in h m) h.reading m.joining.newest)) None ]

-- It is done.
abbrev pub joining_on : Option (Session × DeltaNext) → HostState → HostState
joining_on None h = h
joining_on (Some r) h = carrying r.0 r.1 h

-- What the settling of a member's lease on an area does next, with its session, where no call on the area is open.
abbrev pub settling_of : HostState → Spot → Option MemberState → Option (Session × LeaseNext)
settling_of h at None = None
settling_of h at (Some m) = cond (is_free_at h at) (Some (m.who, settling_next h m at)) None

-- A member's lease on the area may be settled: the session is placed, and the lease may be asked.
pub record MaySettle (k : HostKept) (at : Spot) (m : MemberState) : Type 0 where
  pub placed : IsPlaced k.config.sizes m.who
  pub asked : MayAsk (state_in k) m at (kept_blocks (lease_at m at))
