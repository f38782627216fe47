-- A member as code keeps it, and what each call and answer makes of it.
use Rattle.sl_area.specs.AreaSizes.{Sizes, layout_of, Layout}
use Rattle.sl_delta.specs.OwnSector.{OwnState, joining_told, IsOwnRecord}
use Rattle.sl_host_state.specs.HeardInputs.{with_renewing}
use Rattle.sl_host_state.specs.KeptState.{LeaseState, MemberState}
use Rattle.sl_host_state.specs.MadeEffects.{joining_calling, known_calling, leases_calling}
use Rattle.sl_host_state.specs.NewHost.{new_member}
use Rattle.sl_lease.specs.declared.side.Side.{Side}
use Rattle.sl_member.specs.Leases.{IsKeepable, begins_lease, changed_at}
use Rattle.sl_member.specs.SeenSessions.{SeenBy}
use Rattle.sl_sector.specs.declared.sector.Owner.{Owner}
use Rattle.sl_trace.specs.DeltaDecisions.{DeltaLease}
use Rattle.sl_trace.specs.Sessions.{delta_written, is_delta_purpose}
use Rattle.sl_trace.specs.declared.delta.DeltaKnown.{DeltaKnown}
use Rattle.sl_trace.specs.declared.session.Begun.{Begun}
use Rattle.sl_trace.specs.declared.session.Renewing.{Renewing}
use Rattle.sl_trace.specs.declared.session.Session.{Session}
use Rattle.sl_time.specs.Times.{TimingNumbers}
use Rattle.sl_trace.specs.Traces.{Submitted}
use Rattle.sl_trace.specs.declared.effects.Purpose.{Purpose}
use Rattle.sl_trace.specs.declared.effects.Spot.{Spot}
use Rattle.sl_trace.specs.declared.input.Answer.{Answer}
use Rattle.sl_watch.specs.Watches.{Watched}
use Rattle.std.specs.Prelude.{Bool, Err, IfSome, List, None, Option, Some, cond, is_some, not, true, unwrap_or, ℕ, ◌&&◌, ◌-◌, ◌≡◌, ◌≤◌}

-- The run that a host and its members are of: times, sizes, the host's name.
pub record RunOf : Type 0 where
  pub timing : TimingNumbers
  pub sizes : Sizes
  pub host : List ℕ

-- A member, and for how many more leases there is memory.
pub record MemberKept : Type 0 where
  pub run : RunOf
  pub state : MemberState
  pub room : ℕ

-- What its parts are together: each is of the run and of the session; who is joined has a generation.
pub record IsMember (tm : TimingNumbers) (z : Sizes) (host : List ℕ) (who : Session) (joined : Bool) (o : OwnState) (w : Watched) : Type 0 where
  pub timing : o.timing ≡ tm
  pub sizes : o.sizes ≡ z
  pub named : o.host ≡ host
  pub lockspace : o.lockspace ≡ who.lockspace
  pub id : o.id ≡ who.id
  pub watched : w.sizes ≡ z
  pub times : w.timing ≡ tm
  pub claimed : joined ≡ true → 1 ≤ o.generation

-- ---- what it is

-- What it keeps of its own sector.
abbrev pub own_of : MemberKept → OwnState
own_of v =
    record {
      timing = v.run.timing;
      sizes = v.run.sizes;
      host = v.run.host;
      lockspace = v.state.who.lockspace;
      id = v.state.who.id;
      joining = v.state.joining;
      generation = v.state.known.generation;
      seq = v.state.known.seq;
      renewed = v.state.known.renewed;
      busy = v.state.known.busy;
      freed = v.state.known.freed;
    }

-- Its delta lease, as the definitions ask of it.
abbrev pub delta_lease : MemberKept → DeltaLease
delta_lease v =
    record { timing = v.run.timing; layout = layout_of v.run.sizes; host = v.run.host; lockspace = v.state.who.lockspace; id = v.state.who.id }

-- The session as ballots name it.
abbrev pub owner_in : MemberState → Owner
owner_in m = record { id = m.who.id; generation = m.known.generation }

-- For whom its leases are kept.
abbrev pub side_in : MemberKept → Side
side_in v = record { geometry = v.run.sizes; lockspace = v.state.who.lockspace; me = owner_in v.state }

-- What it has seen.
abbrev pub seen_in : MemberState → SeenBy
seen_in m = record { watch = m.watch; id = m.who.id; generation = m.known.generation; joined = m.joined }

-- A session without a call, of a run.
abbrev pub blank_member : RunOf → Session → MemberState
blank_member r s = new_member (record { timing = r.timing; grace = 0; layout = layout_of r.sizes; machine = 0; name = r.host; read = λ text. Err 0 }) s

-- ---- what a call makes of it

-- After a call of its own: `member_calling` where the call is its.
abbrev pub member_called : Layout → Submitted → MemberState → MemberState
member_called g m s = record s { known = known_calling m s.known; joining = joining_calling m s.joining; leases = leases_calling g m s.leases }

-- The same of what code keeps.
abbrev pub kept_called : Submitted → MemberKept → MemberKept
kept_called m v =
    record v {
      state = member_called (layout_of v.run.sizes) m v.state;
      room = cond (begins_lease (layout_of v.run.sizes) m v.state.leases) (v.room - 1) v.room;
    }

-- What such a call writes can be kept.
pub record IsOwnCall (m : Submitted) : Type 0 where
  pub delta : IfSome (delta_written m) IsOwnRecord
  pub keepable : IsKeepable m.call.op

-- ---- what an answer makes of it

-- A call on a delta sector, or another, is answered at this reading.
abbrev pub own_told : Purpose → Answer → ℕ → MemberState → MemberState
own_told p a now s = let k : DeltaKnown = s.known in record s { known = record k { busy = not (is_delta_purpose p) && k.busy }; joining = joining_told p a now s.joining }

-- A renewal counts that was submitted at this reading.
abbrev pub renewal_counted : ℕ → MemberState → MemberState
renewal_counted reading s = let r : Renewing = s.renewing in record s { renewing = record r { last = reading } }

-- How a session stands with its renewals after an answer: one that shows another begins recovery so, else a renewal that counts, which was
-- submitted at this reading, is the last. In recovery nothing counts.
abbrev pub renewing_after : Option ℕ → Bool → Begun → Bool → Renewing → Renewing
renewing_after counts shows begun joined r =
    elim r.recovery [ Some b ↦ r | None ↦ cond (joined && shows) (record r { recovery = Some begun }) (record r { last = unwrap_or counts r.last }) ]

abbrev pub renewing_told : Option ℕ → Bool → Begun → MemberState → MemberState
renewing_told counts shows begun s = with_renewing (renewing_after counts shows begun s.joined s.renewing) s

-- What is known of it tells whether it is in recovery: so it is of each member that code keeps.
abbrev pub IsKnown : MemberState → Type 0
IsKnown s = s.known.recovering ≡ is_some s.renewing.recovery

-- Recovery begins.
abbrev pub recovery_begun : Begun → MemberState → MemberState
recovery_begun b s = let r : Renewing = s.renewing in with_renewing (record r { recovery = Some b }) s

-- A leaving begins, for this job.
abbrev pub leaving_begun : Begun → ℕ → MemberState → MemberState
leaving_begun b job s = let k : DeltaKnown = s.known in record s { leaving = Some b; known = record k { leaving = Some job } }

-- The lease on an area changes.
abbrev pub lease_changed : Spot → (LeaseState → LeaseState) → MemberState → MemberState
lease_changed at f s = record s { leases = changed_at at f s.leases }
