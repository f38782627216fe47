-- What code makes of a member is what a host's state functions make of it.
use Rattle.sl_area.specs.AreaSizes.{Layout, layout_of}
use Rattle.sl_host_state.specs.HeardInputs.{kept_heard, asked_hearing, counted, is_heeded_by, lease_told, member_begun, member_hearing, member_leaving, renewed_of, renewing_hearing, still_busy, watch_hearing, turn_heard}
use Rattle.sl_host_state.specs.KeptState.{HostState, LeaseState, MemberState}
use Rattle.sl_host_state.specs.MadeEffects.{is_lease_on, member_calling}
use Rattle.sl_host_state.specs.declared.kept_parts.LeaseCall.{LeaseCall}
use Rattle.sl_host_state.specs.declared.kept_parts.OpenCall.{OpenCall}
use Rattle.sl_lease.specs.Laws.{IsGiven, IsReadCall, first_by}
use Rattle.sl_sector.specs.declared.sector.PairBlock.{PairBlock}
use Rattle.sl_lease.specs.LeaseQuestions.{leader_given, read_given}
use Rattle.sl_lease.specs.Changes.{after_failure, after_write}
use Rattle.sl_trace.specs.Leases.{lease_step}
use Rattle.sl_member.specs.Leases.{changed_at, kept_shown, read_shown}
use Rattle.sl_member.specs.Members.{IsKnown, RunOf, lease_changed, leaving_begun, member_called, own_told, renewing_told}
use Rattle.sl_member.specs.SeenSessions.{shows_other_by}
use Rattle.sl_member.specs.HostMembers.{begun_by, changed_member, side_with}
use Rattle.sl_trace.specs.Sessions.{is_delta_purpose}
use Rattle.sl_trace.specs.declared.delta.DeltaKnown.{DeltaKnown}
use Rattle.sl_trace.specs.Traces.{Submitted}
use Rattle.sl_trace.specs.declared.session.Begun.{Begun}
use Rattle.sl_trace.specs.declared.effects.JoinStep.{JoinStep}
use Rattle.sl_trace.specs.declared.effects.LeaseStep.{LeaseStep}
use Rattle.sl_trace.specs.declared.effects.Purpose.TheVariants.{Joining, Lease, Leaving, Renewal, RequestRead, RequestWrite, SeeRequest, Survey, ValueRead, ValueWrite}
use Rattle.sl_trace.specs.declared.effects.Purpose.{Purpose}
use Rattle.sl_trace.specs.declared.effects.Work.{Work}
use Rattle.sl_watch.specs.ToldLooks.{told_all}
use Rattle.sl_trace.specs.declared.effects.Spot.{Spot}
use Rattle.sl_trace.specs.declared.input.Answer.TheVariants.{Failed, Read, Written}
use Rattle.sl_trace.specs.declared.input.Answer.{Answer}
use Rattle.sl_words.specs.Words.{some_is}
use Rattle.std.specs.List.{AllByRecursion}
use Rattle.std.specs.Prelude.{Bool, List, None, Option, Some, false, is_some, map, not, true, ℕ, ◌%◌, ◌&&◌, ◌-◌, ◌==◌, ◌≡◌, ◌⊎◌}

-- The area of an open call.
abbrev pub area_of_call : Layout → OpenCall → Spot
area_of_call g c = record { path = c.path; base = c.offset - c.offset % g.area }

-- Whether the lease waits for the call of this number.
abbrev pub waits_for : ℕ → LeaseState → Bool
waits_for number l = some_is (λ w. w.number == number) l.waiting

-- Of the leases none waits for the call but that on its area, if it works on one.
abbrev pub IsAwaitedAt : HostState → OpenCall → List LeaseState → Type 0
IsAwaitedAt h c ls =
    elim (lease_step c.purpose) [
      | None ↦ AllByRecursion (λ l. waits_for c.number l ≡ false) ls
      | Some p ↦ AllByRecursion (λ l. (is_lease_on (area_of_call h.config.layout c) l ≡ true) ⊎ (waits_for c.number l ≡ false)) ls
    ]

-- The call is the one that the member waits for: of its calls on delta sectors one is unanswered at a time.
pub record IsAwaited (h : HostState) (c : OpenCall) (m : MemberState) : Type 0 where
  pub busy : still_busy c.number h m ≡ (not (is_delta_purpose c.purpose) && m.known.busy)
  pub leases : IsAwaitedAt h c m.leases

-- The leases with the answer to the call of one of them.
abbrev pub leases_told : HostState → OpenCall → Answer → MemberState → List LeaseState
leases_told h c a m =
    elim (lease_step c.purpose) [ None ↦ m.leases | Some p ↦ changed_at (area_of_call h.config.layout c) (lease_told h m (is_heeded_by h c) c a) m.leases ]

-- A member with an answer, as its parts are told one by one. At each purpose all but one of them computes to what was there.
abbrev pub heard_by_parts : HostState → OpenCall → Answer → MemberState → MemberState
heard_by_parts h c a m =
    let s : MemberState = own_told c.purpose a h.reading m in
    let k : DeltaKnown = s.known in
    record s {
      known = record k { recovering = is_some (renewing_hearing h c a m).recovery };
      renewing = renewing_hearing h c a m;
      asked = asked_hearing h c a m.asked;
      watch = watch_hearing h c a m.watch;
      leases = leases_told h c a m;
    }

-- What a lease keeps of the call that it waits for.
pub record IsWaitingFor (c : OpenCall) (w : LeaseCall) (l : LeaseState) : Type 0 where
  pub waiting : l.waiting ≡ Some w
  pub number : w.number ≡ c.number
  pub purpose : c.purpose ≡ Lease w.work w.step

-- Each is the state function.
pub record HostsKeepTheSame : Type 0 where
  -- a call of one of the members
  pub calling : (g : Layout) (m : Submitted) (ms : List MemberState) → changed_member m.call.session (member_called g m) ms ≡ map (member_calling g m) ms
  -- an answer
  pub hearing : (h : HostState) (c : OpenCall) (a : Answer) (m : MemberState) → IsAwaited h c m → member_hearing h c a m ≡ heard_by_parts h c a m
  -- .. told to the lease that waits for it
  pub lease_read : (run : RunOf) (h : HostState) (m : MemberState) (heeded : Bool) (c : OpenCall) (w : LeaseCall) (bytes : List ℕ) (l : LeaseState)
      → h.config.layout ≡ layout_of run.sizes → IsWaitingFor c w l → IsReadCall w → IsGiven (layout_of run.sizes) l.pair w.step bytes
      → lease_told h m heeded c (Read bytes) l
      ≡ read_shown (side_with run m) (turn_heard (layout_of run.sizes) m.who.id w.step None (Read bytes)) heeded
      (leader_given (layout_of run.sizes) (first_by l.pair w.step) w.step bytes) (read_given (layout_of run.sizes) (first_by l.pair w.step) w.step bytes) l
  pub lease_kept : (run : RunOf) (h : HostState) (m : MemberState) (heeded : Bool) (c : OpenCall) (w : LeaseCall) (bytes : List ℕ) (pairs : List (Option PairBlock)) (l : LeaseState)
      → h.config.layout ≡ layout_of run.sizes → IsWaitingFor c w l → IsReadCall w → kept_heard (layout_of run.sizes) w.step (Read bytes) ≡ Some pairs
      → lease_told h m heeded c (Read bytes) l ≡ kept_shown (turn_heard (layout_of run.sizes) m.who.id w.step None (Read bytes)) pairs l
  pub lease_written : (run : RunOf) (h : HostState) (m : MemberState) (heeded : Bool) (c : OpenCall) (w : LeaseCall) (l : LeaseState)
      → h.config.layout ≡ layout_of run.sizes → IsWaitingFor c w l → lease_told h m heeded c Written l ≡ after_write l
  pub lease_failed : (run : RunOf) (h : HostState) (m : MemberState) (heeded : Bool) (c : OpenCall) (w : LeaseCall) (l : LeaseState)
      → h.config.layout ≡ layout_of run.sizes → IsWaitingFor c w l → lease_told h m heeded c Failed l ≡ after_failure l
  -- a step's beginning, and that of a leaving
  pub begun : (now : ℕ) (h : HostState) (m : MemberState) → member_begun (counted now h) m ≡ begun_by h.config.timing now h.entries m
  pub leaving : (h : HostState) (m : MemberState) → m.leaving ≡ None
      → member_leaving h m ≡ leaving_begun (record { at = h.entries - 1; reading = h.reading; kills_from = h.entries }) h.next_job m

-- ---- by purpose

-- The call, for this purpose.
abbrev pub open_for : OpenCall → Purpose → OpenCall
open_for c p = record c { purpose = p }

-- How a recovery begins by a read, in the step in progress: its kills come in a later one.
abbrev pub begun_by_read : HostState → Begun
begun_by_read h = record { at = h.entries - 1; reading = h.reading; kills_from = h.entries }

-- An answer of each kind, as code tells it to the parts.
pub record PartsHear : Type 0 where
  pub joining : (h : HostState) (c : OpenCall) (a : Answer) (m : MemberState) (j : ℕ) (step : JoinStep) → let d : OpenCall = open_for c (Joining j step) in
      heard_by_parts h d a m ≡ own_told d.purpose a h.reading (renewing_told (renewed_of d a) false (begun_by_read h) m)
  pub renewal : (h : HostState) (c : OpenCall) (a : Answer) (m : MemberState) → let d : OpenCall = open_for c Renewal in
      heard_by_parts h d a m ≡ own_told Renewal a h.reading (renewing_told (renewed_of d a) false (begun_by_read h) m)
  pub survey : (h : HostState) (c : OpenCall) (bytes : List ℕ) (m : MemberState) → let s : MemberState =
      own_told Survey (Read bytes) h.reading
      (renewing_told None (shows_other_by h.config.layout h.config.name m.who.id m.known.generation bytes) (begun_by_read h) m) in
      heard_by_parts h (open_for c Survey) (Read bytes) m ≡ record s { watch = told_all c.reading h.reading h.config.layout bytes s.watch }
  pub no_survey : (h : HostState) (c : OpenCall) (m : MemberState) → IsKnown m → heard_by_parts h (open_for c Survey) Failed m ≡ own_told Survey Failed h.reading m
  pub leaving : (h : HostState) (c : OpenCall) (a : Answer) (m : MemberState) (j : ℕ) → IsKnown m
      → heard_by_parts h (open_for c (Leaving j)) a m ≡ own_told (Leaving j) a h.reading m
  pub lease : (h : HostState) (c : OpenCall) (a : Answer) (m : MemberState) (work : Work) (step : LeaseStep) → IsKnown m → let d : OpenCall = open_for c (Lease work step) in
      heard_by_parts h d a m ≡ lease_changed (area_of_call h.config.layout c) (lease_told h m (is_heeded_by h d) d a) m
  pub request_write : (h : HostState) (c : OpenCall) (a : Answer) (m : MemberState) (j : ℕ) (owner : Option ℕ) → IsKnown m → let d : OpenCall = open_for c (RequestWrite j owner) in
      heard_by_parts h d a m ≡ record m { asked = asked_hearing h d a m.asked }
  pub request_read : (h : HostState) (c : OpenCall) (a : Answer) (m : MemberState) (j : ℕ) → IsKnown m → heard_by_parts h (open_for c (RequestRead j)) a m ≡ m
  pub see_request : (h : HostState) (c : OpenCall) (a : Answer) (m : MemberState) → IsKnown m → heard_by_parts h (open_for c SeeRequest) a m ≡ m
  pub value_write : (h : HostState) (c : OpenCall) (a : Answer) (m : MemberState) (j : ℕ) → IsKnown m → heard_by_parts h (open_for c (ValueWrite j)) a m ≡ m
  pub value_read : (h : HostState) (c : OpenCall) (a : Answer) (m : MemberState) (j : ℕ) → IsKnown m → heard_by_parts h (open_for c (ValueRead j)) a m ≡ m
