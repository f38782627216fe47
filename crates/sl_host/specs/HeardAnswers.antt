-- What a host that hears an answer is asked, and what is told to whom.
use Rattle.sl_host_law.specs.Replies.Answers.{IsOpen}
use Rattle.sl_area.specs.Pairs.{pairs_kept}
use Rattle.sl_host.specs.declared.told_answers.Told.TheVariants.{Again, Gave}
use Rattle.sl_host.specs.declared.told_answers.Told.{Told}
use Rattle.sl_host_state.specs.HeardInputs.{asked_at, renewed_of, turn_heard}
use Rattle.sl_lease.specs.LeaseQuestions.{leader_given, read_given}
use Rattle.sl_lease.specs.Laws.{IsReadCall}
use Rattle.sl_lease.specs.Reads.{is_asked_again}
use Rattle.sl_member.specs.Leases.{first_among, kept_shown, read_shown}
use Rattle.sl_sector.specs.declared.sector.Block.{Block}
use Rattle.sl_sector.specs.declared.sector.Leader.{Leader}
use Rattle.sl_sector.specs.declared.sector.PairBlock.{PairBlock}
use Rattle.sl_trace.specs.LeaseDecisions.{first_step, part_read}
use Rattle.sl_trace.specs.declared.effects.Spot.{Spot}
use Rattle.sl_host_state.specs.KeptState.{HostKept, HostState, LeaseState, MemberState}
use Rattle.sl_host_state.specs.MadeEffects.{is_lease_on}
use Rattle.sl_host_state.specs.HostStands.{is_kept_of}
use Rattle.sl_host_state.specs.declared.kept_parts.JobState.{JobState}
use Rattle.sl_host_state.specs.declared.kept_parts.LeaseCall.{LeaseCall}
use Rattle.sl_host_state.specs.declared.kept_parts.OpenCall.{OpenCall}
use Rattle.sl_trace.specs.Leases.{is_second, lease_step}
use Rattle.sl_member.specs.Laws.{IsAwaited, IsWaitingFor, area_of_call}
use Rattle.sl_member.specs.Members.{IsKnown, RunOf, own_told, renewing_told}
use Rattle.sl_member.specs.SeenSessions.{shows_other_by}
use Rattle.sl_member.specs.HostMembers.{member_with, side_with, told_survey}
use Rattle.sl_area.specs.AreaSizes.{Layout, Sizes, layout_of}
use Rattle.sl_trace.specs.declared.session.Begun.{Begun}
use Rattle.sl_trace.specs.declared.effects.LeaseStep.{LeaseStep}
use Rattle.sl_trace.specs.declared.effects.Purpose.TheVariants.{Joining, Leaving, Renewal, RequestRead, RequestWrite, SeeRequest, Survey, ValueRead, ValueWrite}
use Rattle.sl_trace.specs.declared.effects.Purpose.{Purpose}
use Rattle.sl_trace.specs.declared.input.Answer.TheVariants.{Failed, Read}
use Rattle.sl_trace.specs.declared.input.Answer.{Answer}
use Rattle.sl_host.specs.BookQuestions.{state_in}
use Rattle.sl_host.specs.ReplyJoinings.{writes_in}
use Rattle.sl_words.specs.Words.{some_is}
use Rattle.std.specs.List.{AllByRecursion}
use Rattle.std.specs.Prelude.{Bool, Contains, IsTrue, List, None, Option, Some, cond, false, filter, find, is_some, nat_le, not, option_and_then, true, unwrap_or, [], ℕ, ◌&&◌, ◌-◌, ◌==◌, ◌≡◌}

-- ---- what is asked of it

-- The lease on the call's area waits for it. By a read nothing is freed, no mode cleared and no turn written; where it is made once more,
-- something is kept of the first one.
pub record LeaseAwaits (h : HostState) (c : OpenCall) (m : MemberState) : Type 0 where
  pub lease : LeaseState
  pub call : LeaseCall
  pub found : find (is_lease_on (area_of_call h.config.layout c)) m.leases ≡ Some lease
  pub waits : IsWaitingFor c call lease
  pub reads : is_some c.sectors ≡ true → IsReadCall call
  pub again : is_second call.step ≡ lease.pair.again
  pub second : lease.pair.again ≡ true → IsTrue (is_some lease.pair.first)

-- So does its member.
pub record MemberAwaits (h : HostState) (c : OpenCall) (m : MemberState) : Type 0 where
  pub awaited : IsAwaited h c m
  pub known : IsKnown m
  pub leased : is_some (lease_step c.purpose) ≡ true → LeaseAwaits h c m

-- Of these jobs the one waits for it whose own it is.
abbrev pub AreWaiting : OpenCall → List JobState → Type 0
AreWaiting c js = AllByRecursion (λ j. some_is (λ w. w.number == c.number) j.waits ≡ is_kept_of j.number c) js

-- The call is open, and who waits for it is known.
pub record MayHear (k : HostKept) (c : OpenCall) : Type 0 where
  pub is_open : IsOpen (state_in k) c.number c
  pub jobs : AreWaiting c k.jobs
  pub members : (m : MemberState) → Contains k.members m → (c.session == m.who.number) ≡ true → MemberAwaits (state_in k) c m

-- ---- calls on the own sector

-- Whether a call for this purpose is one on the session's own sector.
abbrev pub is_own_purpose : Purpose → Bool
is_own_purpose (Joining j step) = true
is_own_purpose Renewal = true
is_own_purpose (Leaving j) = true
is_own_purpose p = false

-- Whether its answer may tell of renewals.
abbrev pub tells_renewals : Purpose → Bool
tells_renewals (Joining j step) = true
tells_renewals Renewal = true
tells_renewals p = false

-- How a member stands with its renewals after it.
abbrev pub renewals_told : OpenCall → Answer → Begun → MemberState → MemberState
renewals_told c a b m = cond (tells_renewals c.purpose) (renewing_told (renewed_of c a) false b m) m

-- A member after its answer at this reading.
abbrev pub own_heard : OpenCall → Answer → Begun → ℕ → MemberState → MemberState
own_heard c a b now m = own_told c.purpose a now (renewals_told c a b m)

-- ---- a read of all ids

-- Whether these bytes show another in a member's place.
abbrev pub shows_at : RunOf → List ℕ → MemberState → Bool
shows_at run bytes m = shows_other_by (layout_of run.sizes) run.host m.who.id m.known.generation bytes

-- A member after a read of all ids, submitted at one reading and answered at another.
abbrev pub survey_heard : RunOf → ℕ → ℕ → List ℕ → Begun → MemberState → MemberState
survey_heard run before after bytes b m = told_survey run before after bytes (own_told Survey (Read bytes) after (renewing_told None (shows_at run bytes m) b m))

-- ---- a lease's read

-- The turn of its own pair that a read at this step shows the member of this number, if it shows one.
abbrev pub turn_to : Layout → ℕ → LeaseStep → List ℕ → List MemberState → Option ℕ
turn_to g session step bytes ms = option_and_then (λ s. turn_heard g s.who.id step None (Read bytes)) (member_with session ms)

-- What is kept of the first read for the member's lease on an area, where a read at this step is the second one.
abbrev pub first_to : ℕ → Spot → LeaseStep → List MemberState → List (Option PairBlock)
first_to session at step ms = unwrap_or (option_and_then (λ s. first_among at step s.leases) (member_with session ms)) []

-- What a lease's read gave: it is to be made once more; or this leader, if it reads one, and these blocks, with what is kept of the first
-- read.
pub record IsTold (z : Sizes) (first : List (Option PairBlock)) (step : LeaseStep) (bytes : List ℕ) (told : Told) (blocks : List (Option Block)) : Type 0 where
  pub again : told ≡ Again → is_asked_again z step bytes ≡ true
  pub gave : (leader : Option Leader) → told ≡ Gave leader
      → (is_asked_again z step bytes ≡ false) × (leader ≡ leader_given (layout_of z) first step bytes) × (blocks ≡ read_given (layout_of z) first step bytes)

-- The lease of a member that is told so, where the read showed this turn.
abbrev pub lease_heard : RunOf → Option ℕ → Bool → LeaseStep → List ℕ → Told → List (Option Block) → MemberState → LeaseState → LeaseState
lease_heard run turn heeded step bytes Again blocks s l = kept_shown turn (pairs_kept (layout_of run.sizes) (part_read (layout_of run.sizes) bytes (first_step step))) l
lease_heard run turn heeded step bytes (Gave leader) blocks s l = read_shown (side_with run s) turn heeded leader blocks l

-- ---- a request

-- A member after the write of a request to this owner, if it was to one, that is done at this reading.
abbrev pub request_heard : Option ℕ → ℕ → MemberState → MemberState
request_heard owner now m = record m { asked = elim owner [ None ↦ m.asked | Some o ↦ cond (nat_le 1 o) (asked_at now o m.asked) m.asked ] }

-- ---- calls of which a member keeps nothing

-- Whether an answer for this purpose tells a member nothing.
abbrev pub is_untold : Purpose → Answer → Bool
is_untold (RequestRead j) a = true
is_untold (RequestWrite j owner) Failed = true
is_untold SeeRequest a = true
is_untold (ValueWrite j) a = true
is_untold (ValueRead j) a = true
is_untold p a = false

-- ---- refused members

-- Whether a refused member is over: no write of it is among these calls.
abbrev pub is_over_in : List OpenCall → MemberState → Bool
is_over_in cs m = m.refused && not (writes_in cs m.who.number)

-- The calls but the one of this number.
abbrev pub others_in : ℕ → List OpenCall → List OpenCall
others_in number cs = filter (λ c. not (c.number == number)) cs

-- How a recovery begins by a read, in the step that is in progress: its kills come in a later one.
abbrev pub begun_at : ℕ → ℕ → Begun
begun_at reading entries = record { at = entries - 1; reading = reading; kills_from = entries }
