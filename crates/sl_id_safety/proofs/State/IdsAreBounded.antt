-- The watchdogs keep an id's bounds: whoever may still land a claim, or has verified one and is not over, may act by its connection.
use Rattle.sl_run_law.specs.Course.Mirrors.{since_restart}
use Rattle.sl_id_safety.proofs.State.SessionBesideTrace.{beside, join_none, join_there, write_waits}
use Rattle.sl_id_safety.proofs.State.ConnectionCounts.{IsGuardedAt, acts_at, after_value, by_connection, jobless, not_joined, running_since, stamp_is, then_value}
use Rattle.sl_id_safety.proofs.State.JoinOrder.{decided_newest, deciding_registers, verified_newest}
use Rattle.sl_id_safety.specs.State.Facts.{VerifyReadsHaveClaimed}
use Rattle.sl_id_safety.specs.State.IdStates.{blank, claim_bytes, claim_may_land, deciding_sample, has_begun, id_state, is_sector_of, join_course, own_courses, renewed_by_now, runs_still, sample_showing, session_named_so, standing_by, standing_of, verifying_sample, watched_bytes}
use Rattle.sl_id_safety.specs.State.StateLaws.{IdsAreBounded}
use Rattle.sl_ids.proofs.DerivedLaws.{watchdogs}
use Rattle.sl_ids.specs.State.{Session as IdSession}
use Rattle.sl_run.specs.LawfulConnections.{is_covered}
use Rattle.sl_words.proofs.Lists.{any_found, any_of, find_inside, kept, kept_inside}
use Rattle.sl_words.proofs.Options.{none_is, not_some, some_there}
use Rattle.sl_run.specs.Runs.{Happening}
use Rattle.sl_run.specs.Safety.{Found, IsSession as IsSessionOf, LawfulRun, SessionId, free_landed, has_write_in_flight, is_course_of, is_over, session_of_world, trace_of, was_reset, world_at}
use Rattle.sl_run.specs.Worlds.{Course, Program, Sampling, Stamp, World, is_in_flight, is_of_running, is_open, is_write_course, may_land}
use Rattle.sl_run.specs.declared.header.Header.{Header}
use Rattle.sl_run_law.proofs.Sessions.JoiningsAreOrdered.{joinings_are_ordered, open_stage}
use Rattle.sl_run_law.proofs.Sessions.EndedAreSilent.{stage_by}
use Rattle.sl_trace.specs.Sessions.{calls_of, ended_after, free_write, has_open_write, is_covered_stage, is_join_call, joined_after, refused_after, removed_after, stage_in, stage_of}
use Rattle.sl_trace.specs.declared.session.Session.{Session}
use Rattle.sl_trace.specs.declared.stage.Stage.{Stage}
use Rattle.sl_trace.specs.Traces.{Submitted, Trace}
use Rattle.sl_trace.specs.declared.effects.JoinStep.TheVariants.{ClaimWrite, DecidingRead, VerifyRead}
use Rattle.sl_run_law.proofs.Watchdog.WatchdogLaws.{covered_are_connected, covered_may_act, writers_may_act}
use Rattle.sl_run_law.proofs.Watchdog.ConnectionStands.{covered_open}
use Rattle.sl_run_law.specs.Watchdog.ActingTimes.{acting_stamp}
use Rattle.sl_run_law.specs.Watchdog.WatchdogLaws.{ActsStill}
use Rattle.sl_words.proofs.CaseLaws.{false_is_true, no_value, none_some, one_value, true_is_false}
use Rattle.sl_words.proofs.WordLaws.{and_true, or_true}
use Rattle.std.proofs.Common.{ap, inl, inr, refl, subst, sym, ◌∙◌}
use Rattle.std.proofs.lemmas.Bool.{or_left}
use Rattle.std.specs.Option.{option_map_or}
use Rattle.std.specs.Prelude.{Bool, Contains, List, None, Option, Some, false, is_none, is_some, not, true, ℕ, ◌&&◌, ◌||◌, ◌≡◌, ◌⊎◌}

-- ---- why a session may act

-- It may act, and its trace asks for its connection.
pub record MayStill (h : Header) (w : World) (f : Found) : Type 0 where
  pub acts : ActsStill h w f
  pub covered : is_covered (trace_of f) f.session ≡ true

by_cover : (p : Program) (h : Header) (xs : List Happening) → LawfulRun p h xs → (i : SessionId) (f : Found) → IsSessionOf (world_at p h xs) i f
    → since_restart f.machine ≡ Some f.daemon → is_covered (trace_of f) f.session ≡ true → MayStill h (world_at p h xs) f
by_cover p h xs run i f is since covered =
    record { acts = by_connection h (world_at p h xs) f (covered_are_connected p h xs run i f is since covered); covered = covered }

-- A write in flight is one of the session's own calls.
record IsFlying (i : SessionId) (f : Found) : Type 0 where
  call : Course
  own : Contains (own_courses i f.machine) call
  writes : is_write_course call ≡ true
  waits : call.answered ≡ None

flying : (i : SessionId) (f : Found) → has_write_in_flight i f.machine ≡ true → IsFlying i f
flying i f flies =
    let found = any_found (λ (c : Course). is_course_of i c && is_write_course c && is_open f.machine c) f.machine.calls flies in
    let b = and_true (is_course_of i found.0 && is_write_course found.0) (is_open f.machine found.0) found.2 in
    let kind = and_true (is_course_of i found.0) (is_write_course found.0) b.0 in
    record {
      call = found.0;
      own = kept (is_course_of i) f.machine.calls found.0 kind.0 found.1;
      writes = kind.1;
      waits = none_is found.0.answered (and_true (is_none found.0.answered) (is_of_running f.machine found.0 || may_land found.0) b.1).0;
    }

by_flight : (p : Program) (h : Header) (xs : List Happening) → LawfulRun p h xs → (i : SessionId) (f : Found) → IsSessionOf (world_at p h xs) i f
    → has_write_in_flight i f.machine ≡ true → MayStill h (world_at p h xs) f
by_flight p h xs run i f is flies =
    let b = beside p h xs run i f is in
    let c = flying i f flies in
    record {
      acts = writers_may_act p h xs run i f is flies;
      covered = covered_open f.daemon.setting (trace_of f) f.session b.lawful b.its (write_waits (world_at p h xs) i f b c.call c.own c.writes c.waits);
    }

lands_open : (i : SessionId) (f : Found) (c : Course) → is_course_of i c ≡ true → may_land c ≡ true
    → (is_course_of i c && is_write_course c && is_open f.machine c) ≡ true
lands_open i f c mine lands = by (is_write_course c) (is_none c.answered) (is_in_flight c.fate) (is_of_running f.machine c) (is_course_of i c) mine lands where
  by : (w n l r o : Bool) → o ≡ true → (w && n && l) ≡ true → (o && w && (n && (r || w && n && l))) ≡ true
  by true true true true true own h = refl
  by true true true false true own h = refl
  by w n l r false own h = absurd (false_is_true own)
  by false n l r true own h = absurd (false_is_true h)
  by true false l r true own h = absurd (false_is_true h)
  by true true false r true own h = absurd (false_is_true h)

-- A claim that may land is a write in flight.
pub claim_flies : (i : SessionId) (f : Found) (c : Course) → Contains (own_courses i f.machine) c → may_land c ≡ true → has_write_in_flight i f.machine ≡ true
claim_flies i f c own lands =
    let there = kept_inside (is_course_of i) f.machine.calls c own in
    any_of (λ (x : Course). is_course_of i x && is_write_course x && is_open f.machine x) f.machine.calls c (lands_open i f c there.1 lands) there.0

-- ---- a session that has decided

-- Where no claim was answered, nothing is verified.
none_verifies : VerifyReadsHaveClaimed → (p : Program) (h : Header) (xs : List Happening) → LawfulRun p h xs → (i : SessionId) (f : Found) → IsSessionOf (world_at p h xs) i f
    → ((k : Course) → join_course i ClaimWrite f.machine ≡ Some k → k.answered ≡ None) → join_course i VerifyRead f.machine ≡ None
none_verifies claims p h xs run i f is waits = by (join_course i VerifyRead f.machine) refl where
  by : (o : Option Course) → join_course i VerifyRead f.machine ≡ o → join_course i VerifyRead f.machine ≡ None
  by None none = none
  by (Some v) found =
      let there = find_inside (λ (c : Course). is_join_call VerifyRead c.call.purpose) (own_courses i f.machine) v found in
      let c = claims p h xs run i f v is there.0 there.1 in
      absurd (no_value c.answer c.claim.answered c.answered.0 (waits c.claim c.claimed))

-- It counts from its deciding read.
decided_acts : (p : Program) (h : Header) (xs : List Happening) → LawfulRun p h xs → (i : SessionId) (f : Found) → IsSessionOf (world_at p h xs) i f → (c : Course)
    → join_course i DecidingRead f.machine ≡ Some c → join_course i VerifyRead f.machine ≡ None → MayStill h (world_at p h xs) f
    → IsGuardedAt h.timing (world_at p h xs).moment c.made.moment
decided_acts p h xs run i f is c decides none m =
    let w : World = world_at p h xs in
    let b = beside p h xs run i f is in
    let d = join_there w i f b DecidingRead c decides in
    let no = join_none w i f b VerifyRead none in
    acts_at h w f c.made m.acts
    (stamp_is w i f b (not_joined w i f b d.0 d.1 no) m.covered c d.0 d.2 (deciding_registers (calls_of (trace_of f) f.session) d.0 d.1 no))

stage_covers : (es : Trace) (s : Session) → joined_after es s ≡ None → refused_after es s ≡ None → is_covered_stage (stage_in (calls_of es s)) ≡ true → is_covered es s ≡ true
stage_covers es s none at covers =
    or_left (is_covered_stage (stage_of es s)) (is_some (refused_after es s) && has_open_write es s)
    (ap is_covered_stage (open_stage (joined_after es s) (removed_after es s) (refused_after es s) (free_write (calls_of es s)) (stage_in (calls_of es s)) none at) ∙ covers)

-- Before its claim it is covered.
unclaimed_acts : (p : Program) (h : Header) (xs : List Happening) → LawfulRun p h xs → (i : SessionId) (f : Found) → IsSessionOf (world_at p h xs) i f → (c : Course)
    → join_course i DecidingRead f.machine ≡ Some c → join_course i VerifyRead f.machine ≡ None → join_course i ClaimWrite f.machine ≡ None
    → runs_still f ≡ true → refused_after (trace_of f) f.session ≡ None → MayStill h (world_at p h xs) f
unclaimed_acts p h xs run i f is c decides none unclaimed runs refused =
    let w : World = world_at p h xs in
    let b = beside p h xs run i f is in
    let d = join_there w i f b DecidingRead c decides in
    let unjoined = not_joined w i f b d.0 d.1 (join_none w i f b VerifyRead none) in
    by_cover p h xs run i f is (running_since w i f b runs)
    (stage_covers (trace_of f) f.session unjoined refused
    (decided_newest (calls_of (trace_of f) f.session) d.0 (joinings_are_ordered f.daemon.setting (trace_of f) f.session b.lawful b.its unjoined) d.1
    (join_none w i f b ClaimWrite unclaimed)))

waits_by : (c : Course) → may_land c ≡ true → c.answered ≡ None
waits_by c lands =
    none_is c.answered (and_true (is_write_course c) (is_none c.answered) (and_true (is_write_course c && is_none c.answered) (is_in_flight c.fate) lands).0).1

pending_by : VerifyReadsHaveClaimed → (p : Program) (h : Header) (xs : List Happening) → LawfulRun p h xs → (i : SessionId) (f : Found) → IsSessionOf (world_at p h xs) i f
    → (c : Course) → join_course i DecidingRead f.machine ≡ Some c → (o : Option Course) → join_course i ClaimWrite f.machine ≡ o
    → elim o as (λ x. Bool) [ None ↦ runs_still f && is_none (refused_after (trace_of f) f.session) | Some k ↦ may_land k ] ≡ true
    → IsGuardedAt h.timing (world_at p h xs).moment c.made.moment
pending_by claims p h xs run i f is c decides None unclaimed may =
    let b = and_true (runs_still f) (is_none (refused_after (trace_of f) f.session)) may in
    let none = none_verifies claims p h xs run i f is (λ k at. absurd (no_value k (join_course i ClaimWrite f.machine) at unclaimed)) in
    decided_acts p h xs run i f is c decides none
    (unclaimed_acts p h xs run i f is c decides none unclaimed b.0 (none_is (refused_after (trace_of f) f.session) b.1))
pending_by claims p h xs run i f is c decides (Some k) claimed may =
    let there = find_inside (λ (x : Course). is_join_call ClaimWrite x.call.purpose) (own_courses i f.machine) k claimed in
    let none = none_verifies claims p h xs run i f is
    (λ x at. ap (λ (y : Course). y.answered) (one_value x k (join_course i ClaimWrite f.machine) at claimed) ∙ waits_by k may) in
    decided_acts p h xs run i f is c decides none (by_flight p h xs run i f is (claim_flies i f k there.0 may))

pub pending_acts : VerifyReadsHaveClaimed → (p : Program) (h : Header) (xs : List Happening) → LawfulRun p h xs → (i : SessionId) (f : Found) → IsSessionOf (world_at p h xs) i f
    → (is_some (deciding_sample i f) && claim_may_land i f) ≡ true
    → IsGuardedAt h.timing (world_at p h xs).moment (option_map_or (λ c. c.made.moment) (join_course i DecidingRead f.machine) 0)
pending_acts claims p h xs run i f is pending =
    let b = and_true (is_some (deciding_sample i f)) (claim_may_land i f) pending in
    let c = after_value (sample_showing f (watched_bytes i f)) (join_course i DecidingRead f.machine) b.0 in
    subst (λ o. IsGuardedAt h.timing (world_at p h xs).moment (option_map_or (λ c. c.made.moment) o 0)) (sym c.1)
    (pending_by claims p h xs run i f is c.0 c.1 (join_course i ClaimWrite f.machine) refl b.1)

-- ---- a session that has verified

standing_covers : (joined removed refused : Option ℕ) (free : Option Submitted) (joining : Stage) (k : ℕ) → joined ≡ Some k → removed ≡ None
    → is_covered_stage (stage_by joined removed refused free joining) ≡ true
standing_covers None removed refused free joining k is gone = absurd (none_some k is)
standing_covers (Some j) (Some i) refused free joining k is gone = absurd (none_some i (sym gone))
standing_covers (Some j) None refused (Some m) joining k is gone = refl
standing_covers (Some j) None refused None joining k is gone = refl

joined_covers : (es : Trace) (s : Session) (k : ℕ) → joined_after es s ≡ Some k → removed_after es s ≡ None → is_covered es s ≡ true
joined_covers es s k joined gone =
    or_left (is_covered_stage (stage_of es s)) (is_some (refused_after es s) && has_open_write es s)
    (standing_covers (joined_after es s) (removed_after es s) (refused_after es s) (free_write (calls_of es s)) (stage_in (calls_of es s)) k joined gone)

abbrev ended_by : Option ℕ → Option ℕ → Option ℕ → Option ℕ
ended_by joined removed refused = elim joined [ Some k ↦ removed | None ↦ refused ]

-- It has joined, or its verify read is there.
abbrev HasVerify : SessionId → Found → Type 0
HasVerify i f = joined_after (trace_of f) f.session ≡ None → (c : Course) × (join_course i VerifyRead f.machine ≡ Some c)

going_covers : (p : Program) (h : Header) (xs : List Happening) → LawfulRun p h xs → (i : SessionId) (f : Found) → IsSessionOf (world_at p h xs) i f → HasVerify i f
    → ended_after (trace_of f) f.session ≡ None → (o : Option ℕ) → joined_after (trace_of f) f.session ≡ o → is_covered (trace_of f) f.session ≡ true
going_covers p h xs run i f is verify unended (Some k) joined =
    joined_covers (trace_of f) f.session k joined
    (sym (ap (λ o. ended_by o (removed_after (trace_of f) f.session) (refused_after (trace_of f) f.session)) joined) ∙ unended)
going_covers p h xs run i f is verify unended None none =
    let w : World = world_at p h xs in
    let b = beside p h xs run i f is in
    let c = verify none in
    let v = join_there w i f b VerifyRead c.0 c.1 in
    stage_covers (trace_of f) f.session none
    (sym (ap (λ o. ended_by o (removed_after (trace_of f) f.session) (refused_after (trace_of f) f.session)) none) ∙ unended)
    (verified_newest (calls_of (trace_of f) f.session) v.0 (joinings_are_ordered f.daemon.setting (trace_of f) f.session b.lawful b.its none) v.1).1

not_over_by : (free ended reset flies : Bool) → (free || (ended || reset) && not flies) ≡ false → flies ≡ false → (ended ≡ false) × (reset ≡ false)
not_over_by true ended reset flies over is = absurd (true_is_false over)
not_over_by false ended reset true over is = absurd (true_is_false is)
not_over_by false true reset false over is = absurd (true_is_false over)
not_over_by false false true false over is = absurd (true_is_false over)
not_over_by false false false false over is = (refl, refl)

-- While it is not over it may act.
going_acts : (p : Program) (h : Header) (xs : List Happening) → LawfulRun p h xs → (i : SessionId) (f : Found) → IsSessionOf (world_at p h xs) i f → HasVerify i f
    → is_over i f ≡ false → (b : Bool) → has_write_in_flight i f.machine ≡ b → MayStill h (world_at p h xs) f
going_acts p h xs run i f is verify over true flies = by_flight p h xs run i f is flies
going_acts p h xs run i f is verify over false quiet =
    let w : World = world_at p h xs in
    let n = not_over_by (free_landed i f) (is_some (ended_after (trace_of f) f.session)) (was_reset f) (has_write_in_flight i f.machine) over quiet in
    let covered = going_covers p h xs run i f is verify (not_some (ended_after (trace_of f) f.session) n.0) (joined_after (trace_of f) f.session) refl in
    record { acts = covered_may_act p h xs run i f is n.1 covered; covered = covered }

abbrev renewed_for : Option ℕ → Option Stamp → Option Sampling → Option Course → ℕ
renewed_for joined acting verifying read =
    elim joined [
      | Some k ↦ option_map_or (λ s. s.moment) acting 0
      | None ↦ elim verifying [ None ↦ 0 | Some x ↦ option_map_or (λ c. c.made.moment) read 0 ]
    ]

verify_read : (w : World) (i : SessionId) (f : Found) → (is_none f.session.job || is_some (verifying_sample w i f)) ≡ true → joined_after (trace_of f) f.session ≡ None
    → (x : Sampling) × (verifying_sample w i f ≡ Some x)
verify_read w i f verified none = by (or_true (is_none f.session.job) (is_some (verifying_sample w i f)) verified) where
  by : (is_none f.session.job ≡ true) ⊎ (is_some (verifying_sample w i f) ≡ true) → (x : Sampling) × (verifying_sample w i f ≡ Some x)
  by (inl given) =
      let k = jobless (trace_of f) f.session (none_is f.session.job given) in
      absurd (no_value k.0 (joined_after (trace_of f) f.session) k.1 none)
  by (inr sampled) = some_there (verifying_sample w i f) sampled

read_of : (w : World) (i : SessionId) (f : Found) (x : Sampling) → verifying_sample w i f ≡ Some x → (c : Course) × (join_course i VerifyRead f.machine ≡ Some c)
read_of w i f x is = then_value (sample_showing f (claim_bytes w i f)) (join_course i VerifyRead f.machine) x is

acting_by : (p : Program) (h : Header) (xs : List Happening) → LawfulRun p h xs → (i : SessionId) (f : Found) → IsSessionOf (world_at p h xs) i f
    → (is_none f.session.job || is_some (verifying_sample (world_at p h xs) i f)) ≡ true → MayStill h (world_at p h xs) f
    → (o : Option ℕ) → joined_after (trace_of f) f.session ≡ o → IsGuardedAt h.timing (world_at p h xs).moment (renewed_by_now (world_at p h xs) i f)
acting_by p h xs run i f is verified m (Some k) joined =
    let w : World = world_at p h xs in
    subst (λ n. IsGuardedAt h.timing w.moment n)
    (sym (ap (λ o. renewed_for o (acting_stamp f.daemon f.session) (verifying_sample w i f) (join_course i VerifyRead f.machine)) joined
    ∙ ap (λ o. option_map_or (λ (s : Stamp). s.moment) o 0) m.acts.from))
    (acts_at h w f m.acts.stamp m.acts m.acts.from)
acting_by p h xs run i f is verified m None none =
    let w : World = world_at p h xs in
    let b = beside p h xs run i f is in
    let x = verify_read w i f verified none in
    let c = read_of w i f x.0 x.1 in
    let v = join_there w i f b VerifyRead c.0 c.1 in
    subst (λ n. IsGuardedAt h.timing w.moment n)
    (sym (ap (λ o. renewed_for o (acting_stamp f.daemon f.session) (verifying_sample w i f) (join_course i VerifyRead f.machine)) none
    ∙ ap (λ o. renewed_for None (acting_stamp f.daemon f.session) o (join_course i VerifyRead f.machine)) x.1
    ∙ ap (λ o. option_map_or (λ (y : Course). y.made.moment) o 0) c.1))
    (acts_at h w f c.0.made m.acts
    (stamp_is w i f b none m.covered c.0 v.0 v.2
    (verified_newest (calls_of (trace_of f) f.session) v.0 (joinings_are_ordered f.daemon.setting (trace_of f) f.session b.lawful b.its none) v.1).0))

pub acting_acts : (p : Program) (h : Header) (xs : List Happening) → LawfulRun p h xs → (i : SessionId) (f : Found) → IsSessionOf (world_at p h xs) i f
    → (is_none f.session.job || is_some (verifying_sample (world_at p h xs) i f)) ≡ true → is_over i f ≡ false
    → IsGuardedAt h.timing (world_at p h xs).moment (renewed_by_now (world_at p h xs) i f)
acting_acts p h xs run i f is verified over =
    let w : World = world_at p h xs in
    acting_by p h xs run i f is verified
    (going_acts p h xs run i f is (λ none. let x = verify_read w i f verified none in read_of w i f x.0 x.1) over (has_write_in_flight i f.machine) refl)
    (joined_after (trace_of f) f.session) refl

-- ---- the bounds

abbrev standing_if : World → List ℕ → ℕ → SessionId → Found → Bool → IdSession
standing_if w path offset i f b = elim b [ false ↦ blank | true ↦ standing_of w path offset i f ]

pending_if : VerifyReadsHaveClaimed → (p : Program) (h : Header) (xs : List Happening) → LawfulRun p h xs → (path : List ℕ) (offset : ℕ) (i : SessionId) (f : Found)
    → IsSessionOf (world_at p h xs) i f → (b : Bool) → (standing_if (world_at p h xs) path offset i f b).pending ≡ true
    → IsGuardedAt h.timing (world_at p h xs).moment (standing_if (world_at p h xs) path offset i f b).registered
pending_if claims p h xs run path offset i f is false pending = absurd (false_is_true pending)
pending_if claims p h xs run path offset i f is true pending = pending_acts claims p h xs run i f is pending

pending_at : VerifyReadsHaveClaimed → (p : Program) (h : Header) (xs : List Happening) → LawfulRun p h xs → (path : List ℕ) (offset : ℕ) (i : SessionId) (o : Option Found)
    → session_of_world (world_at p h xs) i ≡ o → (standing_by (world_at p h xs) path offset i o).pending ≡ true
    → IsGuardedAt h.timing (world_at p h xs).moment (standing_by (world_at p h xs) path offset i o).registered
pending_at claims p h xs run path offset i None is pending = absurd (false_is_true pending)
pending_at claims p h xs run path offset i (Some f) is pending =
    pending_if claims p h xs run path offset i f is (is_sector_of (world_at p h xs).layout path offset f.session && has_begun i f) pending

acting_if : (p : Program) (h : Header) (xs : List Happening) → LawfulRun p h xs → (path : List ℕ) (offset : ℕ) (i : SessionId) (f : Found)
    → IsSessionOf (world_at p h xs) i f → (b : Bool) → (standing_if (world_at p h xs) path offset i f b).verified ≡ true
    → (standing_if (world_at p h xs) path offset i f b).over ≡ false
    → IsGuardedAt h.timing (world_at p h xs).moment (standing_if (world_at p h xs) path offset i f b).renewed
acting_if p h xs run path offset i f is false verified over = absurd (false_is_true verified)
acting_if p h xs run path offset i f is true verified over = acting_acts p h xs run i f is verified over

acting_at : (p : Program) (h : Header) (xs : List Happening) → LawfulRun p h xs → (path : List ℕ) (offset : ℕ) (i : SessionId) (o : Option Found)
    → session_of_world (world_at p h xs) i ≡ o → (standing_by (world_at p h xs) path offset i o).verified ≡ true
    → (standing_by (world_at p h xs) path offset i o).over ≡ false
    → IsGuardedAt h.timing (world_at p h xs).moment (standing_by (world_at p h xs) path offset i o).renewed
acting_at p h xs run path offset i None is verified over = absurd (false_is_true verified)
acting_at p h xs run path offset i (Some f) is verified over =
    acting_if p h xs run path offset i f is (is_sector_of (world_at p h xs).layout path offset f.session && has_begun i f) verified over

-- The watchdogs keep the bounds of an id.
pub ids_are_bounded_given : VerifyReadsHaveClaimed → IdsAreBounded
ids_are_bounded_given claims p h xs path offset run =
    let w : World = world_at p h xs in
    watchdogs.bounds h.timing (id_state w path offset) run.header.timing (record {
      pending = λ s is. pending_at claims p h xs run path offset (session_named_so s) (session_of_world w (session_named_so s)) refl is;
      acting = λ s verified over. acting_at p h xs run path offset (session_named_so s) (session_of_world w (session_named_so s)) refl verified over;
    })
