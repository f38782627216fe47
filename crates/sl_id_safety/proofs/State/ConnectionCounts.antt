-- From when the connection of a session of a lawful run counts, and on which daemon; and that one which has not verified has not joined.
use Rattle.sl_area.specs.AreaSizes.{sector_with}
use Rattle.sl_ids.specs.Clocks.Points.{Point}
use Rattle.sl_ids.specs.Clocks.Watchdog.{Connected, MayAct}
use Rattle.sl_run_law.specs.Course.Mirrors.{since_restart}
use Rattle.sl_run_law.specs.Course.CallStamps.{IsCourseOf, stamp_in}
use Rattle.sl_id_safety.proofs.State.SessionBesideTrace.{IsBeside}
use Rattle.sl_id_safety.proofs.State.LastRegistering.{registered, registering_call}
use Rattle.sl_id_safety.specs.State.IdStates.{runs_still}
use Rattle.sl_run.specs.Lawful.{Orderly}
use Rattle.sl_run.specs.LawfulDelta.{LawfulDeciding, LawfulDeltaCall, LawfulFirstRenewal}
use Rattle.sl_run.specs.LawfulConnections.{is_covered}
use Rattle.sl_run_law.specs.Moment.MomentsFollowSteps.{point_of}
use Rattle.sl_words.proofs.Lists.{find_fails, find_inside, got_inside}
use Rattle.sl_run.specs.Safety.{Found, SessionId, trace_of}
use Rattle.sl_run.specs.Worlds.{Course, Daemon, Stamp, World, daemons_on}
use Rattle.sl_run.specs.declared.header.Header.{Header}
use Rattle.sl_sector.specs.declared.sector.Rec.TheVariants.{DeltaIs}
use Rattle.sl_run_law.proofs.Sessions.FrontAnswersStay.{front_answers_stay}
use Rattle.sl_run_law.proofs.Sessions.CallOwners.{calls_were_lawful}
use Rattle.sl_run_law.proofs.Sessions.EndedAreSilent.{stage_by}
use Rattle.sl_run_law.specs.Sessions.SessionLaws.{IsMade, IsSession, front_of, made_as}
use Rattle.sl_trace.specs.Sessions.{calls_of, free_write, is_join_call, join_call, joined_after, refused_after, removed_after, sessions, stage_in}
use Rattle.sl_trace.specs.declared.session.Session.{Session}
use Rattle.sl_trace.specs.declared.stage.Stage.TheVariants.{Looking}
use Rattle.sl_trace.specs.declared.stage.Stage.{Stage}
use Rattle.sl_time.specs.Times.{TimingNumbers}
use Rattle.sl_trace.specs.Traces.{Answered, Setting, Submitted, Trace, bytes_given}
use Rattle.sl_trace.specs.declared.effects.JoinStep.TheVariants.{DecidingRead, FirstRenewal, VerifyRead}
use Rattle.sl_trace.specs.declared.effects.Purpose.TheVariants.{Joining}
use Rattle.sl_trace.specs.declared.effects.Purpose.{Purpose}
use Rattle.sl_run_law.proofs.Watchdog.FoundCalls.{call_inside, call_owner}
use Rattle.sl_run_law.proofs.Watchdog.Machines.{first_by}
use Rattle.sl_run_law.specs.Watchdog.ActingTimes.{acting_stamp, registering_entry, renewal_entry}
use Rattle.sl_run_law.specs.Watchdog.WatchdogLaws.{ActsStill, StandsConnected}
use Rattle.sl_words.proofs.CaseLaws.{false_is_true, none_some, not_both, one_value, some_value}
use Rattle.sl_words.proofs.WordLaws.{some_is_true}
use Rattle.std.proofs.Common.{ap, refl, sym, ◌∙◌}
use Rattle.std.proofs.lemmas.Bool.{eq-eqb, eqb-true}
use Rattle.std.specs.Prelude.{Bool, List, None, Option, Some, [], cond, false, find, is_some, option_and_then, true, ℕ, ◌&&◌, ◌==◌, ◌∷◌, ◌≡◌}

-- ---- options and lists

pub after_value : {A B : Type 0} (f : A → Option B) (o : Option A) → is_some (option_and_then f o) ≡ true → (a : A) × (o ≡ Some a)
after_value f None h = absurd (false_is_true h)
after_value f (Some a) h = (a, refl)

pub then_value : {A B : Type 0} (f : A → Option B) (o : Option A) (b : B) → option_and_then f o ≡ Some b → (a : A) × (o ≡ Some a)
then_value f None b h = absurd (none_some b h)
then_value f (Some a) b h = (a, refl)

-- ---- the daemon since the last restart

first_is : (b : Bool) (ds : List Daemon) (x d : Daemon) (n : ℕ) → first_by b ds ≡ Some x → x.number ≡ n → find (λ (z : Daemon). z.number == n) ds ≡ Some d → x ≡ d
first_is false ds x d n first same found = absurd (none_some x first)
first_is true [] x d n first same found = absurd (none_some x first)
first_is true (y ∷ ds) x d n first same found =
    let one = some_value y x first in
    let test : (y.number == n) ≡ true = eq-eqb y.number n (ap (λ (z : Daemon). z.number) one ∙ same) in
    sym one ∙ some_value y d (sym (ap (λ b. cond b (Some y) (find (λ (z : Daemon). z.number == n) ds)) test) ∙ found)

since_is : (w : World) (i : SessionId) (f : Found) → IsBeside w i f → (x : Daemon) → since_restart f.machine ≡ Some x → (x.number == f.daemon.number) ≡ true
    → since_restart f.machine ≡ Some f.daemon
since_is w i f b x since same =
    since ∙ ap (λ z. Some z) (first_is (f.machine.up && f.machine.used) (daemons_on f.machine) x f.daemon i.daemon since
    (eqb-true x.number f.daemon.number same ∙ b.number) b.numbered)

-- One that runs.
pub running_since : (w : World) (i : SessionId) (f : Found) → IsBeside w i f → runs_still f ≡ true → since_restart f.machine ≡ Some f.daemon
running_since w i f b runs =
    let d = some_is_true (λ (d : Daemon). d.number == f.daemon.number) f.machine.daemon runs in
    since_is w i f b d.0 (b.mirrors.running d.0 d.1) d.2

-- ---- the stamp from which the connection counts

abbrev stamp_for : Daemon → Option ℕ → Option ℕ → Option ℕ → Option Stamp
stamp_for d joined renewal registering =
    elim joined [
      | Some k ↦ elim renewal [ Some i ↦ stamp_in d.stamps i | None ↦ Some d.begun ]
      | None ↦ option_and_then (stamp_in d.stamps) registering
    ]

-- In a joining it is that of the newest call that was made with a registering.
pub stamp_is : (w : World) (i : SessionId) (f : Found) → IsBeside w i f → joined_after (trace_of f) f.session ≡ None → is_covered (trace_of f) f.session ≡ true
    → (c : Course) (m : Submitted) → IsCourseOf f.daemon c m → registering_call (calls_of (trace_of f) f.session) ≡ Some m
    → acting_stamp f.daemon f.session ≡ Some c.made
stamp_is w i f b none covered c m r found =
    let d : Daemon = f.daemon in
    ap (λ o. stamp_for d o (renewal_entry d.setting d.trace f.session) (registering_entry d.trace f.session.lockspace)) none
    ∙ ap (λ o. option_and_then (stamp_in d.stamps) o) (registered d.setting d.trace f.session b.lawful b.its none covered m found)
    ∙ r.made

-- A point of this moment, by which a session may act.
abbrev pub IsGuardedAt : TimingNumbers → ℕ → ℕ → Type 0
IsGuardedAt t now k = (q : Point) × (q.moment ≡ k) × MayAct t q now

pub acts_at : (h : Header) (w : World) (f : Found) (x : Stamp) → ActsStill h w f → acting_stamp f.daemon f.session ≡ Some x → IsGuardedAt h.timing w.moment x.moment
acts_at h w f x a from =
    (point_of a.stamp, ap (λ (s : Stamp). s.moment) (one_value a.stamp x (acting_stamp f.daemon f.session) a.from from), a.acts)

pub by_connection : (h : Header) (w : World) (f : Found) → StandsConnected h w f → ActsStill h w f
by_connection h w f s = record { stamp = s.stamp; from = s.from; acts = Connected (point_of f.machine.kept) s.connected }

-- ---- a session that has not verified has not joined

pub jobless : (es : Trace) (s : Session) → s.job ≡ None → (k : ℕ) × (joined_after es s ≡ Some k)
jobless es s none = by s.job none refl where
  by : (o : Option ℕ) → o ≡ None → s.job ≡ o → (k : ℕ) × (joined_after es s ≡ Some k)
  by None is its = (0, rw its refl)
  by (Some j) is its = absurd (none_some j (sym is))

pub not_looking : (joined removed refused : Option ℕ) (free : Option Submitted) (joining : Stage) (k : ℕ) → joined ≡ Some k → stage_by joined removed refused free joining ≡ Looking → ⊥
not_looking None removed refused free joining k is at = none_some k is
not_looking (Some j) (Some i) refused free joining k is at = cc
not_looking (Some j) None refused (Some m) joining k is at = cc
not_looking (Some j) None refused None joining k is at = cc

deciding_law : (st : Setting) (t : Trace) (s : Session) (c : Submitted) (p : Purpose) → LawfulDeltaCall st t s c p → is_join_call DecidingRead p ≡ true → LawfulDeciding st t s c
deciding_law st t s c (Joining j DecidingRead) law is = law
deciding_law st t s c p law is = absurd (false_is_true is)

renewal_law : (st : Setting) (t : Trace) (s : Session) (c : Submitted) (p : Purpose) → LawfulDeltaCall st t s c p → is_join_call FirstRenewal p ≡ true
    → LawfulFirstRenewal st t s c
renewal_law st t s c (Joining j FirstRenewal) law is = law
renewal_law st t s c p law is = absurd (false_is_true is)

-- A session that is given makes no deciding read.
given_not_deciding : (st : Setting) (es : Trace) (s : Session) (m : Submitted) → Orderly st es → IsSession st es s → s.job ≡ None → join_call (calls_of es s) DecidingRead ≡ Some m → ⊥
given_not_deciding st es s m h its job found =
    let there = find_inside (λ (x : Submitted). is_join_call DecidingRead x.call.purpose) (calls_of es s) m found in
    let own = call_owner es s m there.0 in
    let was = calls_were_lawful st es s m h its own.0 own.1 in
    let law = deciding_law st (front_of was.made) s (made_as was.made) m.call.purpose was.lawful there.1 in
    let t : Trace = front_of was.made in
    let k = jobless t s job in
    not_looking (joined_after t s) (removed_after t s) (refused_after t s) (free_write (calls_of t s)) (stage_in (calls_of t s)) k.0 k.1 law.looking

gave_answer : (o : Option Answered) (bytes : List ℕ) → option_and_then (λ (a : Answered). bytes_given a.answer) o ≡ Some bytes → (a : Answered) × (o ≡ Some a)
gave_answer None bytes h = absurd (none_some bytes h)
gave_answer (Some a) bytes h = (a, refl)

pub never_joined : (s : Session) (j k : ℕ) → s.job ≡ Some j → joined_after [] s ≡ Some k → ⊥
never_joined s j k job joined = by s.job job refl where
  by : (o : Option ℕ) → o ≡ Some j → s.job ≡ o → ⊥
  by None is its = none_some j is
  by (Some i) is its = none_some k (sym (rw its refl) ∙ joined)

-- The first renewal comes after the verify read.
renewal_after : (st : Setting) (es : Trace) (s : Session) (m c : Submitted) (made : IsMade es m) → LawfulFirstRenewal st (front_of made) s c
    → join_call (calls_of es s) VerifyRead ≡ None → ⊥
renewal_after st es s m c made law none =
    let read = call_owner (front_of made) s law.read law.verified.0 in
    let a = gave_answer law.read.answer (sector_with st.layout (DeltaIs law.claim)) law.verified.2 in
    let inside = front_answers_stay es m made law.read a.0 read.0 a.1 in
    not_both (is_join_call VerifyRead law.read.call.purpose) law.verified.1
    (find_fails (λ (x : Submitted). is_join_call VerifyRead x.call.purpose) (calls_of es s) law.read none (call_inside es s law.read inside read.1))

-- One that has joined by a job has made its verify read.
joined_has_verified : (st : Setting) (es : Trace) (s : Session) (j k : ℕ) → Orderly st es → IsSession st es s → s.job ≡ Some j → joined_after es s ≡ Some k
    → join_call (calls_of es s) VerifyRead ≡ None → ⊥
joined_has_verified st [] s j k h its job joined none = never_joined s j k job joined
joined_has_verified st (e ∷ past) s j k h its job joined none =
    let es : Trace = e ∷ past in
    let join = h.delta.0.joins s (got_inside (sessions st es) s.number s its) j k job joined in
    let there = find_inside (λ (x : Submitted). is_join_call FirstRenewal x.call.purpose) (calls_of es s) join.renewal join.first in
    let own = call_owner es s join.renewal there.0 in
    let was = calls_were_lawful st es s join.renewal h its own.0 own.1 in
    renewal_after st es s join.renewal (made_as was.made) was.made
    (renewal_law st (front_of was.made) s (made_as was.made) join.renewal.call.purpose was.lawful there.1) none

pub not_joined : (w : World) (i : SessionId) (f : Found) → IsBeside w i f → (m : Submitted) → join_call (calls_of (trace_of f) f.session) DecidingRead ≡ Some m
    → join_call (calls_of (trace_of f) f.session) VerifyRead ≡ None → joined_after (trace_of f) f.session ≡ None
not_joined w i f b m decides none = by (joined_after (trace_of f) f.session) refl where
  joins : (k : ℕ) → joined_after (trace_of f) f.session ≡ Some k → (o : Option ℕ) → f.session.job ≡ o → ⊥
  joins k is None job = given_not_deciding f.daemon.setting (trace_of f) f.session m b.lawful b.its job decides
  joins k is (Some j) job = joined_has_verified f.daemon.setting (trace_of f) f.session j k b.lawful b.its job is none

  by : (o : Option ℕ) → joined_after (trace_of f) f.session ≡ o → joined_after (trace_of f) f.session ≡ None
  by None is = is
  by (Some k) is = absurd (joins k is f.session.job refl)
