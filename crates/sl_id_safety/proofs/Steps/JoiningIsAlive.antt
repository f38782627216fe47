-- A session whose joining has a read in flight, that isn't refused and hasn't verified its claim: it isn't over, and hasn't joined.
use Rattle.sl_run_law.proofs.Course.Daemons.{every_has}
use Rattle.sl_run_law.proofs.Course.MachinesMirror.{machines_mirror}
use Rattle.sl_run_law.proofs.Course.PairwiseLists.{pairs_length}
use Rattle.sl_run_law.proofs.Course.EntriesAreStamped.{entries_are_stamped}
use Rattle.sl_run_law.specs.Course.CallStamps.{IsCourseOf, stamp_in}
use Rattle.sl_id_safety.proofs.State.ConnectionCounts.{never_joined}
use Rattle.sl_id_safety.proofs.State.TraceBridge.{IsKnown, join_pairs, known}
use Rattle.sl_id_safety.proofs.State.ClaimsHaveDecided.{record_is}
use Rattle.sl_id_safety.proofs.State.Frames.{of_daemon}
use Rattle.sl_id_safety.proofs.State.CallLaws.{own_call}
use Rattle.sl_id_safety.proofs.State.LandingFrames.{not_newest}
use Rattle.sl_id_safety.proofs.State.PairedLists.{every_pair, find_pairs}
use Rattle.sl_id_safety.proofs.State.JoiningCallOrder.{is_joining}
use Rattle.sl_id_safety.proofs.State.SessionFacts.{grounds, renewals_have_verified}
use Rattle.sl_id_safety.proofs.State.RenewalsHaveVerified.{none_joining}
use Rattle.sl_id_safety.proofs.State.SeqsRise.{all_renew}
use Rattle.sl_id_safety.proofs.State.SampleFrames.{join_is, joining_is}
use Rattle.sl_id_safety.proofs.State.FindingFrames.{find_passes, never_reset}
use Rattle.sl_id_safety.proofs.State.JoiningSteps.{ranks_of}
use Rattle.sl_id_safety.proofs.State.Tails.{front_at}
use Rattle.sl_id_safety.proofs.State.TracesInTime.{refused_by, stamp_below}
use Rattle.sl_id_safety.specs.State.IdStates.{comes_before, own_courses, refused_stamp, runs_still, verifying_sample}
use Rattle.sl_run.specs.Lawful.{Orderly}
use Rattle.sl_run.specs.LawfulDelta.{LawfulDeltaCall, LawfulJoin}
use Rattle.sl_words.proofs.Lists.{got_inside, kept_inside}
use Rattle.sl_run.specs.Runs.{Happening}
use Rattle.sl_run.specs.Safety.{Found, LawfulRun, SessionId, free_landed, has_write_in_flight, is_course_of, is_over, session_of_world, trace_of, was_reset, world_at}
use Rattle.sl_run.specs.Worlds.{Course, Daemon, Machine, Program, Sampling, Stamp, World, daemon_numbered, flight_of, is_in_flight, is_landed, is_of_running, is_open, is_write_course, may_land, resets_after}
use Rattle.sl_run.specs.declared.header.Header.{Header}
use Rattle.sl_run_law.specs.FatesStay.{Every}
use Rattle.sl_sector.specs.declared.sector.DeltaRec.{DeltaRec}
use Rattle.sl_sector.specs.declared.sector.Rec.TheVariants.{DeltaIs}
use Rattle.sl_run_law.proofs.Sessions.MarksStay.{refused_more}
use Rattle.sl_run_law.specs.Sessions.SessionLaws.{IsSession as IsSessionOf}
use Rattle.sl_trace.specs.Sessions.{calls_of, delta_written, free_write, is_free_purpose, is_join_call, joined_after, refused_after, removed_after, sessions}
use Rattle.sl_trace.specs.declared.session.Session.{Session}
use Rattle.sl_trace.specs.Traces.{Setting, Submitted, Trace, new_call, record_of}
use Rattle.sl_trace.specs.declared.effects.Call.{Call}
use Rattle.sl_trace.specs.declared.effects.JoinStep.TheVariants.{ClaimWrite, FirstRenewal}
use Rattle.sl_trace.specs.declared.effects.JoinStep.{JoinStep}
use Rattle.sl_trace.specs.declared.effects.Purpose.TheVariants.{Joining, Leaving}
use Rattle.sl_trace.specs.declared.effects.Purpose.{Purpose}
use Rattle.sl_words.proofs.CaseLaws.{false_is_true, none_some, not_both, one_value, true_is_false}
use Rattle.sl_words.proofs.WordLaws.{and_true}
use Rattle.sl_words.specs.Words.{some_is}
use Rattle.std.proofs.Common.{ap, arith, inl, inr, refl, sym, tests, ◌∙◌}
use Rattle.std.proofs.lemmas.Bool.{eq-eqb, eqb-true}
use Rattle.std.specs.List.{list_any}
use Rattle.std.specs.Prelude.{Bool, Contains, List, None, Option, Some, cond, false, find, is_none, is_some, length, nat_lt, not, option_and_then, true, [], ℕ, ◌&&◌, ◌+◌, ◌-◌, ◌<◌, ◌==◌, ◌||◌, ◌∷◌, ◌≡◌, ◌≤◌}

-- ---- it isn't refused

stamp_by : (b : Bool) (s : Stamp) (ss : List Stamp) (i : ℕ) → (i == length ss) ≡ b → i < length ss + 1 → (i < length ss → (t : Stamp) × (stamp_in ss i ≡ Some t))
    → (t : Stamp) × (elim b as (λ z. Option Stamp) [ true ↦ Some s | false ↦ stamp_in ss i ] ≡ Some t)
stamp_by true s ss i is lt rest = (s, refl)
stamp_by false s ss i is lt rest = rest (not_newest i (length ss) is lt)

one_longer : (s : Stamp) (ss : List Stamp) (i : ℕ) → i < length (s ∷ ss) → i < length ss + 1
one_longer s ss i h = omega (arith, h)

pub stamp_there : (ss : List Stamp) (i : ℕ) → i < length ss → (t : Stamp) × (stamp_in ss i ≡ Some t)
stamp_there [] i h = absurd (omega (arith, h))
stamp_there (s ∷ ss) i h = stamp_by (i == length ss) s ss i refl (one_longer s ss i h) (stamp_there ss i)

never_refused : (s : Session) (k : ℕ) (job : Option ℕ) → s.job ≡ job → refused_after [] s ≡ Some k → ⊥
never_refused s k None is h =
    none_some k (sym (ap (λ (o : Option ℕ). refused_after [] (record s { job = o })) is) ∙ h)
never_refused s k (Some j) is h =
    none_some k (sym (ap (λ (o : Option ℕ). refused_after [] (record s { job = o })) is) ∙ h)

-- A refusal is of one of the entries.
refused_within : (es : Trace) (s : Session) (k : ℕ) → refused_after es s ≡ Some k → (1 ≤ k) × (k ≤ length es)
refused_within [] s k h = absurd (never_refused s k s.job refl h)
refused_within (e ∷ es) s k h = by (refused_after es s) refl (refused_within es s) where
  by : (o : Option ℕ) → refused_after es s ≡ o → ((j : ℕ) → refused_after es s ≡ Some j → (1 ≤ j) × (j ≤ length es)) → (1 ≤ k) × (k ≤ length (e ∷ es))
  by (Some j) is rest =
      let r = rest j is in
      let same = one_value j k (refused_after (e ∷ es) s) (refused_more e es s j is) h in
      (omega (arith, r.0, same), omega (arith, r.1, same))
  by None is rest = let last = refused_by e es s k s.job refl is h in (omega (arith, last), omega (arith, last))

not_less : (a b n : ℕ) → a ≡ n → b < n → nat_lt a b ≡ true → ⊥
not_less a b n is lt h = grind (arith, tests)

before_now : (k n m : ℕ) → (1 ≤ k) × (k ≤ n) → m ≡ n → k - 1 < m
before_now k n m h e = omega (arith, h.0, h.1, e)

-- What is sampled now comes before no refusal.
pub unrefused : (p : Program) (h : Header) (xs : List Happening) → LawfulRun p h xs → (i : SessionId) (f : Found) → session_of_world (world_at p h xs) i ≡ Some f
    → (x : Sampling) → x.step ≡ (world_at p h xs).step → comes_before (refused_stamp f) x ≡ true → refused_after (trace_of f) f.session ≡ None
unrefused p h xs run i f at x now before = by (refused_after (trace_of f) f.session) refl where
  by : (o : Option ℕ) → refused_after (trace_of f) f.session ≡ o → o ≡ None
  by None is = refl
  by (Some k) is =
      let w : World = world_at p h xs in
      let q = known grounds p h xs run i f at in
      let stamped = pairs_length _ f.daemon.stamps f.daemon.trace (entries_are_stamped p h xs run i.machine f.machine f.daemon q.there.at q.there.has) in
      let s = stamp_there f.daemon.stamps (k - 1) (before_now k (length f.daemon.trace) (length f.daemon.stamps) (refused_within f.daemon.trace f.session k is) stamped) in
      let stamp : refused_stamp f ≡ Some s.0 = ap (λ o. option_and_then (λ n. stamp_in f.daemon.stamps (n - 1)) o) is ∙ s.1 in
      absurd (not_less x.step s.0.step w.step now (stamp_below w.step f.daemon.stamps (k - 1) s.0 q.stamps s.1)
      (sym (ap (λ o. comes_before o x) stamp) ∙ before))

-- ---- its daemon runs, and wasn't reset

runs_by : (b c d : Bool) → c ≡ false → (b && (d || c)) ≡ true → d ≡ true
runs_by true c true is h = refl
runs_by true c false is h = absurd (not_both c h is)
runs_by false c d is h = absurd (false_is_true h)

never_lands : (c : Course) → is_write_course c ≡ false → may_land c ≡ false
never_lands c is = ap (λ b. b && is_none c.answered && is_in_flight c.fate) is

-- A read in flight is of the daemon that runs.
of_running : (a : Machine) (n : ℕ) (c : Course) → flight_of a n ≡ Some c → is_write_course c ≡ false → is_of_running a c ≡ true
of_running a n c flight reads =
    let p = find_passes (λ x. x.call.number == n && is_open a x) a.calls c flight in
    runs_by (is_none c.answered) (may_land c) (is_of_running a c) (never_lands c reads) (and_true (c.call.number == n) (is_open a c) p.test).1

-- The daemon that runs is the session's.
record IsRunning (f : Found) (d : Daemon) : Type 0 where
  runs : f.machine.daemon ≡ Some d
  same : d ≡ f.daemon

first_is : (a : Machine) (d : Daemon) (n : ℕ) → a.daemon ≡ Some d → d.number ≡ n → daemon_numbered a n ≡ Some d
first_is a d n runs is =
    ap (λ (o : Option Daemon). find (λ (x : Daemon). x.number == n) (elim o as (λ z. List Daemon) [ None ↦ a.ended | Some y ↦ y ∷ a.ended ])) runs
    ∙ ap (λ b. cond b (Some d) (find (λ (x : Daemon). x.number == n) a.ended)) (eq-eqb d.number n is)

running_by : (i : SessionId) (f : Found) (o : Option Daemon) → f.machine.daemon ≡ o → daemon_numbered f.machine i.daemon ≡ Some f.daemon
    → some_is (λ (d : Daemon). d.number == i.daemon) o ≡ true → (d : Daemon) × IsRunning f d
running_by i f None runs found h = absurd (false_is_true h)
running_by i f (Some d) runs found h =
    let same = one_value d f.daemon (daemon_numbered f.machine i.daemon) (first_is f.machine d i.daemon runs (eqb-true d.number i.daemon h)) found in
    (d, record { runs = runs; same = same })

-- A read of the session in flight.
pub record IsReading (w : World) (i : SessionId) (f : Found) (n : ℕ) (step : JoinStep) (c : Course) : Type 0 where
  pub known : IsKnown w i f
  pub flight : flight_of f.machine n ≡ Some c
  pub reads : is_write_course c ≡ false
  pub own : Contains (own_courses i f.machine) c
  pub joins : is_join_call step c.call.purpose ≡ true

runs_now : (w : World) (i : SessionId) (f : Found) (n : ℕ) (step : JoinStep) (c : Course) → IsReading w i f n step c → (d : Daemon) × IsRunning f d
runs_now w i f n step c r =
    running_by i f f.machine.daemon refl r.known.there.found
    (ap (λ k. some_is (λ (d : Daemon). d.number == k) f.machine.daemon) (sym (of_daemon i c (kept_inside (is_course_of i) f.machine.calls c r.own).1))
    ∙ of_running f.machine n c r.flight r.reads)

pub still_runs : (w : World) (i : SessionId) (f : Found) (n : ℕ) (step : JoinStep) (c : Course) → IsReading w i f n step c → runs_still f ≡ true
still_runs w i f n step c r =
    let d = runs_now w i f n step c r in
    ap (λ o. some_is (λ (x : Daemon). x.number == f.daemon.number) o) d.1.runs ∙ eq-eqb d.0.number f.daemon.number (ap (λ x. x.number) d.1.same)

pub not_reset : (p : Program) (h : Header) (xs : List Happening) → LawfulRun p h xs → (i : SessionId) (f : Found) (n : ℕ) (step : JoinStep) (c : Course)
    → IsReading (world_at p h xs) i f n step c → was_reset f ≡ false
not_reset p h xs run i f n step c r =
    let d = runs_now (world_at p h xs) i f n step c r in
    let m = machines_mirror p h xs run i.machine f.machine r.known.there.at in
    never_reset f (ap (λ (x : Daemon). resets_after f.machine x.begun.step) (sym d.1.same) ∙ m.kept d.0 (m.running d.0 d.1.runs))

-- ---- it has a job

joins_some : (i : SessionId) (f : Found) (cs : List Course) (c : Course) (step : JoinStep) → Every (λ (x : Course). is_joining x.call.purpose ≡ false) cs → Contains cs c
    → is_join_call step c.call.purpose ≡ true → ⊥
joins_some i f cs c step none has joins =
    not_both (is_joining c.call.purpose) (ranks_of step c.call.purpose joins).0 (every_has (λ (x : Course). is_joining x.call.purpose ≡ false) cs c none has)

has_job_by : (w : World) (i : SessionId) (f : Found) (n : ℕ) (step : JoinStep) (c : Course) → IsReading w i f n step c → (o : Option ℕ) → f.session.job ≡ o
    → (j : ℕ) × (f.session.job ≡ Some j)
has_job_by w i f n step c r (Some j) is = (j, is)
has_job_by w i f n step c r None is =
    absurd (joins_some i f (own_courses i f.machine) c step
    (every_pair (IsCourseOf f.daemon) (λ (x : Course). is_joining x.call.purpose ≡ false) (λ (m : Submitted). is_joining m.call.purpose ≡ false)
    (λ x m q none. ap (λ (y : Call). is_joining y.purpose) (sym q.call) ∙ none) (own_courses i f.machine) (calls_of (trace_of f) f.session) r.known.pairs
    (none_joining w i f r.known is)) r.own r.joins)

pub has_job : (w : World) (i : SessionId) (f : Found) (n : ℕ) (step : JoinStep) (c : Course) → IsReading w i f n step c → (j : ℕ) × (f.session.job ≡ Some j)
has_job w i f n step c r = has_job_by w i f n step c r f.session.job refl

pub job_is : (w : World) (i : SessionId) (f : Found) (n : ℕ) (step : JoinStep) (c : Course) → IsReading w i f n step c → is_none f.session.job ≡ false
job_is w i f n step c r = ap (λ o. is_none o) (has_job w i f n step c r).1

-- ---- it has written nothing but its claim

-- Where it hasn't verified it writes no delta record but its claim.
unwritten : (p : Program) (h : Header) (xs : List Happening) → LawfulRun p h xs → (i : SessionId) (f : Found) → session_of_world (world_at p h xs) i ≡ Some f
    → (j : ℕ) → f.session.job ≡ Some j → verifying_sample (world_at p h xs) i f ≡ None → (c : Course) → Contains (own_courses i f.machine) c → (d : DeltaRec)
    → record_of c.call.op ≡ Some (DeltaIs d) → is_join_call ClaimWrite c.call.purpose ≡ false → ⊥
unwritten p h xs run i f at j job none c own d writes apart =
    elim (renewals_have_verified p h xs run i f c at own d writes apart).verified as (λ z. ⊥) [
      | inl given ↦ none_some j (sym given ∙ job)
      | inr v ↦ none_some v.0 (sym none ∙ v.1)
    ]

frees_by : (st : Setting) (t : Trace) (s : Session) (n : Submitted) (p : Purpose) → LawfulDeltaCall st t s n p → is_free_purpose p ≡ true
    → (e : DeltaRec) × (delta_written n ≡ Some e) × (is_join_call ClaimWrite p ≡ false)
frees_by st t s n (Leaving j) law is = (_, law.written, refl)
frees_by st t s n (Joining j step) law is = absurd (false_is_true is)
frees_by st t s n p law is = absurd (false_is_true is)

pub no_free : (p : Program) (h : Header) (xs : List Happening) → LawfulRun p h xs → (i : SessionId) (f : Found) → session_of_world (world_at p h xs) i ≡ Some f
    → (j : ℕ) → f.session.job ≡ Some j → verifying_sample (world_at p h xs) i f ≡ None → free_landed i f ≡ false
no_free p h xs run i f at j job none =
    ap (λ o. some_is (λ c. list_any (λ d. is_course_of i d && d.call.number == c.call.number && is_landed d.fate) f.machine.calls) o)
    (by (free_write (calls_of (trace_of f) f.session)) refl) where
      by : (o : Option Submitted) → free_write (calls_of (trace_of f) f.session) ≡ o → o ≡ None
      by None is = refl
      by (Some m) is =
          let w : World = world_at p h xs in
          let q = known grounds p h xs run i f at in
          let x = find_pairs (IsCourseOf f.daemon) (λ (c : Course). is_free_purpose c.call.purpose) (λ (n : Submitted). is_free_purpose n.call.purpose)
          (λ c n r. ap (λ (y : Call). is_free_purpose y.purpose) r.call) (own_courses i f.machine) (calls_of (trace_of f) f.session) q.pairs m is in
          let there = find_passes (λ (c : Course). is_free_purpose c.call.purpose) (own_courses i f.machine) x.0 x.1 in
          let o = own_call w i f x.0 q there.there in
          let same = o.placed.pairs.this.call in
          let law = frees_by f.daemon.setting (front_at o.placed.made) f.session
          (new_call (length o.placed.made.past) o.placed.made.entry.reading o.placed.pairs.here.call) o.placed.pairs.here.call.purpose o.lawful.law
          (ap (λ (y : Call). is_free_purpose y.purpose) same ∙ there.test) in
          absurd (unwritten p h xs run i f at j job none x.0 there.there law.0
          (record_is o.placed.pairs.here.call x.0.call.op law.0 (ap (λ (y : Call). y.op) same) law.1)
          (ap (λ (y : Call). is_join_call ClaimWrite y.purpose) (sym same) ∙ law.2))

-- ---- it hasn't joined

pub joins_at : (st : Setting) (es : Trace) (s : Session) → Orderly st es → IsSessionOf st es s → (j k : ℕ) → s.job ≡ Some j → joined_after es s ≡ Some k → LawfulJoin es s k
joins_at st [] s h its j k job joined = absurd (never_joined s j k job joined)
joins_at st (e ∷ past) s h its j k job joined = h.delta.0.joins s (got_inside (sessions st (e ∷ past)) s.number s its) j k job joined

pub not_claim : (p : Purpose) → is_join_call FirstRenewal p ≡ true → is_join_call ClaimWrite p ≡ false
not_claim p is = let j = joining_is FirstRenewal p is in ap (λ x. is_join_call ClaimWrite x) j.joining

pub unjoined : (p : Program) (h : Header) (xs : List Happening) → LawfulRun p h xs → (i : SessionId) (f : Found) → session_of_world (world_at p h xs) i ≡ Some f
    → (j : ℕ) → f.session.job ≡ Some j → verifying_sample (world_at p h xs) i f ≡ None → joined_after (trace_of f) f.session ≡ None
unjoined p h xs run i f at j job none = by (joined_after (trace_of f) f.session) refl where
  by : (o : Option ℕ) → joined_after (trace_of f) f.session ≡ o → o ≡ None
  by None is = refl
  by (Some k) is =
      let w : World = world_at p h xs in
      let q = known grounds p h xs run i f at in
      let l = joins_at f.daemon.setting (trace_of f) f.session q.lawful q.its j k job is in
      let x = join_pairs w i f q FirstRenewal l.renewal l.first in
      let there = join_is i FirstRenewal f.machine x.0 x.1 in
      let inside = find_passes (λ (m : Submitted). is_join_call FirstRenewal m.call.purpose) (calls_of (trace_of f) f.session) l.renewal l.first in
      let e = every_has _ (calls_of (trace_of f) f.session) l.renewal (all_renew f.daemon.setting (trace_of f) f.session q.lawful q.its) inside.there inside.test in
      absurd (unwritten p h xs run i f at j job none x.0 there.own e.0
      (record_is l.renewal.call x.0.call.op e.0 (ap (λ (y : Call). y.op) x.2.call) e.1) (not_claim x.0.call.purpose there.joins))

-- ---- so it isn't over

over_by : (free : Bool) (joined removed refused : Option ℕ) (reset flies : Bool) → free ≡ false → joined ≡ None → refused ≡ None → reset ≡ false
    → (free || (is_some (elim joined as (λ z. Option ℕ) [ Some k ↦ removed | None ↦ refused ]) || reset) && not flies) ≡ false
over_by true joined removed refused reset flies a b c d = a
over_by false (Some k) removed refused reset flies a b c d = absurd (none_some k (sym b))
over_by false None removed (Some k) reset flies a b c d = absurd (none_some k (sym c))
over_by false None removed None true flies a b c d = absurd (true_is_false d)
over_by false None removed None false flies a b c d = refl

pub not_over : (p : Program) (h : Header) (xs : List Happening) → LawfulRun p h xs → (i : SessionId) (f : Found) → session_of_world (world_at p h xs) i ≡ Some f
    → (n : ℕ) (step : JoinStep) (c : Course) → IsReading (world_at p h xs) i f n step c → verifying_sample (world_at p h xs) i f ≡ None
    → refused_after (trace_of f) f.session ≡ None → is_over i f ≡ false
not_over p h xs run i f at n step c r none refused =
    let job = has_job (world_at p h xs) i f n step c r in
    over_by (free_landed i f) (joined_after (trace_of f) f.session) (removed_after (trace_of f) f.session) (refused_after (trace_of f) f.session) (was_reset f)
    (has_write_in_flight i f.machine) (no_free p h xs run i f at job.0 job.1 none) (unjoined p h xs run i f at job.0 job.1 none) refused
    (not_reset p h xs run i f n step c r)
