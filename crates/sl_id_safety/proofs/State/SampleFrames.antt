-- What stands behind a sample that decides or verifies: its call, what it showed, and that the landing is there.
use Rattle.sl_area.specs.AreaLayout.{delta_offset}
use Rattle.sl_id_safety.proofs.State.CallFrames.{IsThere}
use Rattle.sl_id_safety.proofs.State.FindingFrames.{find_passes, on_machine}
use Rattle.sl_id_safety.specs.State.Facts.{JoinReadsAreOwn, ReadsOwn, is_reading_step}
use Rattle.sl_id_safety.specs.State.IdStates.{claim_bytes, comes_before, deciding_sample, is_sector_of, join_course, own_courses, refused_stamp, sample_showing, verifying_sample, watched_bytes}
use Rattle.sl_run_law.proofs.Place.Looks.{same_step}
use Rattle.sl_words.proofs.Lists.{kept_inside}
use Rattle.sl_words.proofs.Numbers.{no_times_more}
use Rattle.sl_run.specs.Runs.{Happening}
use Rattle.sl_run.specs.Safety.{Found, LawfulRun, SessionId, is_course_of, session_of_world, world_at}
use Rattle.sl_run.specs.Worlds.{Course, Machine, Program, Sampling, World, history_of}
use Rattle.sl_run.specs.declared.header.Header.{Header}
use Rattle.sl_run_law.proofs.Sample.LandingNumbers.{number_below}
use Rattle.sl_run_law.specs.Sample.Samples.{IsSampleOf, SamplesAreLandings, sector_place}
use Rattle.sl_trace.specs.Sessions.{is_join_call}
use Rattle.sl_trace.specs.declared.session.Session.{Session}
use Rattle.sl_trace.specs.declared.effects.JoinStep.TheVariants.{DecidingRead, VerifyRead}
use Rattle.sl_trace.specs.declared.effects.JoinStep.{JoinStep}
use Rattle.sl_trace.specs.declared.effects.Purpose.TheVariants.{Joining}
use Rattle.sl_trace.specs.declared.effects.Purpose.{Purpose}
use Rattle.sl_words.proofs.CaseLaws.{none_some, true_is_false}
use Rattle.sl_words.proofs.WordLaws.{and_true, choose_some}
use Rattle.sl_words.specs.Words.{choose, first_of_list, some_is}
use Rattle.std.proofs.Common.{ap, refl, subst, sym, ◌∙◌}
use Rattle.std.proofs.lemmas.Bool.{eqb-true}
use Rattle.std.proofs.lemmas.Slice.Eq.{bytes_eq-Decides}
use Rattle.std.specs.Prelude.{Contains, List, None, Option, Some, bytes_eq, length, option_and_then, true, ℕ, ◌&&◌, ◌<◌, ◌==◌, ◌≡◌}

-- ---- own calls

-- An own call at a step of a joining.
pub record IsJoinCourse (i : SessionId) (step : JoinStep) (a : Machine) (c : Course) : Type 0 where
  pub own : Contains (own_courses i a) c
  pub has : Contains a.calls c
  pub its : is_course_of i c ≡ true
  pub joins : is_join_call step c.call.purpose ≡ true

pub join_is : (i : SessionId) (step : JoinStep) (a : Machine) (c : Course) → join_course i step a ≡ Some c → IsJoinCourse i step a c
join_is i step a c h =
    let p = find_passes (λ x. is_join_call step x.call.purpose) (own_courses i a) c h in
    let k = kept_inside (is_course_of i) a.calls c p.there in
    record { own = p.there; has = k.0; its = k.1; joins = p.test }

-- ---- what a sample showed

-- The call of the sample, before any refusal, and that it showed these bytes.
pub record Showed (f : Found) (bytes : Option (List ℕ)) (c : Course) (x : Sampling) : Type 0 where
  pub sample : first_of_list c.samples ≡ Some x
  pub shows : some_is (λ b. bytes_eq b c.sampled) bytes ≡ true
  pub before : comes_before (refused_stamp f) x ≡ true

showed_by : (f : Found) (bytes : Option (List ℕ)) (c : Course) (x : Sampling) (o : Option Sampling) → first_of_list c.samples ≡ o
    → option_and_then (λ y. choose (some_is (λ b. bytes_eq b c.sampled) bytes && comes_before (refused_stamp f) y) y) o ≡ Some x → Showed f bytes c x
showed_by f bytes c x None is h = absurd (none_some x h)
showed_by f bytes c x (Some y) is h =
    let p = choose_some (some_is (λ b. bytes_eq b c.sampled) bytes && comes_before (refused_stamp f) y) y x h in
    let q = and_true (some_is (λ b. bytes_eq b c.sampled) bytes) (comes_before (refused_stamp f) y) p.0 in
    record {
      sample = is ∙ ap (λ z. Some z) p.1;
      shows = q.0;
      before = subst (λ z. comes_before (refused_stamp f) z ≡ true) p.1 q.1;
    }

pub showed : (f : Found) (bytes : Option (List ℕ)) (c : Course) (x : Sampling) → sample_showing f bytes c ≡ Some x → Showed f bytes c x
showed f bytes c x h = showed_by f bytes c x (first_of_list c.samples) refl h

-- A sample at a step of a joining, with its call.
pub record IsSampled (i : SessionId) (f : Found) (step : JoinStep) (bytes : Option (List ℕ)) (x : Sampling) : Type 0 where
  pub course : Course
  pub at : join_course i step f.machine ≡ Some course
  pub showed : Showed f bytes course x

sampled_by : (i : SessionId) (f : Found) (step : JoinStep) (bytes : Option (List ℕ)) (x : Sampling) (o : Option Course) → join_course i step f.machine ≡ o
    → option_and_then (sample_showing f bytes) o ≡ Some x → IsSampled i f step bytes x
sampled_by i f step bytes x None at h = absurd (none_some x h)
sampled_by i f step bytes x (Some c) at h = record { course = c; at = at; showed = showed f bytes c x h }

pub deciding_is : (i : SessionId) (f : Found) (x : Sampling) → deciding_sample i f ≡ Some x → IsSampled i f DecidingRead (watched_bytes i f) x
deciding_is i f x h = sampled_by i f DecidingRead (watched_bytes i f) x (join_course i DecidingRead f.machine) refl h

pub verifying_is : (w : World) (i : SessionId) (f : Found) (x : Sampling) → verifying_sample w i f ≡ Some x → IsSampled i f VerifyRead (claim_bytes w i f) x
verifying_is w i f x h = sampled_by i f VerifyRead (claim_bytes w i f) x (join_course i VerifyRead f.machine) refl h

-- ---- places

-- Two places of one sector are one.
pub one_sector : (w : World) (s : Session) (path other : List ℕ) (offset at : ℕ) → is_sector_of w.layout path offset s ≡ true
    → is_sector_of w.layout other at s ≡ true → (other ≡ path) × (at ≡ offset)
one_sector w s path other offset at h k =
    let own : ℕ = delta_offset w.layout s.offset s.id in
    let p = and_true (own == offset) (bytes_eq s.path path) h in
    let q = and_true (own == at) (bytes_eq s.path other) k in (
      sym ((bytes_eq-Decides s.path other).0 q.1) ∙ (bytes_eq-Decides s.path path).0 p.1,
      sym (eqb-true own at q.0) ∙ eqb-true own offset p.0,
    )

-- ---- steps of a joining

-- The purpose of a call at this step.
pub record IsJoining (step : JoinStep) (p : Purpose) : Type 0 where
  pub job : ℕ
  pub joining : p ≡ Joining job step

pub joining_is : (step : JoinStep) (p : Purpose) → is_join_call step p ≡ true → IsJoining step p
joining_is step (Joining j at) h = record { job = j; joining = ap (Joining j) (same_step step at h) }
joining_is step p h = absurd (true_is_false (sym h))

-- A read of a joining is of the session's own sector.
pub read_is_own : JoinReadsAreOwn → (p : Program) (h : Header) (xs : List Happening) → LawfulRun p h xs → (i : SessionId) (f : Found) (step : JoinStep) (c : Course)
    → session_of_world (world_at p h xs) i ≡ Some f → is_reading_step step ≡ true → IsJoinCourse i step f.machine c → ReadsOwn (world_at p h xs) f c
read_is_own own p h xs run i f step c at reads j =
    let k = joining_is step c.call.purpose j.joins in
    own p h xs run i f c at j.own k.job step k.joining reads

-- Its sample shows a landing of the history of the session's sector.
pub sample_is : SamplesAreLandings → (p : Program) (h : Header) (xs : List Happening) → LawfulRun p h xs → (i : SessionId) (f : Found) (c : Course) (x : Sampling)
    → session_of_world (world_at p h xs) i ≡ Some f → Contains f.machine.calls c → first_of_list c.samples ≡ Some x → IsSampleOf (world_at p h xs) c 0 x
sample_is samples p h xs run i f c x at has first =
    let on = on_machine (world_at p h xs) i f at in
    samples p h xs run i.machine on.0 c 0 x on.1 (subst (λ a. Contains a.calls c) on.2.machine has) first

seen_there : (w : World) (path other : List ℕ) (offset at : ℕ) (n : ℕ) → other ≡ path → at ≡ offset → n < length (history_of w other at)
    → n < length (history_of w path offset)
seen_there w path other offset at n a b h =
    subst (λ z. n < length (history_of w path z)) b (subst (λ z. n < length (history_of w z at)) a h)

there_by : JoinReadsAreOwn → SamplesAreLandings → (p : Program) (h : Header) (xs : List Happening) → LawfulRun p h xs → (path : List ℕ) (offset : ℕ) (i : SessionId)
    (f : Found) → session_of_world (world_at p h xs) i ≡ Some f → is_sector_of (world_at p h xs).layout path offset f.session ≡ true → (o : Option Sampling)
    → deciding_sample i f ≡ o → IsThere (history_of (world_at p h xs) path offset) o
there_by own samples p h xs run path offset i f at sector None is = tt
there_by own samples p h xs run path offset i f at sector (Some x) is =
    let w : World = world_at p h xs in
    let d = deciding_is i f x is in
    let j : IsJoinCourse i DecidingRead f.machine d.course = join_is i DecidingRead f.machine d.course d.at in
    let r : ReadsOwn w f d.course = read_is_own own p h xs run i f DecidingRead d.course at refl j in
    let s : IsSampleOf w d.course 0 x = sample_is samples p h xs run i f d.course x at j.has d.showed.sample in
    let e = one_sector w f.session path d.course.call.path offset d.course.call.offset sector r.place in
    seen_there w path d.course.call.path offset (sector_place w d.course 0) x.index e.0 (no_times_more d.course.call.offset w.layout.sector ∙ e.1)
    (number_below (history_of w d.course.call.path (sector_place w d.course 0)) x.index s.landing s.seen)

-- The landing on which a session decided is there, at its own sector.
pub deciding_there : JoinReadsAreOwn → SamplesAreLandings → (p : Program) (h : Header) (xs : List Happening) → LawfulRun p h xs → (path : List ℕ) (offset : ℕ)
    (i : SessionId) (f : Found) → session_of_world (world_at p h xs) i ≡ Some f → is_sector_of (world_at p h xs).layout path offset f.session ≡ true
    → IsThere (history_of (world_at p h xs) path offset) (deciding_sample i f)
deciding_there own samples p h xs run path offset i f at sector =
    there_by own samples p h xs run path offset i f at sector (deciding_sample i f) refl
