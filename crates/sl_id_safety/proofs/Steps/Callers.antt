-- The session of a write in flight that lands or is dropped, and all other sessions.
use Rattle.sl_id_safety.proofs.State.PairedLists.{every_from}
use Rattle.sl_run_law.proofs.Landing.CallLists.{one_call as distinct_one}
use Rattle.sl_words.proofs.Lists.{any_of, kept as keeps, kept_inside}
use Rattle.sl_words.proofs.Options.{none_is}
use Rattle.std.proofs.lemmas.Bool.{and_from, eq-eqb, eqb-true}
use Rattle.sl_id_safety.proofs.State.CallFrames.{ChangesCall, IsOther, caller, caller_calls, caller_found, not_its_call, others_same, there_grows}
use Rattle.sl_id_safety.proofs.State.FindingFrames.{find_passes, found_on, moved, on_machine, session_on, session_with}
use Rattle.sl_id_safety.proofs.State.LandingFrames.{Grows}
use Rattle.sl_id_safety.proofs.State.SampleFrames.{deciding_there, join_is}
use Rattle.sl_id_safety.proofs.State.SectorFrames.{SameSector, sector_same, session_same_if}
use Rattle.sl_id_safety.proofs.State.StateFrames.{names_apart}
use Rattle.sl_id_safety.specs.State.Facts.{JoinReadsAreOwn}
use Rattle.sl_id_safety.specs.State.IdStates.{blank, has_begun, is_left_by, is_sector_of, join_course, name_of, own_courses, same_name, session_at, session_named_so, standing_by, standing_of, writer_of}
use Rattle.sl_id_safety.proofs.Steps.Fates.{FliesAt}
use Rattle.sl_id_safety.proofs.Steps.FateChanges.{Turns, begun_turned}
use Rattle.sl_ids.specs.State.{Session as IdSession, SessionId as IdName}
use Rattle.sl_run_law.proofs.Place.TracesOnMachines.{IsPromised, owner_of, traced}
use Rattle.sl_run.specs.EventChanges.{change_call, fated}
use Rattle.sl_run.specs.Runs.{Happening}
use Rattle.sl_run.specs.Safety.{Found, LawfulRun, SessionId, has_write_in_flight, is_course_of, session_of_world, world_at}
use Rattle.sl_run.specs.Worlds.{Course, Daemon, Fate, Landing, Machine, Program, World, is_in_flight, is_of_running, is_open, is_write_course, machine_at, may_land}
use Rattle.sl_run.specs.declared.header.Header.{Header}
use Rattle.sl_run_law.proofs.CourseLists.{changed_if}
use Rattle.sl_run_law.specs.FatesStay.{AreDistinct}
use Rattle.sl_run_law.specs.Sample.Samples.{SamplesAreLandings}
use Rattle.sl_trace.specs.Sessions.{session_numbered}
use Rattle.sl_trace.specs.declared.session.Session.{Session}
use Rattle.sl_trace.specs.declared.effects.Call.{Call}
use Rattle.sl_trace.specs.declared.effects.JoinStep.TheVariants.{ClaimWrite}
use Rattle.sl_words.proofs.CaseLaws.{is_false, not_both, one_value}
use Rattle.sl_words.proofs.WordLaws.{and_true}
use Rattle.sl_words.specs.Words.{some_is}
use Rattle.std.proofs.Common.{ap, refl, subst, sym, ◌∙◌}
use Rattle.std.specs.Prelude.{Bool, Contains, List, None, Some, false, is_none, map, option_map, true, [], ℕ, ◌&&◌, ◌==◌, ◌||◌, ◌∷◌, ◌≡◌}

-- A write in flight has another fate.
pub record Write (w v : World) (m n : ℕ) (fate : Fate) : Type 0 where
  pub changes : ChangesCall w v m n (fated fate)
  pub writes : is_write_course changes.course ≡ true
  pub flies : is_in_flight changes.course.fate ≡ true
  pub ends : is_in_flight fate ≡ false
  pub layout : v.layout ≡ w.layout
  pub moment : v.moment ≡ w.moment

-- Its session.
abbrev pub writer : {w v : World} {m n : ℕ} {fate : Fate} → Write w v m n fate → SessionId
writer {w} {v} {m} {n} {fate} y = caller m y.changes.course

-- The machine after it.
abbrev pub after : {w v : World} {m n : ℕ} {fate : Fate} → Write w v m n fate → Machine
after {w} {v} {m} {n} {fate} y = change_call n (fated fate) y.changes.machine

-- What is known of its session.
pub record Caller (w v : World) (m n : ℕ) (fate : Fate) (y : Write w v m n fate) : Type 0 where
  pub found : Found
  pub at : session_of_world w (writer y) ≡ Some found
  pub machine : found.machine ≡ y.changes.machine
  pub later : session_of_world v (writer y) ≡ Some (moved (after y) found)
  pub turns : Turns (writer y) found (after y) n fate
  pub number : y.changes.course.call.number ≡ n
  pub inside : Contains y.changes.machine.calls y.changes.course
  pub own : Contains (own_courses (writer y) found.machine) y.changes.course
  pub unanswered : y.changes.course.answered ≡ None
  pub flying : FliesAt n (own_courses (writer y) found.machine)
  pub in_flight : has_write_in_flight (writer y) found.machine ≡ true

-- ---- it is there

found_in : (w : World) (i : SessionId) (a : Machine) (d : Daemon) (s : Session) → machine_at w i.machine ≡ Some a → session_with w.moment i a (Some d) ≡ Some (record { machine = a; daemon = d; session = s; now = w.moment })
    → session_on w.moment i a ≡ session_with w.moment i a (Some d) → session_of_world w i ≡ Some (record { machine = a; daemon = d; session = s; now = w.moment })
found_in w i a d s at is same = found_on w i a at ∙ same ∙ is

-- The session of a call is there.
pub writer_found : IsPromised → (p : Program) (h : Header) (now : List Happening) → LawfulRun p h now → (m : ℕ) (a : Machine) (c : Course)
    → machine_at (world_at p h now) m ≡ Some a → Contains a.calls c → (f : Found) × (session_of_world (world_at p h now) (caller m c) ≡ Some f)
writer_found b p h now run m a c at has =
    let w : World = world_at p h now in
    let t = traced b p h now run m a c at has in
    let s = owner_of t.daemon.setting t.daemon.trace t.submitted_as t.lawful t.inside in
    let number : c.call.session ≡ s.0.number = ap (λ (z : Call). z.session) (sym t.is.call) ∙ s.2 in
    let its : session_numbered t.daemon.setting t.daemon.trace c.call.session ≡ Some s.0 = ap (session_numbered t.daemon.setting t.daemon.trace) number ∙ s.1 in
    let i : SessionId = caller m c in
    let f : Found = record { machine = a; daemon = t.daemon; session = s.0; now = w.moment } in (
      f,
      found_on w i a at ∙ ap (session_with w.moment i a) t.numbered
          ∙ ap (option_map (λ (z : Session). let y : Found = record { machine = a; daemon = t.daemon; session = z; now = w.moment } in y)) its,
    )

pub calls_own : (m : ℕ) (c : Course) → is_course_of (caller m c) c ≡ true
calls_own m c = and_from (c.daemon == c.daemon) (c.call.session == c.call.session) (eq-eqb c.daemon c.daemon refl) (eq-eqb c.call.session c.call.session refl)

one_call : (a : Machine) (c x : Course) (n : ℕ) → AreDistinct a.calls → Contains a.calls c → Contains a.calls x → c.call.number ≡ n → (x.call.number == n) ≡ true → x ≡ c
one_call a c x n distinct has there is same = distinct_one a.calls x c distinct there has (ap (λ k. x.call.number == k) is ∙ same)

turns_by : (w v : World) (m n : ℕ) (fate : Fate) (y : Write w v m n fate) (f : Found) → f.machine ≡ y.changes.machine → Turns (writer y) f (after y) n fate
turns_by w v m n fate y f same =
    record {
      calls = caller_calls w v m n (fated fate) y.changes (writer y)
          ∙ ap (λ a. map (λ c. changed_if (c.call.number == n) (fated fate) c) (own_courses (writer y) a)) (sym same);
      runs = ap (λ a. a.daemon) (sym same);
      resets = ap (λ a. a.resets) (sym same);
    }

pub known_caller : (w v : World) (m n : ℕ) (fate : Fate) (y : Write w v m n fate) (f : Found) → session_of_world w (writer y) ≡ Some f → Caller w v m n fate y
known_caller w v m n fate y f at =
    let a : Machine = y.changes.machine in
    let c : Course = y.changes.course in
    let p = find_passes (λ x. x.call.number == n && is_open a x) a.calls c y.changes.flight in
    let q = and_true (c.call.number == n) (is_open a c) p.test in
    let number = eqb-true c.call.number n q.0 in
    let to = caller_found w v m n (fated fate) y.changes (writer y) f refl at in
    record {
      found = f;
      at = at;
      machine = to.0;
      later = to.1;
      turns = turns_by w v m n fate y f to.0;
      number = number;
      inside = p.there;
      own = subst (λ b. Contains (own_courses (writer y) b) c) (sym to.0) (keeps (is_course_of (writer y)) a.calls c (calls_own m c) p.there);
      unanswered = none_is c.answered (and_true (is_none c.answered) (is_of_running a c || may_land c) q.1).0;
      flying = subst (λ b. FliesAt n (own_courses (writer y) b)) (sym to.0)
          (every_from (λ x. (x.call.number == n) ≡ true → is_in_flight x.fate ≡ true) (own_courses (writer y) a)
          (λ x there same. subst (λ z. is_in_flight z.fate ≡ true)
          (sym (one_call a c x n y.changes.distinct p.there (kept_inside (is_course_of (writer y)) a.calls x there).0 number same)) y.flies));
      in_flight = subst (λ b. has_write_in_flight (writer y) b ≡ true) (sym to.0)
          (any_of (λ x. is_course_of (writer y) x && is_write_course x && is_open a x) a.calls c
          (and_from (is_course_of (writer y) c && is_write_course c) (is_open a c) (and_from (is_course_of (writer y) c) (is_write_course c) (calls_own m c) y.writes) q.1)
          p.there);
    }

pub its_caller : IsPromised → (p : Program) (h : Header) (now : List Happening) → LawfulRun p h now → (v : World) (m n : ℕ) (fate : Fate)
    → (y : Write (world_at p h now) v m n fate) → Caller (world_at p h now) v m n fate y
its_caller b p h now run v m n fate y =
    let w : World = world_at p h now in
    let p1 = find_passes (λ x. x.call.number == n && is_open y.changes.machine x) y.changes.machine.calls y.changes.course y.changes.flight in
    let f = writer_found b p h now run m y.changes.machine y.changes.course y.changes.at p1.there in
    known_caller w v m n fate y f.0 f.1

-- ---- where it stands

-- Whether it counts at this sector.
abbrev pub counts : World → List ℕ → ℕ → SessionId → Found → Bool
counts w path offset i f = is_sector_of w.layout path offset f.session && has_begun i f

abbrev stood : World → List ℕ → ℕ → SessionId → Found → Bool → IdSession
stood w path offset i f b = elim b [ false ↦ blank | true ↦ standing_of w path offset i f ]

counts_still : (w v : World) (m n : ℕ) (fate : Fate) (y : Write w v m n fate) (path : List ℕ) (offset : ℕ) (k : Caller w v m n fate y)
    → counts v path offset (writer y) (moved (after y) k.found) ≡ counts w path offset (writer y) k.found
counts_still w v m n fate y path offset k =
    ap (λ g. is_sector_of g path offset k.found.session && has_begun (writer y) (moved (after y) k.found)) y.layout
    ∙ ap (λ b. is_sector_of w.layout path offset k.found.session && b) (begun_turned (writer y) k.found (after y) n fate k.turns)

pub now_stands : (w v : World) (m n : ℕ) (fate : Fate) (y : Write w v m n fate) (path : List ℕ) (offset : ℕ) (k : Caller w v m n fate y)
    → counts w path offset (writer y) k.found ≡ true → session_at w path offset (name_of (writer y)) ≡ standing_of w path offset (writer y) k.found
now_stands w v m n fate y path offset k is =
    ap (standing_by w path offset (writer y)) k.at ∙ ap (stood w path offset (writer y) k.found) is

pub then_stands : (w v : World) (m n : ℕ) (fate : Fate) (y : Write w v m n fate) (path : List ℕ) (offset : ℕ) (k : Caller w v m n fate y)
    → counts w path offset (writer y) k.found ≡ true → session_at v path offset (name_of (writer y)) ≡ standing_of v path offset (writer y) (moved (after y) k.found)
then_stands w v m n fate y path offset k is =
    ap (standing_by v path offset (writer y)) k.later
    ∙ ap (stood v path offset (writer y) (moved (after y) k.found)) (counts_still w v m n fate y path offset k ∙ is)

pub still_blank : (w v : World) (m n : ℕ) (fate : Fate) (y : Write w v m n fate) (path : List ℕ) (offset : ℕ) (k : Caller w v m n fate y)
    → counts w path offset (writer y) k.found ≡ false → session_at v path offset (name_of (writer y)) ≡ session_at w path offset (name_of (writer y))
still_blank w v m n fate y path offset k is =
    ap (standing_by v path offset (writer y)) k.later
    ∙ ap (stood v path offset (writer y) (moved (after y) k.found)) (counts_still w v m n fate y path offset k ∙ is)
    ∙ sym (ap (standing_by w path offset (writer y)) k.at ∙ ap (stood w path offset (writer y) k.found) is)

-- ---- all others

not_writer : (i : SessionId) (j : IdName) → (j ≡ name_of i → ⊥) → session_named_so j ≡ i → ⊥
not_writer i j other same = other (ap name_of same)

-- Where nothing lands at the sector they stay.
pub others_stay : (w v : World) (m n : ℕ) (fate : Fate) (y : Write w v m n fate) (path : List ℕ) (offset : ℕ) → SameSector w v path offset → (j : IdName)
    → (j ≡ name_of (writer y) → ⊥) → session_at v path offset j ≡ session_at w path offset j
others_stay w v m n fate y path offset s j other =
    session_same_if w v path offset j
    (others_same w v path offset m n (fated fate) (session_named_so j) y.changes (not_writer (writer y) j other)
    (λ f at. record { layout = y.layout; own = λ sector begun. sector_same w v path offset s (session_named_so j) f }))

left_by_other : (w v : World) (m n : ℕ) (fate : Fate) (y : Write w v m n fate) (i : SessionId) (f : Found) (l : Landing) → (i ≡ writer y → ⊥)
    → session_of_world w i ≡ Some f → Contains y.changes.machine.calls y.changes.course → l.writer ≡ Some (m, y.changes.course.call.number)
    → (x : Course) → join_course i ClaimWrite f.machine ≡ Some x → is_left_by (i.machine, x.call.number) l ≡ true → ⊥
left_by_other w v m n fate y i f l other at has named x claim left =
    let a : Machine = y.changes.machine in
    let c : Course = y.changes.course in
    let p = and_true l.whole (some_is (λ q. q.0 == i.machine && q.1 == x.call.number) l.writer) left in
    let q = and_true (m == i.machine) (c.call.number == x.call.number)
    (sym (ap (λ o. some_is (λ z. z.0 == i.machine && z.1 == x.call.number) o) named) ∙ p.1) in
    let on = on_machine w i f at in
    let machine : i.machine ≡ m = sym (eqb-true m i.machine q.0) in
    let same : f.machine ≡ a = on.2.machine ∙ one_value on.0 a (machine_at w m) (ap (machine_at w) (sym machine) ∙ on.1) y.changes.at in
    let j = join_is i ClaimWrite f.machine x claim in
    let one : c ≡ x = distinct_one a.calls c x y.changes.distinct has (subst (λ b. Contains b.calls x) same j.has) q.1 in
    not_both (is_course_of i c) (subst (λ z. is_course_of i z ≡ true) (sym one) j.its) (not_its_call i m c machine other)

is_other : (w v : World) (m n : ℕ) (fate : Fate) (y : Write w v m n fate) (i : SessionId) (f : Found) (l : Landing) → (i ≡ writer y → ⊥)
    → session_of_world w i ≡ Some f → Contains y.changes.machine.calls y.changes.course → l.writer ≡ Some (m, y.changes.course.call.number)
    → writer_of v l ≡ Some (name_of (writer y)) → IsOther v i (join_course i ClaimWrite f.machine) l
is_other w v m n fate y i f l other at has named wrote =
    record {
      writer = ap (some_is (same_name (name_of i))) wrote ∙ names_apart (name_of i) (name_of (writer y)) (λ e. other (ap session_named_so e));
      claim = λ x claim. is_false (is_left_by (i.machine, x.call.number) l) (left_by_other w v m n fate y i f l other at has named x claim);
    }

-- .. and where the write lands there.
pub others_grow : JoinReadsAreOwn → SamplesAreLandings → (p : Program) (h : Header) (now : List Happening) → LawfulRun p h now → (v : World) (m n : ℕ) (fate : Fate)
    → (y : Write (world_at p h now) v m n fate) → Caller (world_at p h now) v m n fate y → (path : List ℕ) (offset : ℕ) (l : Landing)
    → Grows (world_at p h now) v path offset (l ∷ []) → l.writer ≡ Some (m, y.changes.course.call.number) → writer_of v l ≡ Some (name_of (writer y)) → (j : IdName)
    → (j ≡ name_of (writer y) → ⊥) → session_at v path offset j ≡ session_at (world_at p h now) path offset j
others_grow reads samples p h now run v m n fate y k path offset l g named wrote j other =
    let w : World = world_at p h now in
    let i : SessionId = session_named_so j in
    let apart = not_writer (writer y) j other in
    session_same_if w v path offset j
    (others_same w v path offset m n (fated fate) i y.changes apart
    (λ f at. record {
      layout = y.layout;
      own = λ sector begun. there_grows w v path offset l i f g (is_other w v m n fate y i f l apart at k.inside named wrote)
          (deciding_there reads samples p h now run path offset i f at sector);
    }))
