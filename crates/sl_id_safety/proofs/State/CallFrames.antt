-- A change of one call in flight changes the session whose call it is, and no other; and one more landing changes what a session takes
-- from its sector only where it is the session's own.
use Rattle.sl_id_safety.proofs.State.FindingFrames.{found_moves, found_on, found_then, is_found, moved, own_apart, own_mapped, same_moved, session_on}
use Rattle.sl_id_safety.proofs.State.Frames.{SameThere}
use Rattle.sl_id_safety.proofs.State.LandingFrames.{Grows, number_there}
use Rattle.sl_id_safety.proofs.State.SectorFrames.{SameIf, ThereIf, same_still, seqs_same}
use Rattle.sl_id_safety.specs.State.IdStates.{deciding_sample, generation_above, generation_by, index_of, is_left_by, join_course, name_of, own_courses, same_name, seq_left, writer_of}
use Rattle.sl_run.specs.EventChanges.{change_call}
use Rattle.sl_run.specs.Safety.{Found, SessionId, is_course_of, session_of_world}
use Rattle.sl_run.specs.Worlds.{Course, Landing, Machine, Sampling, World, flight_of, history_of, machine_at}
use Rattle.sl_run_law.proofs.CourseLists.{changed_if}
use Rattle.sl_run_law.specs.FatesStay.{AreDistinct}
use Rattle.sl_run_law.proofs.Sample.LandingNumbers.{number_stays}
use Rattle.sl_run_law.specs.Sample.Samples.{numbered_landing}
use Rattle.sl_trace.specs.Sessions.{given_number}
use Rattle.sl_trace.specs.declared.effects.JoinStep.TheVariants.{ClaimWrite}
use Rattle.sl_words.proofs.CaseLaws.{is_false, true_is_false}
use Rattle.sl_words.proofs.OrderLaws.{same_or_apart}
use Rattle.sl_words.proofs.WordLaws.{and_true}
use Rattle.sl_words.specs.Words.{greatest, some_is}
use Rattle.std.proofs.Common.{ap, arith, inl, inr, refl, subst, sym, ◌∙◌}
use Rattle.std.proofs.lemmas.Bool.{eqb-true}
use Rattle.std.specs.Option.{option_map_or}
use Rattle.std.specs.Prelude.{Bool, List, None, Option, Some, false, length, map, option_map, option_and_then, true, [], ℕ, ◌&&◌, ◌++◌, ◌<◌, ◌==◌, ◌∷◌, ◌≡◌}

-- ---- one more landing

-- A landing that isn't this session's.
pub record IsOther (v : World) (i : SessionId) (calls : Option Course) (l : Landing) : Type 0 where
  -- nobody of this name wrote it
  pub writer : some_is (same_name (name_of i)) (writer_of v l) ≡ false
  -- and its claim didn't
  pub claim : (c : Course) → calls ≡ Some c → is_left_by (i.machine, c.call.number) l ≡ false

seq_by : (v : World) (i : SessionId) (l : Landing) (b : Bool) (n : ℕ) → b ≡ false → elim b as (λ z. ℕ) [ false ↦ 0 | true ↦ n ] ≡ 0
seq_by v i l true n h = absurd (true_is_false h)
seq_by v i l false n h = refl

with_none : (g n : ℕ) (ns : List ℕ) → n ≡ 0 → greatest (g ∷ n ∷ ns) ≡ greatest (g ∷ ns)
with_none g n ns h = omega (arith, h)

pub index_other : (p : ℕ × ℕ) (l : Landing) (ls : List Landing) (b : Bool) → b ≡ false
    → elim b as (λ z. ℕ) [ true ↦ length ls | false ↦ index_of p ls ] ≡ index_of p ls
index_other p l ls true h = absurd (true_is_false h)
index_other p l ls false h = refl

claim_by : (v : World) (i : SessionId) (l : Landing) (ls : List Landing) (o : Option Course) → IsOther v i o l
    → option_map_or (λ c. index_of (i.machine, c.call.number) (l ∷ ls)) o 0 ≡ option_map_or (λ c. index_of (i.machine, c.call.number) ls) o 0
claim_by v i l ls None other = refl
claim_by v i l ls (Some c) other = index_other (i.machine, c.call.number) l ls (is_left_by (i.machine, c.call.number) l) (other.claim c refl)

-- The landing that a session decided on is there.
abbrev pub IsThere : List Landing → Option Sampling → Type 0
IsThere ls None = Unit {0}
IsThere ls (Some x) = x.index < length ls

pub generation_grows : (w v : World) (path : List ℕ) (offset : ℕ) (newer : List Landing) (o : Option Sampling) → v.layout ≡ w.layout
    → history_of v path offset ≡ newer ++ history_of w path offset → IsThere (history_of w path offset) o
    → generation_by v path offset o ≡ generation_by w path offset o
generation_grows w v path offset newer None layout history there = refl
generation_grows w v path offset newer (Some x) layout history there =
    let l = number_there (history_of w path offset) x.index there in
    ap (λ g. generation_above g (numbered_landing (history_of v path offset) x.index)) layout
    ∙ ap (λ ls. generation_above w.layout (numbered_landing ls x.index)) history
    ∙ ap (generation_above w.layout) (number_stays newer (history_of w path offset) x.index l.0 l.1 ∙ sym l.1)

-- A landing of another changes nothing of what a session takes from its sector.
pub there_grows : (w v : World) (path : List ℕ) (offset : ℕ) (l : Landing) (i : SessionId) (f : Found) → Grows w v path offset (l ∷ [])
    → IsOther v i (join_course i ClaimWrite f.machine) l → IsThere (history_of w path offset) (deciding_sample i f) → SameThere w v path offset i f
there_grows w v path offset l i f g other there =
    record {
      layout = g.layout;
      claim = ap (λ ls. option_map_or (λ c. index_of (i.machine, c.call.number) ls) (join_course i ClaimWrite f.machine) 0) g.history
          ∙ claim_by v i l (history_of w path offset) (join_course i ClaimWrite f.machine) other;
      generation = generation_grows w v path offset (l ∷ []) (deciding_sample i f) g.layout g.history there;
      seq = ap (λ ls. greatest (given_number f.session ∷ map (seq_left v (name_of i)) ls)) g.history
          ∙ with_none (given_number f.session) (seq_left v (name_of i) l) (map (seq_left v (name_of i)) (history_of w path offset))
          (seq_by v i l (some_is (same_name (name_of i)) (writer_of v l)) _ other.writer)
          ∙ ap (λ ns. greatest (given_number f.session ∷ ns)) (seqs_same w v (name_of i) (history_of w path offset) g.layout g.writers);
    }

-- ---- one call

-- A world in which a call in flight of machine m has changed.
pub record ChangesCall (w v : World) (m n : ℕ) (turn : Course → Course) : Type 0 where
  pub machine : Machine
  pub course : Course
  pub machines : length v.machines ≡ length w.machines
  pub moment : v.moment ≡ w.moment
  pub at : machine_at w m ≡ Some machine
  pub flight : flight_of machine n ≡ Some course
  pub later : machine_at v m ≡ Some (change_call n turn machine)
  pub elsewhere : (k : ℕ) → (k ≡ m → ⊥) → machine_at v k ≡ machine_at w k
  pub keeps : (c : Course) → ((turn c).daemon ≡ c.daemon) × ((turn c).call ≡ c.call)
  pub distinct : AreDistinct machine.calls

-- The session whose call it is.
abbrev pub caller : ℕ → Course → SessionId
caller m c = record { machine = m; daemon = c.daemon; number = c.call.session }

id_by : (i : SessionId) (m d n : ℕ) → i.machine ≡ m → d ≡ i.daemon → n ≡ i.number → i ≡ record { machine = m; daemon = d; number = n }
id_by i m d n a b c =
    ap (λ x. let y : SessionId = record { machine = x; daemon = i.daemon; number = i.number } in y) a
    ∙ ap (λ x. let y : SessionId = record { machine = m; daemon = x; number = i.number } in y) (sym b)
    ∙ ap (λ x. let y : SessionId = record { machine = m; daemon = d; number = x } in y) (sym c)

-- A call of another session of the machine isn't this one's.
pub not_its_call : (i : SessionId) (m : ℕ) (c : Course) → i.machine ≡ m → (i ≡ caller m c → ⊥) → is_course_of i c ≡ false
not_its_call i m c same other =
    is_false (is_course_of i c) (λ t. let p = and_true (c.daemon == i.daemon) (c.call.session == i.number) t in
    other (id_by i m c.daemon c.call.session same (eqb-true c.daemon i.daemon p.0) (eqb-true c.call.session i.number p.1)))

its_call : (i : SessionId) (turn : Course → Course) (c : Course) → ((turn c).daemon ≡ c.daemon) × ((turn c).call ≡ c.call)
    → is_course_of i (turn c) ≡ is_course_of i c
its_call i turn c k =
    ap (λ d. d == i.daemon && (turn c).call.session == i.number) k.0 ∙ ap (λ x. c.daemon == i.daemon && x.session == i.number) k.1

found_same : (w v : World) (path : List ℕ) (offset : ℕ) (i : SessionId) (n : ℕ) (a b : Machine) (o p : Option Found) → session_on n i a ≡ o
    → p ≡ option_map (moved b) o → own_courses i b ≡ own_courses i a → b.daemon ≡ a.daemon → b.resets ≡ a.resets
    → ((f : Found) → o ≡ Some f → ThereIf w v path offset i f) → SameIf w v path offset i o p
found_same w v path offset i n a b None p at is own daemon resets there = subst (λ q. SameIf w v path offset i None q) (sym is) tt
found_same w v path offset i n a b (Some f) p at is own daemon resets there =
    subst (λ q. SameIf w v path offset i (Some f) q) (sym is)
    (same_moved n i a b f (is_found n i a f at) own (ap (λ o. some_is (λ d. d.number == i.daemon) o) daemon) resets, there f refl)

on_same : (w v : World) (path : List ℕ) (offset : ℕ) (i : SessionId) (o p : Option Found) → p ≡ o → ((f : Found) → o ≡ Some f → ThereIf w v path offset i f)
    → SameIf w v path offset i o p
on_same w v path offset i None p is there = subst (λ q. SameIf w v path offset i None q) (sym is) tt
on_same w v path offset i (Some f) p is there = subst (λ q. SameIf w v path offset i (Some f) q) (sym is) (same_still i f, there f refl)

-- On another machine each session is found as before.
pub elsewhere_same : (w v : World) (path : List ℕ) (offset : ℕ) (i : SessionId) → v.moment ≡ w.moment → machine_at v i.machine ≡ machine_at w i.machine
    → ((f : Found) → session_of_world w i ≡ Some f → ThereIf w v path offset i f) → SameIf w v path offset i (session_of_world w i) (session_of_world v i)
elsewhere_same w v path offset i moment same there =
    on_same w v path offset i (session_of_world w i) (session_of_world v i) (ap (λ n. option_and_then (session_on n i) (machine_at v i.machine)) moment ∙ ap (λ o. option_and_then (session_on w.moment i) o) same) there

on_machine_same : (w v : World) (path : List ℕ) (offset m n : ℕ) (turn : Course → Course) (i : SessionId) (k : ChangesCall w v m n turn) → i.machine ≡ m
    → (i ≡ caller m k.course → ⊥) → ((f : Found) → session_of_world w i ≡ Some f → ThereIf w v path offset i f)
    → SameIf w v path offset i (session_of_world w i) (session_of_world v i)
on_machine_same w v path offset m n turn i k same other there =
    let a : Machine = k.machine in
    let b : Machine = change_call n turn a in
    let own : own_courses i b ≡ own_courses i a =
    own_apart i a n k.course turn k.distinct k.flight (not_its_call i m k.course same other) (λ c. its_call i turn c (k.keeps c)) in
    subst (λ o. SameIf w v path offset i o (session_of_world v i)) (sym (found_on w i a (ap (machine_at w) same ∙ k.at)))
    (subst (λ p. SameIf w v path offset i (session_on w.moment i a) p) (sym (found_then w v i b k.moment (ap (machine_at v) same ∙ k.later)))
    (found_same w v path offset i w.moment a b (session_on w.moment i a) (session_on w.moment i b) refl (found_moves w.moment i a b refl) own refl refl
    (λ f on. there f (found_on w i a (ap (machine_at w) same ∙ k.at) ∙ on))))

-- Each session but the caller is found as before.
pub others_same : (w v : World) (path : List ℕ) (offset m n : ℕ) (turn : Course → Course) (i : SessionId) (k : ChangesCall w v m n turn)
    → (i ≡ caller m k.course → ⊥) → ((f : Found) → session_of_world w i ≡ Some f → ThereIf w v path offset i f)
    → SameIf w v path offset i (session_of_world w i) (session_of_world v i)
others_same w v path offset m n turn i k other there =
    elim (same_or_apart i.machine m) as (λ z. SameIf w v path offset i (session_of_world w i) (session_of_world v i)) [
      | inl same ↦ on_machine_same w v path offset m n turn i k same other there
      | inr apart ↦ elsewhere_same w v path offset i k.moment (k.elsewhere i.machine apart) there
    ]

its_changed : (i : SessionId) (n : ℕ) (turn : Course → Course) (c : Course) (t : Bool) → ((turn c).daemon ≡ c.daemon) × ((turn c).call ≡ c.call)
    → is_course_of i (changed_if t turn c) ≡ is_course_of i c
its_changed i n turn c true k = its_call i turn c k
its_changed i n turn c false k = refl

-- The caller is found where it was ..
pub caller_found : (w v : World) (m n : ℕ) (turn : Course → Course) (k : ChangesCall w v m n turn) (i : SessionId) (f : Found) → i.machine ≡ m
    → session_of_world w i ≡ Some f → (f.machine ≡ k.machine) × (session_of_world v i ≡ Some (moved (change_call n turn k.machine) f))
caller_found w v m n turn k i f same h =
    let a : Machine = k.machine in
    let on : session_on w.moment i a ≡ Some f = sym (found_on w i a (ap (machine_at w) same ∙ k.at)) ∙ h in (
      (is_found w.moment i a f on).machine,
      found_then w v i (change_call n turn a) k.moment (ap (machine_at v) same ∙ k.later) ∙ found_moves w.moment i a (change_call n turn a) refl
          ∙ ap (option_map (moved (change_call n turn a))) on,
    )

-- .. and its calls are those before, the one changed.
pub caller_calls : (w v : World) (m n : ℕ) (turn : Course → Course) (k : ChangesCall w v m n turn) (i : SessionId)
    → own_courses i (change_call n turn k.machine) ≡ map (λ c. changed_if (c.call.number == n) turn c) (own_courses i k.machine)
caller_calls w v m n turn k i =
    own_mapped i (λ c. changed_if (c.call.number == n) turn c) k.machine.calls (λ c. its_changed i n turn c (c.call.number == n) (k.keeps c))
