-- The landing of a claim that has landed whole: it is the one that the state of an id names, and its bytes are what the claim writes.
use Rattle.sl_run_law.proofs.Front.JoinedLists.{contains_append, contains_left}
use Rattle.sl_id_safety.specs.State.IdStates.{index_of, is_left_by}
use Rattle.sl_run_law.proofs.Landing.CallLists.{one_call}
use Rattle.sl_run_law.proofs.Landing.LandingLaws.{landings_are_written}
use Rattle.sl_run_law.proofs.Landing.LandedRemain.{landed_are_there}
use Rattle.sl_run_law.specs.Landing.Landings.{LeftBy}
use Rattle.sl_area.specs.AreaSizes.{sector_with}
use Rattle.sl_run_law.proofs.Place.FoundInLists.{numbered_inside}
use Rattle.sl_words.proofs.Lists.{contains_cases, contains_none, kept as keeps, kept_inside}
use Rattle.sl_run.specs.EventChanges.{write_bytes}
use Rattle.sl_run.specs.Runs.{Happening}
use Rattle.sl_run.specs.Safety.{LawfulRun, world_at}
use Rattle.sl_run.specs.Worlds.{Course, Landing, Machine, Program, Stamp, World, first_landing, history_of, is_landed, landed_at, machine_at}
use Rattle.sl_run.specs.declared.header.Header.{Header}
use Rattle.sl_run_law.specs.FatesStay.{AreDistinct}
use Rattle.sl_run_law.proofs.Sample.LandingNumbers.{newest_number, number_stays}
use Rattle.sl_run_law.specs.Sample.Samples.{numbered_landing}
use Rattle.sl_sector.specs.declared.sector.Rec.{Rec}
use Rattle.sl_trace.specs.Traces.{same_place}
use Rattle.sl_words.proofs.CaseLaws.{false_is_true, not_both, one_value, some_value}
use Rattle.sl_words.proofs.WordLaws.{and_true}
use Rattle.sl_words.specs.Words.{some_is}
use Rattle.std.proofs.Common.{ap, inl, inr, refl, subst, sym, ◌∙◌}
use Rattle.std.proofs.lemmas.Bool.{and_from, eq-eqb, eqb-true}
use Rattle.std.proofs.lemmas.Slice.Eq.{bytes_eq-Decides}
use Rattle.std.specs.Option.{option_map_or}
use Rattle.std.specs.Prelude.{Bool, Contains, List, None, Option, Some, bytes_eq, false, length, true, [], ℕ, ◌&&◌, ◌==◌, ◌∷◌, ◌≡◌, ◌≤◌}

-- ---- the landing that a call left, by its number

LeftAt : ℕ × ℕ → List Landing → ℕ → Type 0
LeftAt p ls k = (x : Landing) × (numbered_landing ls k ≡ Some x) × (is_left_by p x ≡ true)

index_by : (p : ℕ × ℕ) (l : Landing) (ls : List Landing) (b : Bool) → is_left_by p l ≡ b → (b ≡ false → LeftAt p ls (index_of p ls))
    → LeftAt p (l ∷ ls) (elim b as (λ z. ℕ) [ true ↦ length ls | false ↦ index_of p ls ])
unfolding LeftAt
index_by p l ls true is rest = (l, newest_number l ls (length ls) refl, is)
index_by p l ls false is rest = let r = rest refl in (r.0, number_stays (l ∷ []) ls (index_of p ls) r.0 r.1, r.2)

left_at : (p : ℕ × ℕ) (ls : List Landing) (l : Landing) → Contains ls l → is_left_by p l ≡ true → LeftAt p ls (index_of p ls)
left_at p [] l has is = absurd (contains_none l has)
left_at p (y ∷ ls) l has is =
    index_by p y ls (is_left_by p y) refl
    (λ no. elim (contains_cases y ls l has) as (λ z. LeftAt p ls (index_of p ls)) [
      | inl same ↦ absurd (not_both (is_left_by p y) (ap (is_left_by p) same ∙ is) no)
      | inr more ↦ left_at p ls l more is
    ])

abbrev is_by : ℕ × ℕ → Option (ℕ × ℕ) → Bool
is_by p o = some_is (λ (q : ℕ × ℕ). q.0 == p.0 && q.1 == p.1) o

left_itself : (p : ℕ × ℕ) (l : Landing) → l.whole ≡ true → l.writer ≡ Some p → is_left_by p l ≡ true
left_itself p l whole h =
    and_from l.whole (is_by p l.writer) whole
    (ap (is_by p) h ∙ and_from (p.0 == p.0) (p.1 == p.1) (eq-eqb p.0 p.0 refl) (eq-eqb p.1 p.1 refl))

writer_by : (p : ℕ × ℕ) (o : Option (ℕ × ℕ)) → some_is (λ (q : ℕ × ℕ). q.0 == p.0 && q.1 == p.1) o ≡ true → o ≡ Some p
writer_by p None h = absurd (false_is_true h)
writer_by p (Some q) h =
    let r = and_true (q.0 == p.0) (q.1 == p.1) h in
    ap (λ a. let z : Option (ℕ × ℕ) = Some (a, q.1) in z) (eqb-true q.0 p.0 r.0) ∙ ap (λ b. let z : Option (ℕ × ℕ) = Some (p.0, b) in z) (eqb-true q.1 p.1 r.1)

-- ---- a landing of this call

-- What a landing of a call that has landed is.
pub record IsLandingOf (w : World) (c : Course) (l : Landing) : Type 0 where
  pub place : (c.call.path ≡ l.path) × (c.call.offset ≡ l.offset)
  pub bytes : l.bytes ≡ write_bytes w c.call
  pub after : c.made.moment ≤ l.moment
  pub before : (s : Stamp) → c.answered ≡ Some s → l.moment ≤ s.moment

whole_bytes : (w : World) (l : Landing) (c : Course) (r : Rec) → is_landed c.fate ≡ true → LeftBy w l c r → l.bytes ≡ sector_with w.layout r
whole_bytes w l c r landed (inl whole) = whole.2
whole_bytes w l c r landed (inr torn) = absurd (false_is_true (sym (ap (λ f. is_landed f) torn.1) ∙ landed))

pub landing_of_call : (p : Program) (h : Header) (xs : List Happening) → LawfulRun p h xs → (m : ℕ) (a : Machine) (c : Course) → machine_at (world_at p h xs) m ≡ Some a
    → AreDistinct a.calls → Contains a.calls c → is_landed c.fate ≡ true → (l : Landing) → Contains (world_at p h xs).landings l → l.writer ≡ Some (m, c.call.number)
    → IsLandingOf (world_at p h xs) c l
landing_of_call p h xs run m a c at distinct has landed l there named =
    let w : World = world_at p h xs in
    let k = landings_are_written p h xs run l there in
    let same = some_value (k.machine, k.call) (m, c.call.number) (sym k.named ∙ named) in
    let machine : k.wrote.machine ≡ a =
    one_value k.wrote.machine a (machine_at w m) (ap (machine_at w) (sym (ap (λ q. q.0) same)) ∙ k.wrote.at) at in
    let its : k.wrote.course ≡ c =
    one_call a.calls k.wrote.course c distinct (subst (λ (y : Machine). Contains y.calls k.wrote.course) machine k.wrote.has) has
    (eq-eqb k.wrote.course.call.number c.call.number (k.wrote.number ∙ ap (λ q. q.1) same)) in
    let fate : is_landed k.wrote.course.fate ≡ true = ap (λ (x : Course). is_landed x.fate) its ∙ landed in
    let writes : write_bytes w k.wrote.course.call ≡ sector_with w.layout k.wrote.record_written = ap (λ o. option_map_or (sector_with w.layout) o []) k.wrote.writes in
    subst (λ (x : Course). IsLandingOf w x l) its
    (record {
      place = k.wrote.place;
      bytes = whole_bytes w l k.wrote.course k.wrote.record_written fate k.wrote.left ∙ sym writes;
      after = k.wrote.after.1;
      before = λ s is. (k.wrote.before s is).1;
    })

-- ---- at its place

-- The landing of a call at this place, which the state names.
pub record LandedHere (w : World) (path : List ℕ) (offset m : ℕ) (c : Course) : Type 0 where
  pub landing : Landing
  pub seen : numbered_landing (history_of w path offset) (index_of (m, c.call.number) (history_of w path offset)) ≡ Some landing
  pub its : IsLandingOf w c landing

at_same : (path other : List ℕ) (offset at : ℕ) → path ≡ other → offset ≡ at → same_place path offset other at ≡ true
at_same path other offset at a b = and_from (offset == at) (bytes_eq path other) (eq-eqb offset at b) ((bytes_eq-Decides path other).1 a)

not_first : (w : World) (path : List ℕ) (offset : ℕ) (p : ℕ × ℕ) (x : Landing) → Contains (history_of w path offset) x → is_left_by p x ≡ true → Contains w.landings x
not_first w path offset p x has left =
    elim (contains_append (landed_at w path offset) (first_landing w path offset ∷ []) x has) as (λ z. Contains w.landings x) [
      | inl landed ↦ (kept_inside (λ l. same_place l.path l.offset path offset) w.landings x landed).0
      | inr last ↦ elim (contains_cases (first_landing w path offset) [] x last) as (λ z. Contains w.landings x) [
        | inl same ↦ absurd (false_is_true (ap (is_left_by p) same ∙ left))
        | inr none ↦ absurd (contains_none x none)
      ]
    ]

pub landed_here : (p : Program) (h : Header) (xs : List Happening) → LawfulRun p h xs → (path : List ℕ) (offset m : ℕ) (a : Machine) (c : Course)
    → machine_at (world_at p h xs) m ≡ Some a → AreDistinct a.calls → Contains a.calls c → is_landed c.fate ≡ true → c.call.path ≡ path → c.call.offset ≡ offset
    → LandedHere (world_at p h xs) path offset m c
unfolding LeftAt
landed_here p h xs run path offset m a c at distinct has landed here there =
    let w : World = world_at p h xs in
    let ls : List Landing = history_of w path offset in
    let l = landed_are_there p h xs run m a c at has landed in
    let its = landing_of_call p h xs run m a c at distinct has landed l.0 l.1 l.2 in
    let inside : Contains ls l.0 =
    contains_left (landed_at w path offset) (first_landing w path offset ∷ []) l.0
    (keeps (λ x. same_place x.path x.offset path offset) w.landings l.0 (at_same l.0.path path l.0.offset offset (sym its.place.0 ∙ here) (sym its.place.1 ∙ there)) l.1) in
    let k = left_at (m, c.call.number) ls l.0 inside (left_itself (m, c.call.number) l.0 l.3 l.2) in
    record {
      landing = k.0;
      seen = k.1;
      its = landing_of_call p h xs run m a c at distinct has landed k.0
          (not_first w path offset (m, c.call.number) k.0 (numbered_inside ls (index_of (m, c.call.number) ls) k.0 k.1) k.2)
          (writer_by (m, c.call.number) k.0.writer (and_true k.0.whole (is_by (m, c.call.number) k.0.writer) k.2).1);
    }
