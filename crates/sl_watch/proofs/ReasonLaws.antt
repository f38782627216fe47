-- Evidence says what was seen.
use Rattle.sl_area.specs.AreaSizes.{Sizes, layout_of}
use Rattle.sl_sector.specs.declared.sector.DeltaRec.{DeltaRec}
use Rattle.sl_sector.specs.declared.sector.DeltaState.TheVariants.{Claimed, Free, Live}
use Rattle.sl_sector.specs.declared.sector.DeltaState.{DeltaState}
use Rattle.sl_trace.specs.Sightings.{evidence, is_free_among, is_free_state, is_live_state, is_silent, newest_of, silence, span}
use Rattle.sl_trace.specs.declared.sighting.Run.{Run}
use Rattle.sl_time.specs.Times.{TimingNumbers, dead}
use Rattle.sl_trace.specs.declared.reply.Evidence.TheVariants.{Freed, Newer, Silent}
use Rattle.sl_trace.specs.declared.reply.Evidence.{Evidence}
use Rattle.sl_watch.specs.Reasons.{IsFirstReason, IsStill, SawFree, SawNewer, StoodStill, records_of, run_of}
use Rattle.sl_trace.specs.declared.sighting.Sighting.{Sighting}
use Rattle.sl_words.proofs.CaseLaws.{false_is_true}
use Rattle.sl_words.proofs.WordLaws.{or_true}
use Rattle.sl_words.specs.Words.{choose}
use Rattle.std.proofs.Common.{arith, inl, inr, subst, sym}
use Rattle.std.proofs.Math.Nat.{max-eq_left, max-eq_right}
use Rattle.std.proofs.lemmas.Bool.Decides.{Decides-and, Decides-eqb, Decides-like, Decides-ltb}
use Rattle.std.proofs.lemmas.Bool.{cases_lt, le-leb, leb-true, or_left, or_right}
use Rattle.std.proofs.lemmas.List.Elements.{All-cons, All-nil, All-weaker}
use Rattle.std.specs.Bool.{Decides}
use Rattle.std.specs.List.{All, Any}
use Rattle.std.specs.Option.{IfSome, IsSomeAnd}
use Rattle.std.specs.Prelude.{Bool, IsSome, List, None, Option, Some, false, max, nat_le, nat_lt, refl, suc, true, zero, ℕ, [], ◌&&◌, ◌<◌, ◌==◌, ◌∷◌, ◌≡◌, ◌≤◌, ◌⊎◌, ◌↔◌}

-- ---- lists

pub any_here : {X : Type 0} (P : X → Type 0) (x : X) (xs : List X) → P x → Any P (x ∷ xs)
any_here P x xs p = (0, x, omega arith, refl, p)

pub any_later : {X : Type 0} (P : X → Type 0) (x : X) (xs : List X) → Any P xs → Any P (x ∷ xs)
any_later P x xs (k, y, lt, is, p) = (suc k, y, omega arith, is, p)

any_split : {X : Type 0} (P : X → Type 0) (x : X) (xs : List X) → Any P (x ∷ xs) → P x ⊎ Any P xs
any_split P x xs (zero, y, lt, is, p) = inl (subst P (sym is) p)
any_split P x xs (suc k, y, lt, is, p) = inr (k, y, omega arith, is, p)

any_none : {X : Type 0} (P : X → Type 0) → Any P [] → ⊥
any_none P (k, y, lt, is, p) = omega arith

-- ---- the greatest generation

-- One of the records has it, where it is above a number.
greatest_is_one : (h : ℕ) (ds : List DeltaRec) → h < newest_of ds → Any (λ d. d.generation ≡ newest_of ds) ds
greatest_is_one h [] above = absurd (omega arith)
greatest_is_one h (d ∷ ds) above =
    let n : ℕ = newest_of ds in
    let Q : ℕ → Type 0 = λ m. Any (λ e. e.generation ≡ m) (d ∷ ds) in
    elim (cases_lt n d.generation) [
      | inl less ↦ subst Q (sym (max-eq_left (omega arith))) (any_here (λ e. e.generation ≡ d.generation) d ds refl)
      | inr most ↦ subst Q (sym (max-eq_right most)) (any_later (λ e. e.generation ≡ n) d ds (greatest_is_one h ds (let e : max d.generation n ≡ n = max-eq_right most in omega arith)))
    ]

-- None is above it.
none_is_above : (ds : List DeltaRec) → All (λ d. d.generation ≤ newest_of ds) ds
none_is_above [] = All-nil _
none_is_above (d ∷ ds) =
    All-cons (λ e. e.generation ≤ newest_of (d ∷ ds)) d ds (omega arith)
    (All-weaker (λ e. e.generation ≤ newest_of ds) (λ e. e.generation ≤ newest_of (d ∷ ds)) (λ e le. omega arith) ds (none_is_above ds))

-- ---- the tests

-- A newer generation was seen exactly where the greatest is above it.
some_is_newer : (h : ℕ) (ds : List DeltaRec) → Any (λ d. h < d.generation) ds → h < newest_of ds
some_is_newer h [] any = absurd (any_none _ any)
some_is_newer h (d ∷ ds) any = elim (any_split (λ e. h < e.generation) d ds any) [
  | inl here ↦ omega (arith, here)
  | inr later ↦ omega (arith, some_is_newer h ds later)
]

any_weaker : {X : Type 0} (P Q : X → Type 0) → ((x : X) → P x → Q x) → (xs : List X) → Any P xs → Any Q xs
any_weaker P Q weaker xs (k, y, lt, is, p) = (k, y, lt, is, weaker y p)

newer_is_some : (h : ℕ) (ds : List DeltaRec) → h < newest_of ds → Any (λ d. h < d.generation) ds
newer_is_some h ds above = any_weaker (λ d. d.generation ≡ newest_of ds) (λ d. h < d.generation) (λ d e. omega arith) ds (greatest_is_one h ds above)

free_decides : (s : DeltaState) → Decides (is_free_state s) (s ≡ Free)
free_decides Free = ((λ _. refl), (λ _. refl))
free_decides Claimed = ((λ e. absurd cc), (λ e. absurd cc))
free_decides Live = ((λ e. absurd cc), (λ e. absurd cc))

live_decides : (s : DeltaState) → Decides (is_live_state s) (s ≡ Live)
live_decides Free = ((λ e. absurd cc), (λ e. absurd cc))
live_decides Claimed = ((λ e. absurd cc), (λ e. absurd cc))
live_decides Live = ((λ _. refl), (λ _. refl))

-- This record is generation h's free.
abbrev pub IsFreeOf : ℕ → DeltaRec → Type 0
IsFreeOf h d = (d.generation ≡ h) × (d.state ≡ Free)

free_of_decides : (h : ℕ) (d : DeltaRec) → Decides (d.generation == h && is_free_state d.state) (IsFreeOf h d)
free_of_decides h d = Decides-and (d.generation == h) (is_free_state d.state) (Decides-eqb d.generation h) (free_decides d.state)

-- This generation was seen free exactly where the test says so.
pub free_among_decides : (h : ℕ) (ds : List DeltaRec) → Decides (is_free_among h ds) (Any (IsFreeOf h) ds)
free_among_decides h ds = (seen h ds, found h ds) where
  seen : (h : ℕ) (ds : List DeltaRec) → is_free_among h ds ≡ true → Any (IsFreeOf h) ds
  seen h [] is = absurd cc
  seen h (d ∷ ds) is = elim (or_true _ _ is) [
    | inl here ↦ any_here (IsFreeOf h) d ds ((free_of_decides h d).0 here)
    | inr later ↦ any_later (IsFreeOf h) d ds (seen h ds later)
  ]

  found : (h : ℕ) (ds : List DeltaRec) → Any (IsFreeOf h) ds → is_free_among h ds ≡ true
  found h [] any = absurd (any_none _ any)
  found h (d ∷ ds) any = elim (any_split (IsFreeOf h) d ds any) [
    | inl here ↦ or_left _ _ ((free_of_decides h d).1 here)
    | inr later ↦ or_right _ _ (found h ds later)
  ]

-- The run is silent exactly where it stood still.
still_decides : (tm : TimingNumbers) (h : ℕ) (r : Run) → Decides (is_silent tm h r) (IsStill tm h r)
still_decides tm h r =
    let long : Decides (nat_le (dead tm) (span r)) (dead tm ≤ span r) = (leb-true (dead tm) (span r), le-leb (dead tm) (span r)) in
    let tests : Decides (is_silent tm h r) ((dead tm ≤ span r) × (r.spelled.state ≡ Live) × (r.spelled.generation ≡ h)) =
    Decides-like _ (λ p. (p.0.0, p.0.1, p.1)) (λ p. ((p.0, p.1), p.2))
    (Decides-and _ _ (Decides-and _ _ long (live_decides r.spelled.state)) (Decides-eqb r.spelled.generation h)) in
    Decides-like _ (λ p. (p.1, p.2, p.0)) (λ p. (p.2, p.0, p.1)) tests

-- Silence is named exactly where a run stood still.
pub silence_if : (tm : TimingNumbers) (h : ℕ) (run : Option Run) → IsSome (silence tm h run) ↔ IsSomeAnd run (IsStill tm h)
silence_if tm h None = ((λ e. absurd cc), (λ never. absurd never))
silence_if tm h (Some r) = chosen (is_silent tm h r) (still_decides tm h r) where
  chosen : (b : Bool) → Decides b (IsStill tm h r) → IsSome (choose b (Silent r.since r.latest)) ↔ IsStill tm h r
  chosen true decides = ((λ _. decides.0 refl), (λ _. refl))
  chosen false decides = ((λ e. absurd cc), (λ still. absurd (false_is_true (decides.1 still))))

-- What holds of the silence of a run that stood still holds of the silence that is named.
pub silence_says : (tm : TimingNumbers) (h : ℕ) (run : Option Run) (Q : Evidence → Type 0)
    → ((r : Run) → run ≡ Some r → IsStill tm h r → Q (Silent r.since r.latest)) → IfSome (silence tm h run) Q
silence_says tm h None Q says = tt
silence_says tm h (Some r) Q says = chosen (is_silent tm h r) (λ is. says r refl ((still_decides tm h r).0 is)) where
  chosen : (b : Bool) → (b ≡ true → Q (Silent r.since r.latest)) → IfSome (choose b (Silent r.since r.latest)) Q
  chosen true says = says refl
  chosen false says = tt

-- ---- evidence

-- The first of three reasons, by the tests of the first two.
abbrev pub first_of_three : ℕ → ℕ → Bool → Bool → Option Evidence → Option Evidence
first_of_three n h newer free silent = elim newer [ true ↦ Some (Newer n) | false ↦ elim free [ true ↦ Some (Freed h) | false ↦ silent ] ]

-- A reason is named exactly where one holds.
pub some_reason : (n h : ℕ) (newer free : Bool) (silent : Option Evidence) (A B C : Type 0) → Decides newer A → Decides free B → (IsSome silent ↔ C)
    → IsSome (first_of_three n h newer free silent) ↔ (A ⊎ B ⊎ C)
some_reason n h true free silent A B C a b c = ((λ _. inl (a.0 refl)), (λ _. refl))
some_reason n h false true silent A B C a b c = ((λ _. inr (inl (b.0 refl))), (λ _. refl))
some_reason n h false false silent A B C a b c = (
  (λ is. inr (inr (c.0 is))),
  (λ reasons. elim reasons [
    | inl newer ↦ absurd (false_is_true (a.1 newer))
    | inr others ↦ elim others [ inl free ↦ absurd (false_is_true (b.1 free)) | inr still ↦ c.1 still ]
  ]),
)

-- The reason that is named is the first.
pub named_reason : (n h : ℕ) (newer free : Bool) (silent : Option Evidence) (A B : Type 0) (Q : Evidence → Type 0) → Decides newer A → Decides free B
    → (A → Q (Newer n)) → (B → (A → ⊥) → Q (Freed h)) → ((B → ⊥) → (A → ⊥) → IfSome silent Q)
    → IfSome (first_of_three n h newer free silent) Q
named_reason n h true free silent A B Q a b first second third = first (a.0 refl)
named_reason n h false true silent A B Q a b first second third = second (b.0 refl) (λ newer. false_is_true (a.1 newer))
named_reason n h false false silent A B Q a b first second third = third (λ free. false_is_true (b.1 free)) (λ newer. false_is_true (a.1 newer))

-- A newer generation was seen exactly where the test says so.
pub newer_decides : (h : ℕ) (ds : List DeltaRec) → Decides (nat_lt h (newest_of ds)) (Any (λ d. h < d.generation) ds)
newer_decides h ds = Decides-like _ (newer_is_some h ds) (some_is_newer h ds) (Decides-ltb h (newest_of ds))

-- There is evidence exactly where one of the three was seen.
pub evidence_if : (tm : TimingNumbers) (z : Sizes) (id h : ℕ) (ss : List Sighting)
    → IsSome (evidence tm (layout_of z) id h ss) ↔ (SawNewer z id h ss ⊎ SawFree z id h ss ⊎ StoodStill tm z id h ss)
evidence_if tm z id h ss =
    let ds : List DeltaRec = records_of z id ss in
    some_reason (newest_of ds) h (nat_lt h (newest_of ds)) (is_free_among h ds) (silence tm h (run_of z id ss))
    (SawNewer z id h ss) (SawFree z id h ss) (StoodStill tm z id h ss)
    (newer_decides h ds) (free_among_decides h ds) (silence_if tm h (run_of z id ss))

-- .. and names the first.
pub evidence_names : (tm : TimingNumbers) (z : Sizes) (id h : ℕ) (ss : List Sighting) → IfSome (evidence tm (layout_of z) id h ss) (IsFirstReason tm z id h ss)
evidence_names tm z id h ss =
    let ds : List DeltaRec = records_of z id ss in
    let run : Option Run = run_of z id ss in
    named_reason (newest_of ds) h (nat_lt h (newest_of ds)) (is_free_among h ds) (silence tm h run) (SawNewer z id h ss) (SawFree z id h ss) (IsFirstReason tm z id h ss)
    (newer_decides h ds) (free_among_decides h ds)
    (λ newer. (some_is_newer h ds newer, (greatest_is_one h ds (some_is_newer h ds newer), none_is_above ds)))
    (λ free none. (refl, free, none))
    (λ no_free no_newer. silence_says tm h run (IsFirstReason tm z id h ss) (λ r is still.
    (still_named tm h run r is still, no_free, no_newer))) where
      still_named : (tm : TimingNumbers) (h : ℕ) (run : Option Run) (r : Run) → run ≡ Some r → IsStill tm h r
          → IsSomeAnd run (λ s. (r.since ≡ s.since) × (r.latest ≡ s.latest) × IsStill tm h s)
      still_named tm h run r is still =
          let P : Option Run → Type 0 = λ o. IsSomeAnd o (λ s. (r.since ≡ s.since) × (r.latest ≡ s.latest) × IsStill tm h s) in
          subst P (sym is) (refl, refl, still)
