-- Functions that are changed at one key, and functions that a list of rows gives.
use Rattle.std.proofs.Common.{Bool, List, cond, false, refl, subst, sym, true, [], ℕ, ◌==◌, ◌||◌, ◌∷◌, ◌≡◌}
use Rattle.std.proofs.lemmas.Bool.{eqb-true}
use Rattle.sl_words.proofs.WordLaws.{and_true}
use Rattle.sl_words.specs.Tables.{Row, has_row}
use Rattle.std.specs.List.{list_all}

-- The function with another value at one key, by a test that tells whether two keys are one.
abbrev pub put : {K X : Type 0} → (K → K → Bool) → (K → X) → K → X → K → X
put same f key x k = cond (same k key) x (f k)

-- At the key it has that value.
pub put-same : {K X : Type 0} → (same : K → K → Bool) (f : K → X) (key : K) (x : X) → same key key ≡ true → put same f key x key ≡ x
put-same same f key x here = rw here refl

-- At another it has the old one.
pub put-other : {K X : Type 0} → (same : K → K → Bool) (f : K → X) (key : K) (x : X) (k : K) → (same k key ≡ true → k ≡ key) → (k ≡ key → ⊥) → put same f key x k ≡ f k
put-other same f key x k tells apart =
    elim (same k key) as (λ t. (same k key) ≡ t → cond t x (f k) ≡ f k) [ true ↦ λ t. absurd (apart (tells t)) | false ↦ λ t. refl ] refl

-- What is said of each row's number.
abbrev pub EachRow : {A : Type 0} → (ℕ → Type 0) → List (Row A) → Type 0
EachRow P [] = Unit {0}
EachRow P (r ∷ rs) = P r.step × EachRow P rs

-- What holds of each row's number holds wherever there is a row.
pub each_row : {A : Type 0} → (P : ℕ → Type 0) → (rs : List (Row A)) → EachRow P rs → (e : ℕ) → has_row rs e ≡ true → P e
each_row P [] all e h = absurd cc
each_row P (r ∷ rs) all e h =
    elim (e == r.step) as (λ t. (e == r.step) ≡ t → (t || has_row rs e) ≡ true → P e) [
      | true ↦ λ t is. subst P (sym (eqb-true e r.step t)) all.0
      | false ↦ λ t is. each_row P rs all.1 e is
    ] refl h

-- A test that each row's number passes is passed wherever there is a row; on rows that are written out it computes.
pub each_tested : {A : Type 0} → (p : ℕ → Bool) → (rs : List (Row A)) → list_all (λ r. p r.step) rs ≡ true → (e : ℕ) → has_row rs e ≡ true → p e ≡ true
each_tested p [] all e h = absurd cc
each_tested p (r ∷ rs) all e h =
    let both = and_true (p r.step) (list_all (λ q. p q.step) rs) all in
    elim (e == r.step) as (λ t. (e == r.step) ≡ t → (t || has_row rs e) ≡ true → p e ≡ true) [
      | true ↦ λ t is. subst (λ (n : ℕ). p n ≡ true) (sym (eqb-true e r.step t)) both.0
      | false ↦ λ t is. each_tested p rs both.1 e is
    ] refl h
