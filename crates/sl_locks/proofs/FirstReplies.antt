-- The first element that passes, taken out of its list.
use Rattle.sl_words.proofs.CaseLaws.{none_some, some_value}
use Rattle.std.proofs.Common.{Bool, List, None, Some, [], ap, arith, cond, false, not, refl, subst, suc, sym, take, true, ℕ, ◌++◌, ◌+◌, ◌≡◌, ◌∙◌, ◌∷◌}
use Rattle.std.proofs.lemmas.Iterator.Adapters.{position_from-zero}
use Rattle.std.proofs.lemmas.Option.{get_or_from_slice_get}
use Rattle.std.specs.List.{find, position, position_from}
use Rattle.std.specs.Prelude.{drop, filter, slice_get, slice_index_or}

-- It is found there, and without it the same others stay of those that don't pass.
pub record FirstAt {A : Type 0} (p : A → Bool) (xs : List A) (k : ℕ) : Type 0 where
  pub item : A
  pub found : find p xs ≡ Some item
  pub there : slice_get xs k ≡ Some item
  pub rest : filter (λ x. not (p x)) (take k xs ++ drop (k + 1) xs) ≡ filter (λ x. not (p x)) xs

next : (k : ℕ) → suc k + 1 ≡ suc (k + 1)
next k = omega arith

first_step : {A : Type 0} (p : A → Bool) (x : A) (xs : List A) (n i : ℕ) (b : Bool) → p x ≡ b → cond b (Some n) (position_from p (n + 1) xs) ≡ Some i
    → (position_from p (n + 1) xs ≡ Some i → (k : ℕ) × (i ≡ n + 1 + k) × FirstAt p xs k) → (k : ℕ) × (i ≡ n + k) × FirstAt p (x ∷ xs) k
first_step p x xs n i true is h after = (
  0,
  (let e : n ≡ i = some_value n i h in omega (arith, e)),
  record {
    item = x;
    found = ap (λ t. cond t (Some x) (find p xs)) is;
    there = refl;
    rest = ap (λ t. cond (not t) (x ∷ filter (λ y. not (p y)) xs) (filter (λ y. not (p y)) xs)) (sym is);
  },
)
first_step p x xs n i false is h after =
    let r = after h in (
      suc r.0,
      (let e : i ≡ n + 1 + r.0 = r.1 in omega (arith, e)),
      record {
        item = r.2.item;
        found = ap (λ t. cond t (Some x) (find p xs)) is ∙ r.2.found;
        there = r.2.there;
        rest = ap (λ m. filter (λ y. not (p y)) (x ∷ (take r.0 xs ++ drop m (x ∷ xs)))) (next r.0) ∙ ap (λ ys. cond (not (p x)) (x ∷ ys) ys) r.2.rest;
      },
    )

first_after : {A : Type 0} (p : A → Bool) (xs : List A) (n i : ℕ) → position_from p n xs ≡ Some i → (k : ℕ) × (i ≡ n + k) × FirstAt p xs k
first_after p [] n i h = absurd (none_some i h)
first_after p (x ∷ xs) n i h = first_step p x xs n i (p x) refl h (first_after p xs (n + 1) i)

pub first_at : {A : Type 0} (p : A → Bool) (xs : List A) (i : ℕ) → position p xs ≡ Some i → FirstAt p xs i
first_at p xs i h =
    let r = first_after p xs 0 i (sym (position_from-zero p xs) ∙ h) in
    let e : r.0 ≡ i = (let f : i ≡ 0 + r.0 = r.1 in omega (arith, f)) in
    subst (λ k. FirstAt p xs k) e r.2

none_step : {A : Type 0} (p : A → Bool) (x : A) (xs : List A) (n : ℕ) (b : Bool) → p x ≡ b → cond b (Some n) (position_from p (n + 1) xs) ≡ None
    → (position_from p (n + 1) xs ≡ None → find p xs ≡ None) → cond (p x) (Some x) (find p xs) ≡ None
none_step p x xs n true is h after = absurd (none_some n (sym h))
none_step p x xs n false is h after = ap (λ t. cond t (Some x) (find p xs)) is ∙ after h

none_after : {A : Type 0} (p : A → Bool) (xs : List A) (n : ℕ) → position_from p n xs ≡ None → find p xs ≡ None
none_after p [] n h = refl
none_after p (x ∷ xs) n h = none_step p x xs n (p x) refl h (none_after p xs (n + 1))

pub none_found : {A : Type 0} (p : A → Bool) (xs : List A) → position p xs ≡ None → find p xs ≡ None
none_found p xs h = none_after p xs 0 (sym (position_from-zero p xs) ∙ h)

-- What is taken out is what is found.
pub found_out : {A : Type 0} (p : A → Bool) (xs : List A) (i : ℕ) (x : A) → position p xs ≡ Some i → x ≡ slice_index_or xs i x → Some x ≡ find p xs
found_out p xs i x at is =
    let f = first_at p xs i at in
    ap Some (is ∙ get_or_from_slice_get xs i f.item x f.there) ∙ sym f.found

pub rest_out : {A : Type 0} (p : A → Bool) (xs rest : List A) (i : ℕ) → position p xs ≡ Some i → rest ≡ take i xs ++ drop (i + 1) xs
    → filter (λ x. not (p x)) rest ≡ filter (λ x. not (p x)) xs
rest_out p xs rest i at is = ap (filter (λ x. not (p x))) is ∙ (first_at p xs i at).rest
