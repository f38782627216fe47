-- What is left of a list behind the place that a loop has reached.
use Rattle.sl_words.proofs.CaseLaws.{false_is_true}
use Rattle.sl_words.specs.Words.{present, some_is}
use Rattle.std.proofs.Common.{ap, arith, refl, suc, sym, zero, ◌∙◌}
use Rattle.std.specs.List.{fold, list_any}
use Rattle.std.specs.Prelude.{Bool, List, None, Option, Some, [], cond, drop, false, find, length, slice_index_or, true, ℕ, ◌+◌, ◌<◌, ◌||◌, ◌∷◌, ◌≡◌, ◌≤◌}

next_is : (n : ℕ) → n + 1 ≡ suc n
next_is n = omega arith

next_left : {A : Type 0} (xs : List A) (i : ℕ) (x : A) → i < length xs → x ≡ slice_index_or xs i x → drop i xs ≡ x ∷ drop (suc i) xs
next_left [] i x lt is = absurd (omega (arith, lt))
next_left (y ∷ ys) zero x lt is = ap (λ z. z ∷ ys) (sym is)
next_left (y ∷ ys) (suc i) x lt is = next_left ys i x (omega (arith, lt)) is

-- An element within is the same whatever stands for those beyond.
pub same_within : {A : Type 0} (xs : List A) (i : ℕ) (d : A) → i < length xs → slice_index_or xs i d ≡ slice_index_or xs i (slice_index_or xs i d)
same_within [] i d lt = absurd (omega (arith, lt))
same_within (x ∷ xs) zero d lt = refl
same_within (x ∷ xs) (suc i) d lt = same_within xs i d (omega (arith, lt))

-- What is left begins with the element that is reached.
pub reached : {A : Type 0} (xs : List A) (i : ℕ) (x : A) → i < length xs → x ≡ slice_index_or xs i x → drop i xs ≡ x ∷ drop (i + 1) xs
reached xs i x lt is = next_left xs i x lt is ∙ ap (λ n. x ∷ drop n xs) (sym (next_is i))

pub none_left : {A : Type 0} (xs : List A) (i : ℕ) → length xs ≤ i → drop i xs ≡ []
none_left [] zero le = refl
none_left [] (suc i) le = refl
none_left (x ∷ xs) zero le = absurd (omega (arith, le))
none_left (x ∷ xs) (suc i) le = none_left xs i (omega (arith, le))

-- ---- what is folded

pub fold_on : {A B : Type 0} (f : B → A → B) (b : B) (xs : List A) (i : ℕ) (x : A) → i < length xs → x ≡ slice_index_or xs i x
    → fold f (f b x) (drop (i + 1) xs) ≡ fold f b (drop i xs)
fold_on f b xs i x lt is = sym (ap (fold f b) (reached xs i x lt is))

pub fold_end : {A B : Type 0} (f : B → A → B) (b : B) (xs : List A) (i : ℕ) → length xs ≤ i → b ≡ fold f b (drop i xs)
fold_end f b xs i le = sym (ap (fold f b) (none_left xs i le))

-- ---- what is found of those that are there

module _ {A : Type 0} (q : A → Bool) where
  off_first : (o : Option A) (os : List (Option A)) → some_is q o ≡ false → find q (present os) ≡ find q (present (o ∷ os))
  off_first None os off = refl
  off_first (Some a) os off = sym (ap (λ b. cond b (Some a) (find q (present os))) off)

  on_first : (o : Option A) (os : List (Option A)) → some_is q o ≡ true → o ≡ find q (present (o ∷ os))
  on_first None os on = absurd (false_is_true on)
  on_first (Some a) os on = sym (ap (λ b. cond b (Some a) (find q (present os))) on)

  pub find_on : (os : List (Option A)) (i : ℕ) (o : Option A) → i < length os → o ≡ slice_index_or os i o → some_is q o ≡ false
      → find q (present (drop (i + 1) os)) ≡ find q (present (drop i os))
  find_on os i o lt is off = off_first o (drop (i + 1) os) off ∙ sym (ap (λ zs. find q (present zs)) (reached os i o lt is))

  pub find_hit : (os : List (Option A)) (i : ℕ) (o : Option A) → i < length os → o ≡ slice_index_or os i o → some_is q o ≡ true → o ≡ find q (present (drop i os))
  find_hit os i o lt is on = on_first o (drop (i + 1) os) on ∙ sym (ap (λ zs. find q (present zs)) (reached os i o lt is))

  pub find_end : (os : List (Option A)) (i : ℕ) → length os ≤ i → None ≡ find q (present (drop i os))
  find_end os i le = sym (ap (λ zs. find q (present zs)) (none_left os i le))

  none_first : (o : Option A) (os : List (Option A)) → some_is q o ≡ false → list_any q (present os) ≡ list_any q (present (o ∷ os))
  none_first None os off = refl
  none_first (Some a) os off = sym (ap (λ b. b || list_any q (present os)) off)

  one_first : (o : Option A) (os : List (Option A)) → some_is q o ≡ true → true ≡ list_any q (present (o ∷ os))
  one_first None os on = absurd (false_is_true on)
  one_first (Some a) os on = sym (ap (λ b. b || list_any q (present os)) on)

  pub any_on : (os : List (Option A)) (i : ℕ) (o : Option A) → i < length os → o ≡ slice_index_or os i o → some_is q o ≡ false
      → list_any q (present (drop (i + 1) os)) ≡ list_any q (present (drop i os))
  any_on os i o lt is off = none_first o (drop (i + 1) os) off ∙ sym (ap (λ zs. list_any q (present zs)) (reached os i o lt is))

  pub any_hit : (os : List (Option A)) (i : ℕ) (o : Option A) → i < length os → o ≡ slice_index_or os i o → some_is q o ≡ true → true ≡ list_any q (present (drop i os))
  any_hit os i o lt is on = one_first o (drop (i + 1) os) on ∙ sym (ap (λ zs. list_any q (present zs)) (reached os i o lt is))

  pub any_end : (os : List (Option A)) (i : ℕ) → length os ≤ i → false ≡ list_any q (present (drop i os))
  any_end os i le = sym (ap (λ zs. list_any q (present zs)) (none_left os i le))
