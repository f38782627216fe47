-- Lists in order: what is put in stands among what stood there.
use Rattle.sl_host_law.proofs.SharedFacts.PlainLists.{all_from, each_of}
use Rattle.sl_words.proofs.Lists.{contains_cases, contains_first, contains_more, contains_none, got_inside, kept_inside}
use Rattle.sl_words.proofs.CaseLaws.{none_some, some_value}
use Rattle.sl_words.specs.Orders.{in_order, put_in}
use Rattle.std.proofs.Common.{ap, inl, inr, refl, subst, suc, sym, zero, ◌∙◌}
use Rattle.std.specs.List.{AllByRecursion}
use Rattle.std.specs.Prelude.{Bool, Contains, List, Some, cond, false, filter, fold, if◌then◌else◌, map, slice_get, true, [], ℕ, ◌∷◌, ◌≡◌, ◌⊎◌}

-- The order of what elements are mapped to.
pub put_mapped : {A B : Type 0} (g : A → B) (before : B → B → Bool) (x : A) (xs : List A) → map g (put_in (λ a b. before (g a) (g b)) x xs) ≡ put_in before (g x) (map g xs)
put_mapped g before x [] = refl
put_mapped g before x (y ∷ ys) = by (before (g x) (g y)) (put_mapped g before x ys) where
  by : (b : Bool) → map g (put_in (λ a c. before (g a) (g c)) x ys) ≡ put_in before (g x) (map g ys)
      → map g (if b then x ∷ y ∷ ys else y ∷ put_in (λ a c. before (g a) (g c)) x ys) ≡ (if b then g x ∷ g y ∷ map g ys else g y ∷ put_in before (g x) (map g ys))
  by true rest = refl
  by false rest = ap (λ zs. g y ∷ zs) rest

pub put_inside : {A : Type 0} (before : A → A → Bool) (x : A) (xs : List A) (d : A) → Contains (put_in before x xs) d → (x ≡ d) ⊎ Contains xs d
put_inside before x [] d there = contains_cases x [] d there
put_inside before x (y ∷ ys) d there = by (λ rest. put_inside before x ys d rest) (before x y) there where
  further : (Contains (put_in before x ys) d → (x ≡ d) ⊎ Contains ys d) → (y ≡ d) ⊎ Contains (put_in before x ys) d → (x ≡ d) ⊎ Contains (y ∷ ys) d
  further deeper (inl is) = inr (subst (λ z. Contains (y ∷ ys) z) is (contains_first y ys))
  further deeper (inr rest) = elim (deeper rest) [ inl is ↦ inl is | inr inside ↦ inr (contains_more y ys d inside) ]

  by : (Contains (put_in before x ys) d → (x ≡ d) ⊎ Contains ys d) → (b : Bool) → Contains (if b then x ∷ y ∷ ys else y ∷ put_in before x ys) d → (x ≡ d) ⊎ Contains (y ∷ ys) d
  by deeper true at = contains_cases x (y ∷ ys) d at
  by deeper false at = further deeper (contains_cases y (put_in before x ys) d at)

pub put_first : {A : Type 0} (before : A → A → Bool) (x : A) (ys : List A) → Contains (put_in before x ys) x
put_first before x [] = contains_first x []
put_first before x (y ∷ ys) = by (before x y) (put_first before x ys) where
  by : (b : Bool) → Contains (put_in before x ys) x → Contains (if b then x ∷ y ∷ ys else y ∷ put_in before x ys) x
  by true rest = contains_first x (y ∷ ys)
  by false rest = contains_more y (put_in before x ys) x rest

pub put_old : {A : Type 0} (before : A → A → Bool) (x : A) (ys : List A) (d : A) → Contains ys d → Contains (put_in before x ys) d
put_old before x [] d there = absurd (contains_none d there)
put_old before x (y ∷ ys) d there = by (λ rest. put_old before x ys d rest) (before x y) (contains_cases y ys d there) where
  by : (Contains ys d → Contains (put_in before x ys) d) → (b : Bool) → (y ≡ d) ⊎ Contains ys d → Contains (if b then x ∷ y ∷ ys else y ∷ put_in before x ys) d
  by deeper true at = contains_more x (y ∷ ys) d there
  by deeper false (inl is) = subst (λ z. Contains (y ∷ put_in before x ys) z) is (contains_first y (put_in before x ys))
  by deeper false (inr rest) = contains_more y (put_in before x ys) d (deeper rest)

ordered_inside_from : {A : Type 0} (before : A → A → Bool) (xs sorted : List A) (d : A) → Contains (fold (λ ys x. put_in before x ys) sorted xs) d → Contains sorted d ⊎ Contains xs d
ordered_inside_from before [] sorted d there = inl there
ordered_inside_from before (x ∷ xs) sorted d there = by (ordered_inside_from before xs (put_in before x sorted) d there) where
  by : Contains (put_in before x sorted) d ⊎ Contains xs d → Contains sorted d ⊎ Contains (x ∷ xs) d
  by (inr rest) = inr (contains_more x xs d rest)
  by (inl at) = elim (put_inside before x sorted d at) [ inl is ↦ inr (subst (λ z. Contains (x ∷ xs) z) is (contains_first x xs)) | inr old ↦ inl old ]

-- What stands in a list in order stood in the list.
pub ordered_inside : {A : Type 0} (before : A → A → Bool) (xs : List A) (d : A) → Contains (in_order before xs) d → Contains xs d
ordered_inside before xs d there = elim (ordered_inside_from before xs [] d there) [ inl none ↦ absurd (contains_none d none) | inr is ↦ is ]

ordered_old : {A : Type 0} (before : A → A → Bool) (xs sorted : List A) (d : A) → Contains sorted d → Contains (fold (λ ys x. put_in before x ys) sorted xs) d
ordered_old before [] sorted d there = there
ordered_old before (x ∷ xs) sorted d there = ordered_old before xs (put_in before x sorted) d (put_old before x sorted d there)

ordered_new : {A : Type 0} (before : A → A → Bool) (xs sorted : List A) (d : A) → Contains xs d → Contains (fold (λ ys x. put_in before x ys) sorted xs) d
ordered_new before [] sorted d there = absurd (contains_none d there)
ordered_new before (x ∷ xs) sorted d there = by (λ rest. ordered_new before xs (put_in before x sorted) d rest) (contains_cases x xs d there) where
  by : (Contains xs d → Contains (fold (λ ys y. put_in before y ys) (put_in before x sorted) xs) d) → (x ≡ d) ⊎ Contains xs d → Contains (fold (λ ys y. put_in before y ys) (put_in before x sorted) xs) d
  by deeper (inl is) = ordered_old before xs (put_in before x sorted) d (subst (λ z. Contains (put_in before x sorted) z) is (put_first before x sorted))
  by deeper (inr rest) = deeper rest

-- And back.
pub inside_ordered : {A : Type 0} (before : A → A → Bool) (xs : List A) (d : A) → Contains xs d → Contains (in_order before xs) d
inside_ordered before xs d there = ordered_new before xs [] d there

-- ---- no number twice

module _ {A : Type 0} (number : A → ℕ) where
  -- No other has its number.
  abbrev pub IsApart : A → List A → Type 0
  IsApart x ys = AllByRecursion (λ y. number x ≡ number y → ⊥) ys

  -- Each has a number of its own.
  abbrev pub AreApart : List A → Type 0
  AreApart [] = Unit {0}
  AreApart (x ∷ xs) = IsApart x xs × AreApart xs

  pub apart_filtered : (p : A → Bool) (xs : List A) → AreApart xs → AreApart (filter p xs)
  apart_filtered p [] apart = tt
  apart_filtered p (x ∷ xs) apart = by (p x) (apart_filtered p xs apart.1) where
    by : (b : Bool) → AreApart (filter p xs) → AreApart (cond b (x ∷ filter p xs) (filter p xs))
    by true rest = (all_from (λ y. number x ≡ number y → ⊥) (filter p xs) (λ y there. each_of (λ z. number x ≡ number z → ⊥) xs y apart.0 (kept_inside p xs y there).0), rest)
    by false rest = rest

  put_apart_from : (before : A → A → Bool) (z x : A) (ys : List A) → (number z ≡ number x → ⊥) → IsApart z ys → IsApart z (put_in before x ys)
  put_apart_from before z x ys other apart =
      all_from (λ y. number z ≡ number y → ⊥) (put_in before x ys) (λ d there. by d (put_inside before x ys d there)) where
        by : (d : A) → (x ≡ d) ⊎ Contains ys d → number z ≡ number d → ⊥
        by d (inl is) = subst (λ (w : A). number z ≡ number w → ⊥) is other
        by d (inr old) = each_of (λ w. number z ≡ number w → ⊥) ys d apart old

  pub put_apart : (before : A → A → Bool) (x : A) (ys : List A) → IsApart x ys → AreApart ys → AreApart (put_in before x ys)
  put_apart before x [] from apart = (tt, tt)
  put_apart before x (y ∷ ys) from apart = by (before x y) (put_apart before x ys from.1 apart.1) where
    by : (b : Bool) → AreApart (put_in before x ys) → AreApart (if b then x ∷ y ∷ ys else y ∷ put_in before x ys)
    by true rest = (from, apart)
    by false rest = (put_apart_from before y x ys (λ same. from.0 (sym same)) apart.0, rest)

  order_apart_from : (before : A → A → Bool) (xs sorted : List A) → AreApart xs → AreApart sorted → ((x : A) → Contains xs x → IsApart x sorted)
      → AreApart (fold (λ ys x. put_in before x ys) sorted xs)
  order_apart_from before [] sorted apart old from = old
  order_apart_from before (x ∷ xs) sorted apart old from =
      order_apart_from before xs (put_in before x sorted) apart.1 (put_apart before x sorted (from x (contains_first x xs)) old)
      (λ z there. put_apart_from before z x sorted (λ same. each_of (λ y. number x ≡ number y → ⊥) xs z apart.0 there (sym same)) (from z (contains_more x xs z there)))

  pub order_apart : (before : A → A → Bool) (xs : List A) → AreApart xs → AreApart (in_order before xs)
  order_apart before xs apart = order_apart_from before xs [] apart tt (λ x there. tt)

  -- Where each has its own number a number stands at one place.
  pub one_place : (xs : List A) (j k : ℕ) (a b : A) → AreApart xs → slice_get xs j ≡ Some a → slice_get xs k ≡ Some b → number a ≡ number b → j ≡ k
  one_place [] j k a b apart at_j at_k same = absurd (none_some a at_j)
  one_place (x ∷ xs) zero zero a b apart at_j at_k same = refl
  one_place (x ∷ xs) zero (suc k) a b apart at_j at_k same =
      absurd (each_of (λ y. number x ≡ number y → ⊥) xs b apart.0 (got_inside xs k b at_k) (ap number (some_value x a at_j) ∙ same))
  one_place (x ∷ xs) (suc j) zero a b apart at_j at_k same =
      absurd (each_of (λ y. number x ≡ number y → ⊥) xs a apart.0 (got_inside xs j a at_j) (ap number (some_value x b at_k) ∙ sym same))
  one_place (x ∷ xs) (suc j) (suc k) a b apart at_j at_k same = ap (λ n. suc n) (one_place xs j k a b apart.1 at_j at_k same)
