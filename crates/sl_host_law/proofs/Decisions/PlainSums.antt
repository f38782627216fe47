-- Plain facts of sums, least numbers and numbers in a row.
use Rattle.sl_host_law.proofs.SharedFacts.PlainLists.{all_from, kept_if}
use Rattle.sl_host_law.proofs.SharedFacts.PlainOrders.{AreApart}
use Rattle.sl_words.proofs.Lists.{contains_cases, contains_first, contains_more, contains_none}
use Rattle.sl_words.specs.Orders.{in_order, put_in}
use Rattle.sl_words.specs.Words.{least}
use Rattle.std.proofs.Common.{ap, arith, inl, inr, refl, suc, sym, zero, ◌∙◌}
use Rattle.std.proofs.Math.Nat.{min_comm}
use Rattle.std.proofs.lemmas.List.{append-nil, map-append, reverse-append}
use Rattle.std.proofs.lemmas.List.Elements.{filter-append}
use Rattle.std.proofs.lemmas.List.Sums.{sum_by-cons}
use Rattle.std.specs.List.{AllByRecursion, range_with_len}
use Rattle.std.specs.Prelude.{Bool, Contains, List, None, Option, Some, cond, false, filter, fold, if◌then◌else◌, map, min, reverse, sum_by, true, [], ℕ, ◌++◌, ◌+◌, ◌∷◌, ◌≡◌, ◌≤◌, ◌⊎◌}

-- ---- sums

-- A sum over those that pass, one by one.
sum_if : {A : Type 0} (f : A → ℕ) (q : A → Bool) (x : A) (xs : List A) (b : Bool) → q x ≡ b → sum_by f (filter q (x ∷ xs)) ≡ cond b (f x) 0 + sum_by f (filter q xs)
sum_if f q x xs true is = ap (sum_by f) (kept_if q x xs true is) ∙ sum_by-cons f x (filter q xs)
sum_if f q x xs false is = ap (sum_by f) (kept_if q x xs false is) ∙ (let n : ℕ = sum_by f (filter q xs) in omega arith)

sum_more : {A : Type 0} (f : A → ℕ) (q : A → Bool) (x : A) (xs : List A) → sum_by f (filter q (x ∷ xs)) ≡ cond (q x) (f x) 0 + sum_by f (filter q xs)
sum_more f q x xs = sum_if f q x xs (q x) refl

put_sum : {A : Type 0} (f : A → ℕ) (q : A → Bool) (before : A → A → Bool) (x : A) (xs : List A) → sum_by f (filter q (put_in before x xs)) ≡ cond (q x) (f x) 0 + sum_by f (filter q xs)
put_sum f q before x [] = sum_more f q x []
put_sum f q before x (y ∷ ys) = by (before x y) (put_sum f q before x ys) where
  by : (b : Bool) → sum_by f (filter q (put_in before x ys)) ≡ cond (q x) (f x) 0 + sum_by f (filter q ys)
      → sum_by f (filter q (if b then x ∷ y ∷ ys else y ∷ put_in before x ys)) ≡ cond (q x) (f x) 0 + sum_by f (filter q (y ∷ ys))
  by true rest = sum_more f q x (y ∷ ys)
  by false rest =
      let first : sum_by f (filter q (y ∷ put_in before x ys)) ≡ cond (q y) (f y) 0 + sum_by f (filter q (put_in before x ys)) = sum_more f q y (put_in before x ys) in
      let second : sum_by f (filter q (y ∷ ys)) ≡ cond (q y) (f y) 0 + sum_by f (filter q ys) = sum_more f q y ys in
      together (sum_by f (filter q (y ∷ put_in before x ys))) (cond (q y) (f y) 0) (cond (q x) (f x) 0) (sum_by f (filter q (put_in before x ys))) (sum_by f (filter q ys)) (sum_by f (filter q (y ∷ ys))) first rest second where
        together : (all one other put rest old : ℕ) → all ≡ one + put → put ≡ other + rest → old ≡ one + rest → all ≡ other + old
        together all one other put rest old a b c = omega (arith, a, b, c)

order_sum_from : {A : Type 0} (f : A → ℕ) (q : A → Bool) (before : A → A → Bool) (xs sorted : List A)
    → sum_by f (filter q (fold (λ ys x. put_in before x ys) sorted xs)) ≡ sum_by f (filter q sorted) + sum_by f (filter q xs)
order_sum_from f q before [] sorted = let n : ℕ = sum_by f (filter q sorted) in omega arith
order_sum_from f q before (x ∷ xs) sorted =
    together (sum_by f (filter q (fold (λ ys z. put_in before z ys) (put_in before x sorted) xs))) (sum_by f (filter q (put_in before x sorted))) (sum_by f (filter q xs)) (cond (q x) (f x) 0)
    (sum_by f (filter q sorted)) (sum_by f (filter q (x ∷ xs))) (order_sum_from f q before xs (put_in before x sorted)) (put_sum f q before x sorted) (sum_more f q x xs) where
      together : (all put rest one sorted new : ℕ) → all ≡ put + rest → put ≡ one + sorted → new ≡ one + rest → all ≡ sorted + new
      together all put rest one sorted new a b c = omega (arith, a, b, c)

-- In order they are as many.
pub order_sum : {A : Type 0} (f : A → ℕ) (q : A → Bool) (before : A → A → Bool) (xs : List A) → sum_by f (filter q (in_order before xs)) ≡ sum_by f (filter q xs)
order_sum f q before xs = let r = order_sum_from f q before xs [] in let e : sum_by f (filter q (in_order before xs)) ≡ 0 + sum_by f (filter q xs) = r in omega (arith, e)

-- Of what elements are mapped to, where both agree on each.
pub sum_mapped : {A B : Type 0} (g : A → B) (f : B → ℕ) (q : B → Bool) (f' : A → ℕ) (q' : A → Bool) (xs : List A) → ((x : A) → Contains xs x → q (g x) ≡ q' x) → ((x : A) → Contains xs x → f (g x) ≡ f' x)
    → sum_by f (filter q (map g xs)) ≡ sum_by f' (filter q' xs)
sum_mapped g f q f' q' [] tests values = refl
sum_mapped g f q f' q' (x ∷ xs) tests values =
    sum_more f q (g x) (map g xs)
    ∙ ap (λ b. cond b (f (g x)) 0 + sum_by f (filter q (map g xs))) (tests x (contains_first x xs))
    ∙ ap (λ n. cond (q' x) n 0 + sum_by f (filter q (map g xs))) (values x (contains_first x xs))
    ∙ ap (λ n. cond (q' x) (f' x) 0 + n) (sum_mapped g f q f' q' xs (λ y there. tests y (contains_more x xs y there)) (λ y there. values y (contains_more x xs y there)))
    ∙ sym (sum_more f' q' x xs)

-- The same of lists.
pub list_mapped : {A B C : Type 0} (g : A → B) (f : B → C) (q : B → Bool) (f' : A → C) (q' : A → Bool) (xs : List A) → ((x : A) → Contains xs x → q (g x) ≡ q' x) → ((x : A) → Contains xs x → f (g x) ≡ f' x)
    → map f (filter q (map g xs)) ≡ map f' (filter q' xs)
list_mapped g f q f' q' [] tests values = refl
list_mapped g f q f' q' (x ∷ xs) tests values =
    ap (λ b. map f (cond b (g x ∷ filter q (map g xs)) (filter q (map g xs)))) (tests x (contains_first x xs))
    ∙ by (q' x) (list_mapped g f q f' q' xs (λ y there. tests y (contains_more x xs y there)) (λ y there. values y (contains_more x xs y there))) where
      by : (b : Bool) → map f (filter q (map g xs)) ≡ map f' (filter q' xs) → map f (cond b (g x ∷ filter q (map g xs)) (filter q (map g xs))) ≡ map f' (cond b (x ∷ filter q' xs) (filter q' xs))
      by true rest = ap (λ c. c ∷ map f (filter q (map g xs))) (values x (contains_first x xs)) ∙ ap (λ cs. f' x ∷ cs) rest
      by false rest = rest

pub map_as : {A B : Type 0} (f g : A → B) (xs : List A) → ((x : A) → f x ≡ g x) → map f xs ≡ map g xs
map_as f g [] same = refl
map_as f g (x ∷ xs) same = ap (λ y. y ∷ map f xs) (same x) ∙ ap (λ ys. g x ∷ ys) (map_as f g xs same)

-- ---- the least

-- The least with one more.
abbrev less : ℕ → Option ℕ → Option ℕ
less n o = elim o as (λ z. Option ℕ) [ None ↦ Some n | Some m ↦ Some (min n m) ]

less_turned : (x y : ℕ) (o : Option ℕ) → less x (less y o) ≡ less y (less x o)
less_turned x y None = ap (λ n. Some n) (min_comm x y)
less_turned x y (Some z) = let e : min x (min y z) ≡ min y (min x z) = omega arith in ap (λ n. Some n) e

least_push : (xs : List ℕ) (y : ℕ) → least (xs ++ y ∷ []) ≡ less y (least xs)
least_push [] y = refl
least_push (x ∷ xs) y = ap (less x) (least_push xs y) ∙ less_turned x y (least xs)

-- It is the same in reverse.
pub least_reversed : {A : Type 0} (f : A → ℕ) (q : A → Bool) (xs : List A) → least (map f (filter q (reverse xs))) ≡ least (map f (filter q xs))
least_reversed f q [] = refl
least_reversed {A} f q (x ∷ xs) =
    ap (λ ys. least (map f (filter q ys))) (reverse-append (x ∷ []) xs)
    ∙ ap (λ ys. least (map f ys)) (filter-append q (reverse xs) (x ∷ []))
    ∙ by (q x) (least_reversed f q xs) where
      by : (b : Bool) → least (map f (filter q (reverse xs))) ≡ least (map f (filter q xs))
          → least (map f (filter q (reverse xs) ++ cond b (x ∷ []) [])) ≡ least (map f (cond b (x ∷ filter q xs) (filter q xs)))
      by true rest = ap least (map-append f (filter q (reverse xs)) (x ∷ [])) ∙ (least_push (map f (filter q (reverse xs))) (f x) ∙ ap (less (f x)) rest)
      by false rest = ap (λ ys. least (map f ys)) (append-nil (filter q (reverse xs))) ∙ rest

-- ---- numbers in a row

from_first : (a n y : ℕ) → Contains (range_with_len a n) y → a ≤ y
from_first a zero y there = absurd (contains_none y there)
from_first a (suc n) y there = by (λ rest. from_first (a + 1) n y rest) (contains_cases a (range_with_len (a + 1) n) y there) where
  by : (Contains (range_with_len (a + 1) n) y → a + 1 ≤ y) → (a ≡ y) ⊎ Contains (range_with_len (a + 1) n) y → a ≤ y
  by deeper (inl is) = omega (arith, is)
  by deeper (inr rest) = let r = deeper rest in omega (arith, r)

pub row_apart : (a n : ℕ) → AreApart (λ (k : ℕ). k) (range_with_len a n)
row_apart a zero = tt
row_apart a (suc n) =
    (all_from (λ (k : ℕ). a ≡ k → ⊥) (range_with_len (a + 1) n) (λ k there same. (let up = from_first (a + 1) n k there in absurd (omega (arith, up, same)))), row_apart (a + 1) n)

-- What is mapped to numbers apart is apart.
pub apart_unmapped : {A : Type 0} (f : A → ℕ) (xs : List A) → AreApart (λ (k : ℕ). k) (map f xs) → AreApart f xs
apart_unmapped f [] apart = tt
apart_unmapped {A} f (x ∷ xs) apart = (by xs apart.0, apart_unmapped f xs apart.1) where
  by : (ys : List A) → AllByRecursion (λ k. f x ≡ k → ⊥) (map f ys) → AllByRecursion (λ y. f x ≡ f y → ⊥) ys
  by [] all = tt
  by (y ∷ ys) all = (all.0, by ys all.1)
