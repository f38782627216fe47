-- Numbers in rising order: the least above one comes next.
use Rattle.sl_due_facts.proofs.Acts.AddedAtEnd.{contains_last}
use Rattle.sl_host_law.proofs.SharedFacts.PlainLists.{in_back, in_front}
use Rattle.sl_host_law.proofs.SharedFacts.PlainOrders.{inside_ordered, ordered_inside, put_inside}
use Rattle.sl_words.proofs.Lists.{any_found, any_of, contains_cases, contains_first, contains_more, contains_none}
use Rattle.sl_words.proofs.Numbers.{number_itself}
use Rattle.sl_words.proofs.CaseLaws.{none_some, some_value}
use Rattle.sl_words.specs.Orders.{add_new, once_each, put_in, rising}
use Rattle.sl_words.specs.Words.{least}
use Rattle.std.proofs.Common.{ap, arith, inl, inr, refl, subst, sym, ◌∙◌}
use Rattle.std.proofs.lemmas.Bool.{eqb-true}
use Rattle.std.proofs.lemmas.Bool.Decides.{nat_tests}
use Rattle.std.specs.List.{list_any}
use Rattle.std.specs.Prelude.{Bool, Contains, List, None, Option, Some, [], cond, false, filter, fold, if◌then◌else◌, min, nat_eq, nat_lt, true, ℕ, ◌++◌, ◌<◌, ◌∷◌, ◌≡◌, ◌≤◌, ◌⊎◌}

-- ---- each once

abbrev pub NotIn : ℕ → List ℕ → Type 0
NotIn x ys = Contains ys x → ⊥

-- No two are one.
abbrev pub Apart : List ℕ → Type 0
Apart [] = Unit {0}
Apart (x ∷ xs) = NotIn x xs × Apart xs

not_found : (x : ℕ) (xs : List ℕ) → list_any (nat_eq x) xs ≡ false → NotIn x xs
not_found x xs none there = by (any_of (nat_eq x) xs x (number_itself x) there) where
  by : list_any (nat_eq x) xs ≡ true → ⊥
  by found = absurd cc

apart_end : (xs : List ℕ) (y : ℕ) → Apart xs → NotIn y xs → Apart (xs ++ y ∷ [])
apart_end [] y h new = ((λ there. contains_none y there), tt)
apart_end (x ∷ xs) y h new = (not_last, apart_end xs y h.1 (λ there. new (contains_more x xs y there))) where
  not_last : NotIn x (xs ++ y ∷ [])
  not_last there = elim (contains_last xs y x there) [ inl old ↦ h.0 old | inr is ↦ new (subst (λ z. Contains (x ∷ xs) z) (sym is) (contains_first x xs)) ]

added_apart : (xs : List ℕ) (y : ℕ) → Apart xs → Apart (add_new nat_eq xs y)
added_apart xs y h = by (list_any (nat_eq y) xs) refl where
  by : (b : Bool) → list_any (nat_eq y) xs ≡ b → Apart (if b then xs else xs ++ y ∷ [])
  by true is = h
  by false is = apart_end xs y h (not_found y xs is)

once_apart : (xs seen : List ℕ) → Apart seen → Apart (fold (add_new nat_eq) seen xs)
once_apart [] seen h = h
once_apart (x ∷ xs) seen h = once_apart xs (add_new nat_eq seen x) (added_apart seen x h)

from_once : (xs seen : List ℕ) (d : ℕ) → Contains (fold (add_new nat_eq) seen xs) d → Contains xs d ⊎ Contains seen d
from_once [] seen d there = inr there
from_once (x ∷ xs) seen d there = by (from_once xs (add_new nat_eq seen x) d there) where
  last : Contains seen d ⊎ (x ≡ d) → Contains (x ∷ xs) d ⊎ Contains seen d
  last (inl old) = inr old
  last (inr is) = inl (subst (λ z. Contains (x ∷ xs) z) is (contains_first x xs))

  added : (b : Bool) → Contains (if b then seen else seen ++ x ∷ []) d → Contains (x ∷ xs) d ⊎ Contains seen d
  added true old = inr old
  added false more = last (contains_last seen x d more)

  by : Contains xs d ⊎ Contains (add_new nat_eq seen x) d → Contains (x ∷ xs) d ⊎ Contains seen d
  by (inl rest) = inl (contains_more x xs d rest)
  by (inr inside) = added (list_any (nat_eq x) seen) inside

once_there : (xs seen : List ℕ) (d : ℕ) → Contains xs d ⊎ Contains seen d → Contains (fold (add_new nat_eq) seen xs) d
once_there [] seen d (inl none) = absurd (contains_none d none)
once_there [] seen d (inr there) = there
once_there (x ∷ xs) seen d there = once_there xs (add_new nat_eq seen x) d (by (list_any (nat_eq x) seen) refl there) where
  new : (b : Bool) → list_any (nat_eq x) seen ≡ b → (x ≡ d) ⊎ Contains xs d → Contains xs d ⊎ Contains (if b then seen else seen ++ x ∷ []) d
  new b is (inr rest) = inl rest
  new false is (inl one) = inr (subst (λ z. Contains (seen ++ x ∷ []) z) one (in_back seen (x ∷ []) x (contains_first x [])))
  new true is (inl one) = let a = any_found (nat_eq x) seen is in inr (subst (λ z. Contains seen z) (sym (eqb-true x a.0 a.2) ∙ one) a.1)

  by : (b : Bool) → list_any (nat_eq x) seen ≡ b → Contains (x ∷ xs) d ⊎ Contains seen d → Contains xs d ⊎ Contains (if b then seen else seen ++ x ∷ []) d
  by true is (inr old) = inr old
  by false is (inr old) = inr (in_front seen (x ∷ []) d old)
  by b is (inl at) = new b is (contains_cases x xs d at)

-- ---- in order

-- It is below all of these.
abbrev pub Below : ℕ → List ℕ → Type 0
Below x ys = (d : ℕ) → Contains ys d → x < d

-- Each is below the next.
abbrev pub Rises : List ℕ → Type 0
Rises [] = Unit {0}
Rises (x ∷ xs) = Below x xs × Rises xs

put_rises : (x : ℕ) (ys : List ℕ) → Rises ys → NotIn x ys → Rises (put_in nat_lt x ys)
put_rises x [] h new = ((λ d there. absurd (contains_none d there)), tt)
put_rises x (y ∷ ys) h new = by (nat_lt x y) refl (put_rises x ys h.1 (λ there. new (contains_more y ys x there))) where
  first : x < y → Below x (y ∷ ys)
  first less d there = elim (contains_cases y ys d there) [ inl is ↦ subst (λ z. x < z) is less | inr rest ↦ let deeper : y < d = h.0 d rest in omega arith ]

  other : y ≡ x → ⊥
  other is = new (subst (λ z. Contains (y ∷ ys) z) is (contains_first y ys))

  later : (x < y → ⊥) → Below y (put_in nat_lt x ys)
  later not d there = elim (put_inside nat_lt x ys d there) [ inl is ↦ subst (λ z. y < z) is (grind arith) | inr rest ↦ h.0 d rest ]

  by : (b : Bool) → nat_lt x y ≡ b → Rises (put_in nat_lt x ys) → Rises (if b then x ∷ y ∷ ys else y ∷ put_in nat_lt x ys)
  by true is more = (first (grind (arith, nat_tests)), h)
  by false is more = (later (λ less. grind (arith, nat_tests)), more)

ordered_rises : (xs sorted : List ℕ) → Apart xs → ((d : ℕ) → Contains xs d → NotIn d sorted) → Rises sorted → Rises (fold (λ zs x. put_in nat_lt x zs) sorted xs)
ordered_rises [] sorted apart new h = h
ordered_rises (x ∷ xs) sorted apart new h = ordered_rises xs (put_in nat_lt x sorted) apart.1 others (put_rises x sorted h (new x (contains_first x xs))) where
  others : (d : ℕ) → Contains xs d → NotIn d (put_in nat_lt x sorted)
  others d there inside = elim (put_inside nat_lt x sorted d inside) [
    | inl is ↦ apart.0 (subst (λ z. Contains xs z) (sym is) there)
    | inr old ↦ new d (contains_more x xs d there) old
  ]

-- Numbers in rising order rise.
pub rising_rises : (ns : List ℕ) → Rises (rising ns)
rising_rises ns = ordered_rises (once_each nat_eq ns) [] (once_apart ns [] tt) (λ d there none. contains_none d none) tt

-- They are the same numbers.
pub from_rising : (ns : List ℕ) (d : ℕ) → Contains (rising ns) d → Contains ns d
from_rising ns d there = elim (from_once ns [] d (ordered_inside nat_lt (once_each nat_eq ns) d there)) [ inl is ↦ is | inr none ↦ absurd (contains_none d none) ]

pub rising_there : (ns : List ℕ) (d : ℕ) → Contains ns d → Contains (rising ns) d
rising_there ns d there = inside_ordered nat_lt (once_each nat_eq ns) d (once_there ns [] d (inl there))

-- ---- the least

pub least_none : (ns : List ℕ) → least ns ≡ None → ns ≡ []
least_none [] is = refl
least_none (n ∷ ns) is = by (least ns) is where
  by : (o : Option ℕ) → elim o as (λ z. Option ℕ) [ None ↦ Some n | Some m ↦ Some (min n m) ] ≡ None → n ∷ ns ≡ []
  by None h = absurd (none_some n (sym h))
  by (Some m) h = absurd (none_some (min n m) (sym h))

-- What is the least is there, and none is below it.
pub record IsLeast (ns : List ℕ) (p : ℕ) : Type 0 where
  pub there : Contains ns p
  pub first : (d : ℕ) → Contains ns d → p ≤ d

pub least_some : (ns : List ℕ) (p : ℕ) → least ns ≡ Some p → IsLeast ns p
least_some [] p is = absurd (none_some p is)
least_some (n ∷ ns) p is = by (least ns) refl is (λ q h. least_some ns q h) where
  one : (m : ℕ) → IsLeast ns m → min n m ≡ p → IsLeast (n ∷ ns) p
  one m l low = record { there = where_is (nat_lt n m) refl; first = all } where
    where_is : (b : Bool) → nat_lt n m ≡ b → Contains (n ∷ ns) p
    where_is true h = let less : n < m = grind (arith, nat_tests) in let same : n ≡ p = omega (arith, less, low) in subst (λ z. Contains (n ∷ ns) z) same (contains_first n ns)
    where_is false h = let most : m ≤ n = grind (arith, nat_tests) in let same : m ≡ p = omega (arith, most, low) in subst (λ z. Contains (n ∷ ns) z) same (contains_more n ns m l.there)

    all : (d : ℕ) → Contains (n ∷ ns) d → p ≤ d
    all d there = elim (contains_cases n ns d there) [ inl same ↦ subst (λ z. p ≤ z) same (omega (arith, low)) | inr rest ↦ let below : m ≤ d = l.first d rest in omega (arith, low, below) ]

  by : (o : Option ℕ) → least ns ≡ o → elim o as (λ z. Option ℕ) [ None ↦ Some n | Some m ↦ Some (min n m) ] ≡ Some p → ((q : ℕ) → least ns ≡ Some q → IsLeast ns q) → IsLeast (n ∷ ns) p
  by None none h deeper =
      let same : n ≡ p = some_value n p h in
      record {
        there = subst (λ z. Contains (n ∷ ns) z) same (contains_first n ns);
        first = λ d there. elim (contains_cases n ns d there) [ inl it ↦ subst (λ z. p ≤ z) it (omega (arith, same)) | inr rest ↦ absurd (contains_none d (subst (λ zs. Contains zs d) (least_none ns none) rest)) ];
      }
  by (Some m) some h deeper = one m (deeper m some) (some_value (min n m) p h)

-- ---- what comes next

-- Those above a number.
abbrev pub those_above : ℕ → List ℕ → List ℕ
those_above a ns = filter (λ n. nat_lt a n) ns

pub kept_all : (p : ℕ) (ns : List ℕ) → Below p ns → those_above p ns ≡ ns
kept_all p [] h = refl
kept_all p (n ∷ ns) h = ap (λ b. cond b (n ∷ those_above p ns) (those_above p ns)) above ∙ ap (λ zs. n ∷ zs) (kept_all p ns (λ d there. h d (contains_more n ns d there))) where
  above : nat_lt p n ≡ true
  above = let less : p < n = h n (contains_first n ns) in grind (arith, nat_tests)

-- Where p is the least above a, it comes next.
pub next_above : (a p : ℕ) (hs : List ℕ) → Rises hs → a < p → Contains hs p → ((d : ℕ) → Contains hs d → a < d → p ≤ d) → those_above a hs ≡ p ∷ those_above p hs
next_above a p [] h less there first = absurd (contains_none p there)
next_above a p (x ∷ xs) h less there first = by (λ inside. next_above a p xs h.1 less inside (λ d in_rest above. first d (contains_more x xs d in_rest) above)) (nat_lt a x) refl where
  passed : nat_lt a x ≡ false → x ≤ a
  passed is = grind (arith, nat_tests)

  inside : x ≤ a → Contains xs p
  inside low = elim (contains_cases x xs p there) [ inl is ↦ absurd (let same : x ≡ p = is in omega (arith, same, low, less)) | inr rest ↦ rest ]

  not_above : x ≤ a → nat_lt p x ≡ false
  not_above low = grind (arith, nat_tests)

  it : a < x → x ≡ p
  it above = elim (contains_cases x xs p there) [
    | inl is ↦ is
    | inr rest ↦ let deeper : x < p = h.0 p rest in let low : p ≤ x = first x (contains_first x xs) above in absurd (omega (arith, deeper, low))
  ]

  same_rest : x ≡ p → x ∷ those_above a xs ≡ p ∷ those_above p xs
  same_rest is =
      let below : Below p xs = (λ d in_rest. subst (λ z. z < d) is (h.0 d in_rest)) in
      let lower : Below a xs = (λ d in_rest. let more : p < d = below d in_rest in omega (arith, more, less)) in
      ap (λ z. z ∷ those_above a xs) is ∙ ap (λ zs. p ∷ zs) (kept_all a xs lower ∙ sym (kept_all p xs below))

  not_itself : x ≡ p → nat_lt p x ≡ false
  not_itself is = grind (arith, nat_tests)

  by : (Contains xs p → those_above a xs ≡ p ∷ those_above p xs) → (b : Bool) → nat_lt a x ≡ b → those_above a (x ∷ xs) ≡ p ∷ those_above p (x ∷ xs)
  by deeper true is =
      let same : x ≡ p = it (grind (arith, nat_tests)) in
      ap (λ b. cond b (x ∷ those_above a xs) (those_above a xs)) is ∙ (same_rest same ∙ ap (λ zs. p ∷ zs) (sym (ap (λ b. cond b (x ∷ those_above p xs) (those_above p xs)) (not_itself same))))
  by deeper false is =
      let low : x ≤ a = passed is in
      ap (λ b. cond b (x ∷ those_above a xs) (those_above a xs)) is
      ∙ (deeper (inside low)
      ∙ ap (λ zs. p ∷ zs) (sym (ap (λ b. cond b (x ∷ those_above p xs) (those_above p xs)) (not_above low))))

-- Where none is above a, none comes.
pub none_above : (a : ℕ) (hs : List ℕ) → ((d : ℕ) → Contains hs d → a < d → ⊥) → those_above a hs ≡ []
none_above a [] none = refl
none_above a (x ∷ xs) none = by (none_above a xs (λ d there above. none d (contains_more x xs d there) above)) (nat_lt a x) refl where
  by : those_above a xs ≡ [] → (b : Bool) → nat_lt a x ≡ b → those_above a (x ∷ xs) ≡ []
  by deeper true is = let above : a < x = grind (arith, nat_tests) in absurd (none x (contains_first x xs) above)
  by deeper false is = ap (λ b. cond b (x ∷ those_above a xs) (those_above a xs)) is ∙ deeper
