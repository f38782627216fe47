-- Counts over fewer, or of less, are no greater.
use Rattle.sl_words.proofs.Lists.{filter_both}
use Rattle.sl_words.proofs.CaseLaws.{false_is_true}
use Rattle.sl_words.proofs.WordLaws.{and_true}
use Rattle.std.proofs.Common.{ap, arith, refl, subst, ◌∙◌}
use Rattle.std.proofs.lemmas.List.Sums.{length-filter, sum_by-cons}
use Rattle.std.specs.Prelude.{Bool, List, None, Some, [], cond, count_by, false, filter, find, length, map, sum_by, true, ℕ, ◌&&◌, ◌++◌, ◌∷◌, ◌≡◌, ◌≤◌}

none_more : 0 ≤ 0
none_more = omega arith

sum_by_tests : {A : Type 0} (f : A → ℕ) (x : A) (xs ys : List A) (b c : Bool) → (b ≡ true → c ≡ true) → sum_by f xs ≤ sum_by f ys
    → sum_by f (cond b (x ∷ xs) xs) ≤ sum_by f (cond c (x ∷ ys) ys)
sum_by_tests f x xs ys true true h le = (let a = sum_by-cons f x xs in let b = sum_by-cons f x ys in omega (arith, a, b, le))
sum_by_tests f x xs ys false true h le = (let b = sum_by-cons f x ys in omega (arith, b, le))
sum_by_tests f x xs ys false false h le = le
sum_by_tests f x xs ys true false h le = absurd (false_is_true (h refl))

-- Of those that pass a stricter test the sum is less.
pub sum_of_fewer : {A : Type 0} (f : A → ℕ) (p q : A → Bool) (xs : List A) → ((a : A) → p a ≡ true → q a ≡ true) → sum_by f (filter p xs) ≤ sum_by f (filter q xs)
sum_of_fewer f p q [] h = none_more
sum_of_fewer f p q (x ∷ xs) h = sum_by_tests f x (filter p xs) (filter q xs) (p x) (q x) (h x) (sum_of_fewer f p q xs h)

length_by_tests : {A : Type 0} (x : A) (xs ys : List A) (b c : Bool) → (b ≡ true → c ≡ true) → length xs ≤ length ys → length (cond b (x ∷ xs) xs) ≤ length (cond c (x ∷ ys) ys)
length_by_tests x xs ys true true h le = omega (arith, le)
length_by_tests x xs ys false true h le = omega (arith, le)
length_by_tests x xs ys false false h le = le
length_by_tests x xs ys true false h le = absurd (false_is_true (h refl))

length_of_fewer : {A : Type 0} (p q : A → Bool) (xs : List A) → ((a : A) → p a ≡ true → q a ≡ true) → length (filter p xs) ≤ length (filter q xs)
length_of_fewer p q [] h = none_more
length_of_fewer p q (x ∷ xs) h = length_by_tests x (filter p xs) (filter q xs) (p x) (q x) (h x) (length_of_fewer p q xs h)

both_of : (a b : Bool) → a ≡ true → b ≡ true → (a && b) ≡ true
both_of a b is its = ap (λ c. c && b) is ∙ its

-- Fewer of fewer are fewer.
pub count_of_fewer : {A : Type 0} (p r q s : A → Bool) (xs : List A) → ((a : A) → r a ≡ true → s a ≡ true) → ((a : A) → p a ≡ true → q a ≡ true) → count_by p (filter r xs) ≤ count_by q (filter s xs)
count_of_fewer {A} p r q s xs fewer less =
    subst (λ n. n ≤ count_by q (filter s xs)) (ap (λ ys. length ys) (filter_both r p xs) ∙ length-filter p (filter r xs))
    (subst (λ n. length (filter (λ a. r a && p a) xs) ≤ n) (ap (λ ys. length ys) (filter_both s q xs) ∙ length-filter q (filter s xs))
    (length_of_fewer (λ a. r a && p a) (λ a. s a && q a) xs (λ a h. let b = and_true (r a) (p a) h in both_of (s a) (q a) (fewer a b.0) (less a b.1))))

found_by : {A : Type 0} (x m : A) (xs ys : List A) (p : A → Bool) (b : Bool) → (find p xs ≡ Some m → find p (xs ++ ys) ≡ Some m) → cond b (Some x) (find p xs) ≡ Some m → cond b (Some x) (find p (xs ++ ys)) ≡ Some m
found_by x m xs ys p true h is = is
found_by x m xs ys p false h is = h is

-- What is found is found though more stand behind.
pub found_before : {A : Type 0} (p : A → Bool) (xs ys : List A) (m : A) → find p xs ≡ Some m → find p (xs ++ ys) ≡ Some m
found_before p [] ys m is = absurd (subst (λ o. elim o as (λ z. Type 0) [ None ↦ Unit {0} | Some y ↦ ⊥ ]) is tt)
found_before p (x ∷ xs) ys m is = found_by x m xs ys p (p x) (found_before p xs ys m) is

-- Each passes a test that all pass.
pub all_pass : {A : Type 0} (p : A → Bool) (xs : List A) → ((a : A) → p a ≡ true) → filter p xs ≡ xs
all_pass p [] h = refl
all_pass p (x ∷ xs) h = ap (λ b. cond b (x ∷ filter p xs) (filter p xs)) (h x) ∙ ap (λ ys. x ∷ ys) (all_pass p xs h)

-- What changes nothing.
pub all_same : {A : Type 0} (f : A → A) (xs : List A) → ((a : A) → f a ≡ a) → map f xs ≡ xs
all_same f [] h = refl
all_same f (x ∷ xs) h = ap (λ y. y ∷ map f xs) (h x) ∙ ap (λ ys. x ∷ ys) (all_same f xs h)
