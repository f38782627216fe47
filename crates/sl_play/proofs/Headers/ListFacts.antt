-- Facts of lists: what is given of their elements, pairs, and how many elements there may be.
use Rattle.sl_words.proofs.Lists.{any_of, contains_cases, contains_first, contains_more, contains_none}
use Rattle.sl_words.proofs.CaseLaws.{is_false, not_both}
use Rattle.sl_words.specs.Words.{first_of_list}
use Rattle.std.proofs.Common.{Bool, List, None, Option, Some, [], ap, arith, false, inl, inr, length, length-append, map, refl, subst, suc, ◌++◌, ◌∙◌, ◌∷◌, ◌≡◌, ◌≤◌}
use Rattle.std.proofs.lemmas.List.Elements.{All-append, All-contains, All-map, Contains-append_cases, Contains-append_left, Contains-append_right, Contains-get_or}
use Rattle.std.proofs.lemmas.List.Kept.{AllPairs-cons}
use Rattle.std.specs.List.{All, AllPairs, Contains, cons_option, filter_map, list_any}
use Rattle.std.specs.Prelude.{unwrap_or, ◌≢◌}

-- ---- elements

-- A test that none passes fails at each.
pub none_passes : {A : Type 0} (p : A → Bool) (xs : List A) (x : A) → list_any p xs ≡ false → Contains xs x → p x ≡ false
none_passes p xs x none has = is_false (p x) (λ passes. not_both (list_any p xs) (any_of p xs x passes has) none)

-- The first element is one.
pub first_inside : {A : Type 0} (xs : List A) (d : A) → 1 ≤ length xs → Contains xs (unwrap_or (first_of_list xs) d)
first_inside [] d some = absurd (omega arith)
first_inside (x ∷ xs) d some = contains_first x xs

-- It stays the first.
pub first_stays : {A : Type 0} (xs ys : List A) (d : A) → 1 ≤ length xs → unwrap_or (first_of_list (xs ++ ys)) d ≡ unwrap_or (first_of_list xs) d
first_stays [] ys d some = absurd (omega arith)
first_stays (x ∷ xs) ys d some = refl

-- ---- what is given

given_by : {A B : Type 0} (f : A → Option B) (a : A) (xs : List A) (b : B) (o : Option B) → f a ≡ o
    → (Contains (filter_map f xs) b → (c : A) × Contains xs c × (f c ≡ Some b))
    → Contains (cons_option o (filter_map f xs)) b → (c : A) × Contains (a ∷ xs) c × (f c ≡ Some b)
given_by f a xs b None is more has = let found = more has in (found.0, contains_more a xs found.0 found.1, found.2)
given_by f a xs b (Some x) is more has =
    elim (contains_cases x (filter_map f xs) b has) [
      | inl first ↦ (a, contains_first a xs, is ∙ ap (λ y. Some y) first)
      | inr later ↦ let found = more later in (found.0, contains_more a xs found.0 found.1, found.2)
    ]

-- What is given is given of an element.
pub given_of_one : {A B : Type 0} (f : A → Option B) (xs : List A) (b : B) → Contains (filter_map f xs) b → (a : A) × Contains xs a × (f a ≡ Some b)
given_of_one f [] b has = absurd (contains_none b has)
given_of_one f (a ∷ xs) b has = given_by f a xs b (f a) refl (given_of_one f xs b) has

-- ---- pairs

pub pairs_head : {A : Type 0} (R : A → A → Type 0) (x : A) (xs : List A) → AllPairs R (x ∷ xs) → All (R x) xs
pairs_head R x xs p k d inside = p 0 (suc k) d (omega arith) (omega arith)

pub pairs_tail : {A : Type 0} (R : A → A → Type 0) (x : A) (xs : List A) → AllPairs R (x ∷ xs) → AllPairs R xs
pairs_tail R x xs p i j d before inside = p (suc i) (suc j) d (omega arith) (omega arith)

pub pairs_none : {A : Type 0} (R : A → A → Type 0) → AllPairs R []
pairs_none R i j d before inside = absurd (omega arith)

-- Pairs of one list behind another.
pub pairs_append : {A : Type 0} (R : A → A → Type 0) (xs ys : List A) → AllPairs R xs → AllPairs R ys → ((x y : A) → Contains xs x → Contains ys y → R x y) → AllPairs R (xs ++ ys)
pairs_append R [] ys p q cross = q
pairs_append R (x ∷ xs) ys p q cross =
    AllPairs-cons R x (xs ++ ys)
    (All-append (R x) xs ys (pairs_head R x xs p) (λ k d inside. cross x _ (contains_first x xs) (Contains-get_or ys k d inside)))
    (pairs_append R xs ys (pairs_tail R x xs p) q (λ a b in_xs in_ys. cross a b (contains_more x xs a in_xs) in_ys))

-- Pairs of what is made of a list.
pub pairs_map : {A B : Type 0} (R : B → B → Type 0) (f : A → B) (xs : List A) → AllPairs (λ a b. R (f a) (f b)) xs → AllPairs R (map f xs)
pairs_map R f [] p = pairs_none R
pairs_map {A} R f (x ∷ xs) p =
    let Q : A → A → Type 0 = λ a b. R (f a) (f b) in
    AllPairs-cons R (f x) (map f xs) (All-map (R (f x)) f xs (pairs_head Q x xs p)) (pairs_map R f xs (pairs_tail Q x xs p))

abbrev Carries : {A B : Type 0} → (A → A → Type 0) → (B → B → Type 0) → (A → Option B) → Type 0
Carries {A} {B} R S f = (x y : A) (a b : B) → f x ≡ Some a → f y ≡ Some b → R x y → S a b

given_pairs : {A B : Type 0} (R : A → A → Type 0) (S : B → B → Type 0) (f : A → Option B) → Carries R S f → (x : A) (xs : List A) (o : Option B) → f x ≡ o
    → All (R x) xs → AllPairs S (filter_map f xs) → AllPairs S (cons_option o (filter_map f xs))
given_pairs R S f carries x xs None is first more = more
given_pairs R S f carries x xs (Some a) is first more =
    AllPairs-cons S a (filter_map f xs) (λ k d inside.
    let found = given_of_one f xs _ (Contains-get_or (filter_map f xs) k d inside) in
    carries x found.0 a _ is found.2 (All-contains (R x) xs found.0 first found.1)) more

-- Pairs of what is given of a list.
pub pairs_given : {A B : Type 0} (R : A → A → Type 0) (S : B → B → Type 0) (f : A → Option B) → Carries R S f → (xs : List A) → AllPairs R xs → AllPairs S (filter_map f xs)
pairs_given R S f carries [] p = pairs_none S
pairs_given R S f carries (x ∷ xs) p =
    given_pairs R S f carries x xs (f x) refl (pairs_head R x xs p) (pairs_given R S f carries xs (pairs_tail R x xs p))

-- ---- how many

split_at : {A : Type 0} (ys : List A) (x : A) → Contains ys x → (left right : List A) × (ys ≡ left ++ x ∷ right)
split_at [] x has = absurd (contains_none x has)
split_at {A} (y ∷ ys) x has =
    elim (contains_cases y ys x has) [
      | inl first ↦ ([], ys, ap (λ (z : A). z ∷ ys) first)
      | inr later ↦ let more = split_at ys x later in (y ∷ more.0, more.1, ap (λ (zs : List A). y ∷ zs) more.2)
    ]

left_there : {A : Type 0} (left right : List A) (x y : A) → x ≢ y → Contains (left ++ x ∷ right) y → Contains (left ++ right) y
left_there left right x y other has =
    elim (Contains-append_cases left (x ∷ right) y has) [
      | inl early ↦ Contains-append_left left right y early
      | inr late ↦ elim (contains_cases x right y late) [ inl here ↦ absurd (other here) | inr later ↦ Contains-append_right left right y later ]
    ]

-- Different elements of a list are no more than it has.
pub no_more : {A : Type 0} (xs ys : List A) → AllPairs (λ a b. a ≢ b) xs → ((x : A) → Contains xs x → Contains ys x) → length xs ≤ length ys
no_more [] ys p inside = omega arith
no_more {A} (x ∷ xs) ys p inside =
    let at = split_at ys x (inside x (contains_first x xs)) in
    let Different : A → A → Type 0 = λ a b. a ≢ b in
    let fewer : length xs ≤ length (at.0 ++ at.1) =
    no_more xs (at.0 ++ at.1) (pairs_tail Different x xs p) (λ y has.
    left_there at.0 at.1 x y (All-contains (Different x) xs y (pairs_head Different x xs p) has)
    (subst (λ (zs : List A). Contains zs y) at.2 (inside y (contains_more x xs y has)))) in
    omega (arith, fewer, length-append at.0 at.1, length-append at.0 (x ∷ at.1), ap length at.2)
