-- Plain facts of lists: what is given of some elements, and pairs of it.
use Rattle.sl_words.proofs.Lists.{contains_cases, contains_first, contains_more, contains_none}
use Rattle.std.proofs.Common.{ap, arith, inl, inr, refl, suc, ◌∙◌}
use Rattle.std.proofs.lemmas.List.Elements.{All-contains, Contains-get_or}
use Rattle.std.proofs.lemmas.List.Kept.{AllPairs-cons}
use Rattle.std.specs.List.{cons_option}
use Rattle.std.specs.Prelude.{All, AllPairs, Contains, List, None, Option, Some, filter_map, [], ◌∷◌, ◌≡◌}

given_by : {A B : Type 0} (f : A → Option B) (a : A) (xs : List A) (b : B) (o : Option B) → f a ≡ o
    → (Contains (filter_map f xs) b → (c : A) × Contains xs c × (f c ≡ Some b))
    → Contains (cons_option o (filter_map f xs)) b → (c : A) × Contains (a ∷ xs) c × (f c ≡ Some b)
given_by f a xs b None is more has = let found = more has in (found.0, contains_more a xs found.0 found.1, found.2)
given_by f a xs b (Some x) is more has =
    elim (contains_cases x (filter_map f xs) b has) [
      | inl first ↦ (a, contains_first a xs, is ∙ ap (λ y. Some y) first)
      | inr later ↦ let found = more later in (found.0, contains_more a xs found.0 found.1, found.2)
    ]

-- What is given is given of an element.
pub given_of_one : {A B : Type 0} (f : A → Option B) (xs : List A) (b : B) → Contains (filter_map f xs) b → (a : A) × Contains xs a × (f a ≡ Some b)
given_of_one f [] b has = absurd (contains_none b has)
given_of_one f (a ∷ xs) b has = given_by f a xs b (f a) refl (given_of_one f xs b) has

pairs_head : {A : Type 0} (R : A → A → Type 0) (x : A) (xs : List A) → AllPairs R (x ∷ xs) → All (R x) xs
pairs_head R x xs p k d inside = p 0 (suc k) d (omega arith) (omega (arith, inside))

pairs_tail : {A : Type 0} (R : A → A → Type 0) (x : A) (xs : List A) → AllPairs R (x ∷ xs) → AllPairs R xs
pairs_tail R x xs p i j d before inside = p (suc i) (suc j) d (omega (arith, before)) (omega (arith, inside))

abbrev Carries : {A B : Type 0} → (A → A → Type 0) → (B → B → Type 0) → (A → Option B) → Type 0
Carries {A} {B} R S f = (x y : A) (a b : B) → f x ≡ Some a → f y ≡ Some b → R x y → S a b

given_pairs : {A B : Type 0} (R : A → A → Type 0) (S : B → B → Type 0) (f : A → Option B) → Carries R S f → (x : A) (xs : List A) (o : Option B) → f x ≡ o
    → All (R x) xs → AllPairs S (filter_map f xs) → AllPairs S (cons_option o (filter_map f xs))
given_pairs R S f carries x xs None is first more = more
given_pairs R S f carries x xs (Some a) is first more =
    AllPairs-cons S a (filter_map f xs) (λ k d inside.
    let found = given_of_one f xs _ (Contains-get_or (filter_map f xs) k d inside) in
    carries x found.0 a _ is found.2 (All-contains (R x) xs found.0 first found.1)) more

-- Pairs of what is given of a list.
pub pairs_given : {A B : Type 0} (R : A → A → Type 0) (S : B → B → Type 0) (f : A → Option B)
    → ((x y : A) (a b : B) → f x ≡ Some a → f y ≡ Some b → R x y → S a b) → (xs : List A) → AllPairs R xs → AllPairs S (filter_map f xs)
pairs_given R S f carries [] p = λ i j d before inside. absurd (omega (arith, inside))
pairs_given R S f carries (x ∷ xs) p =
    given_pairs R S f carries x xs (f x) refl (pairs_head R x xs p) (pairs_given R S f carries xs (pairs_tail R x xs p))
