-- What is found in a list, and what a test of it says.
use Rattle.sl_run_law.specs.Course.CallStamps.{Pairwise}
use Rattle.sl_words.proofs.Lists.{contains_cases, contains_first, contains_more, contains_none}
use Rattle.sl_run_law.specs.Sample.Samples.{numbered_landing}
use Rattle.sl_run.specs.Worlds.{Landing}
use Rattle.sl_trace.specs.Traces.{same_place}
use Rattle.sl_words.proofs.CaseLaws.{none_some, some_value, true_is_false}
use Rattle.sl_words.proofs.WordLaws.{and_true}
use Rattle.std.proofs.Common.{ap, inl, inr, refl, subst, sym, ◌∙◌}
use Rattle.std.proofs.lemmas.Bool.{eqb-true}
use Rattle.std.proofs.lemmas.Slice.Eq.{bytes_eq-Decides}
use Rattle.std.specs.List.{cons_option}
use Rattle.std.specs.Prelude.{Bool, Contains, List, None, Option, Some, [], bytes_eq, cond, false, filter_map, find, length, true, ℕ, ◌==◌, ◌∷◌, ◌≡◌, ◌⊎◌, Ok, Result}

-- ---- tests

pub same_text : (a b : List ℕ) → bytes_eq a b ≡ true → a ≡ b
same_text a b h = (bytes_eq-Decides a b).0 h

-- One place.
pub place_is : (path : List ℕ) (offset : ℕ) (path' : List ℕ) (offset' : ℕ) → same_place path offset path' offset' ≡ true → (path ≡ path') × (offset ≡ offset')
place_is path offset path' offset' h =
    let both = and_true (offset == offset') (bytes_eq path path') h in
    (same_text path path' both.1, eqb-true offset offset' both.0)

-- One answer is one value.
pub same_read : {A E : Type 0} (read : Result A E) (r s : A) → read ≡ Ok r → read ≡ Ok s → r ≡ s
same_read read r s e f = cc

-- ---- what passes a test

finds_by : {A : Type 0} (p : A → Bool) (x : A) (xs : List A) (d : A) (b : Bool) → p x ≡ b → p d ≡ true → (x ≡ d) ⊎ Contains xs d
    → (Contains xs d → (m : A) × (find p xs ≡ Some m)) → (m : A) × (cond b (Some x) (find p xs) ≡ Some m)
finds_by p x xs d true is h at rest = (x, refl)
finds_by {A} p x xs d false is h (inl here) rest = absurd (true_is_false (sym h ∙ ap p (sym here) ∙ is))
finds_by p x xs d false is h (inr there) rest = rest there

-- Where an element passes, one is found.
pub finds : {A : Type 0} (p : A → Bool) (xs : List A) (d : A) → p d ≡ true → Contains xs d → (m : A) × (find p xs ≡ Some m)
finds p [] d h there = absurd (contains_none d there)
finds p (x ∷ xs) d h there = finds_by p x xs d (p x) refl h (contains_cases x xs d there) (λ inside. finds p xs d h inside)

mapped_by : {A B : Type 0} (f : A → Option B) (x : A) (xs : List A) (b : B) (o : Option B) → f x ≡ o
    → Contains (cons_option o (filter_map f xs)) b
    → (Contains (filter_map f xs) b → (a : A) × Contains xs a × (f a ≡ Some b)) → (a : A) × Contains (x ∷ xs) a × (f a ≡ Some b)
mapped_by f x xs b None is there rest = let r = rest there in (r.0, contains_more x xs r.0 r.1, r.2)
mapped_by {A} {B} f x xs b (Some y) is there rest = by (contains_cases y (filter_map f xs) b there) where
  by : (y ≡ b) ⊎ Contains (filter_map f xs) b → (a : A) × Contains (x ∷ xs) a × (f a ≡ Some b)
  by (inl here) = (x, contains_first x xs, is ∙ ap (λ z. Some z) here)
  by (inr old) = let r = rest old in (r.0, contains_more x xs r.0 r.1, r.2)

-- What f gives of a list it gives of an element.
pub given_by : {A B : Type 0} (f : A → Option B) (xs : List A) (b : B) → Contains (filter_map f xs) b → (a : A) × Contains xs a × (f a ≡ Some b)
given_by f [] b there = absurd (contains_none b there)
given_by f (x ∷ xs) b there = mapped_by f x xs b (f x) refl there (λ more. given_by f xs b more)

-- ---- two lists, element by element

-- The partner of an element of the first list, and of the second.
pub partner : {A B : Type 0} (R : A → B → Type 0) (xs : List A) (ys : List B) (a : A) → Pairwise R xs ys → Contains xs a → (b : B) × Contains ys b × R a b
partner R [] ys a pairs there = absurd (contains_none a there)
partner R (x ∷ xs) [] a pairs there = absurd pairs
partner {A} {B} R (x ∷ xs) (y ∷ ys) a pairs there = by (λ old. partner R xs ys a pairs.1 old) (contains_cases x xs a there) where
  by : (Contains xs a → (b : B) × Contains ys b × R a b) → (x ≡ a) ⊎ Contains xs a → (b : B) × Contains (y ∷ ys) b × R a b
  by rest (inl here) = (y, contains_first y ys, subst (λ (z : A). R z y) here pairs.0)
  by rest (inr old) = let r = rest old in (r.0, contains_more y ys r.0 r.1, r.2)

pub partner_of : {A B : Type 0} (R : A → B → Type 0) (xs : List A) (ys : List B) (b : B) → Pairwise R xs ys → Contains ys b → (a : A) × Contains xs a × R a b
partner_of R xs [] b pairs there = absurd (contains_none b there)
partner_of R [] (y ∷ ys) b pairs there = absurd pairs
partner_of {A} {B} R (x ∷ xs) (y ∷ ys) b pairs there = by (λ old. partner_of R xs ys b pairs.1 old) (contains_cases y ys b there) where
  by : (Contains ys b → (a : A) × Contains xs a × R a b) → (y ≡ b) ⊎ Contains ys b → (a : A) × Contains (x ∷ xs) a × R a b
  by rest (inl here) = (x, contains_first x xs, subst (λ (z : B). R x z) here pairs.0)
  by rest (inr old) = let r = rest old in (r.0, contains_more x xs r.0 r.1, r.2)

-- ---- landings of a place

numbered_by : (l : Landing) (ls : List Landing) (i : ℕ) (x : Landing) (b : Bool)
    → elim b as (λ z. Option Landing) [ true ↦ Some l | false ↦ numbered_landing ls i ] ≡ Some x → (numbered_landing ls i ≡ Some x → Contains ls x) → Contains (l ∷ ls) x
numbered_by l ls i x true h rest = subst (λ y. Contains (l ∷ ls) y) (some_value l x h) (contains_first l ls)
numbered_by l ls i x false h rest = contains_more l ls x (rest h)

-- A numbered landing is one of them.
pub numbered_inside : (ls : List Landing) (i : ℕ) (x : Landing) → numbered_landing ls i ≡ Some x → Contains ls x
numbered_inside [] i x h = absurd (none_some x h)
numbered_inside (l ∷ ls) i x h = numbered_by l ls i x (i == length ls) h (λ rest. numbered_inside ls i x rest)
