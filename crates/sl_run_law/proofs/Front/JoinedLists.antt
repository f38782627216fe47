-- What is in a list that is made of others.
use Rattle.sl_words.proofs.Lists.{contains_cases, contains_first, contains_more, contains_none}
use Rattle.std.proofs.Common.{inl, inr, refl, subst, sym}
use Rattle.std.specs.Prelude.{Contains, List, Some, flat_map, slice_get, suc, zero, [], ℕ, ◌++◌, ◌∷◌, ◌≡◌, ◌⊎◌}

pub contains_append : {A : Type 0} (xs ys : List A) (d : A) → Contains (xs ++ ys) d → Contains xs d ⊎ Contains ys d
contains_append [] ys d h = inr h
contains_append (x ∷ xs) ys d h =
    elim (contains_cases x (xs ++ ys) d h) as (λ z. Contains (x ∷ xs) d ⊎ Contains ys d) [
      | inl e ↦ inl (subst (λ y. Contains (x ∷ xs) y) e (contains_first x xs))
      | inr more ↦ elim (contains_append xs ys d more) as (λ z. Contains (x ∷ xs) d ⊎ Contains ys d) [
        | inl p ↦ inl (contains_more x xs d p)
        | inr q ↦ inr q
      ]
    ]

pub contains_left : {A : Type 0} (xs ys : List A) (d : A) → Contains xs d → Contains (xs ++ ys) d
contains_left [] ys d h = absurd (contains_none d h)
contains_left (x ∷ xs) ys d h =
    elim (contains_cases x xs d h) as (λ z. Contains (x ∷ (xs ++ ys)) d) [
      | inl e ↦ subst (λ y. Contains (x ∷ (xs ++ ys)) y) e (contains_first x (xs ++ ys))
      | inr more ↦ contains_more x (xs ++ ys) d (contains_left xs ys d more)
    ]

pub contains_right : {A : Type 0} (xs ys : List A) (d : A) → Contains ys d → Contains (xs ++ ys) d
contains_right [] ys d h = h
contains_right (x ∷ xs) ys d h = contains_more x (xs ++ ys) d (contains_right xs ys d h)

-- Where an element of a flattened list comes from.
pub contains_flat : {X A : Type 0} (f : X → List A) (xs : List X) (d : A) → Contains (flat_map f xs) d → (x : X) × Contains xs x × Contains (f x) d
contains_flat f [] d h = absurd (contains_none d h)
contains_flat f (x ∷ xs) d h =
    elim (contains_append (f x) (flat_map f xs) d h) as (λ z. (y : _) × Contains (x ∷ xs) y × Contains (f y) d) [
      | inl p ↦ (x, contains_first x xs, p)
      | inr q ↦ let r = contains_flat f xs d q in (r.0, contains_more x xs r.0 r.1, r.2)
    ]

pub in_flat : {X A : Type 0} (f : X → List A) (xs : List X) (x : X) (d : A) → Contains xs x → Contains (f x) d → Contains (flat_map f xs) d
in_flat f [] x d h k = absurd (contains_none x h)
in_flat f (y ∷ xs) x d h k =
    elim (contains_cases y xs x h) as (λ z. Contains (f y ++ flat_map f xs) d) [
      | inl e ↦ contains_left (f y) (flat_map f xs) d (subst (λ z. Contains (f z) d) (sym e) k)
      | inr more ↦ contains_right (f y) (flat_map f xs) d (in_flat f xs x d more k)
    ]

-- An element of a list has a place there.
pub placed_at : {A : Type 0} (xs : List A) (d : A) → Contains xs d → (i : ℕ) × (slice_get xs i ≡ Some d)
placed_at [] d h = absurd (contains_none d h)
placed_at (x ∷ xs) d h =
    elim (contains_cases x xs d h) as (λ z. (i : ℕ) × (slice_get (x ∷ xs) i ≡ Some d)) [
      | inl e ↦ (zero, subst (λ y. Some x ≡ Some y) e refl)
      | inr more ↦ let p = placed_at xs d more in (suc p.0, p.1)
    ]
