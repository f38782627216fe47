-- Of places and of what is counted at one.
use Rattle.sl_words.proofs.Lists.{contains_first, contains_more, contains_none, kept}
use Rattle.sl_words.proofs.Numbers.{number_itself}
use Rattle.sl_trace.specs.Traces.{same_place}
use Rattle.sl_words.proofs.WordLaws.{and_true}
use Rattle.std.proofs.Common.{ap, arith, refl, subst, ◌∙◌}
use Rattle.std.proofs.lemmas.Bool.{eqb-true}
use Rattle.std.proofs.lemmas.Slice.Eq.{bytes_eq-Decides}
use Rattle.std.specs.Cmp.Lexicographic.{nat_list_eq_equiv}
use Rattle.std.specs.Prelude.{Bool, Contains, List, bytes_eq, cond, false, filter, length, true, [], ℕ, ◌&&◌, ◌==◌, ◌∷◌, ◌≡◌, ◌≤◌}

-- ---- places

pub text_is : (a b : List ℕ) → bytes_eq a b ≡ true → a ≡ b
text_is a b h = (bytes_eq-Decides a b).0 h

pub place_is : (path other : List ℕ) (offset at : ℕ) → same_place path offset other at ≡ true → (path ≡ other) × (offset ≡ at)
place_is path other offset at h = let p = and_true (offset == at) (bytes_eq path other) h in (text_is path other p.1, eqb-true offset at p.0)

pub one_place : (path : List ℕ) (offset : ℕ) → same_place path offset path offset ≡ true
one_place path offset = ap (λ b. b && bytes_eq path path) (number_itself offset) ∙ nat_list_eq_equiv.refl path

pub place_turned : (path other : List ℕ) (offset at : ℕ) → same_place path offset other at ≡ true → same_place other at path offset ≡ true
place_turned path other offset at h =
    let p = place_is path other offset at h in
    subst (λ q. same_place q at path offset ≡ true) p.0 (subst (λ n. same_place path n path offset ≡ true) p.1 (one_place path offset))

-- ---- counts

pub kept_counted : {A : Type 0} (p : A → Bool) (xs : List A) (x : A) → Contains xs x → p x ≡ true → 1 ≤ length (filter p xs)
kept_counted p xs x there is = left_over (filter p xs) x (kept p xs x is there) where
  left_over : {A : Type 0} (ys : List A) (x : A) → Contains ys x → 1 ≤ length ys
  left_over [] x there = absurd (contains_none x there)
  left_over (y ∷ ys) x there = omega arith

pub none_counted : {A : Type 0} (p : A → Bool) (xs : List A) → ((x : A) → Contains xs x → p x ≡ false) → filter p xs ≡ []
none_counted p [] none = refl
none_counted p (x ∷ xs) none = ap (λ b. cond b (x ∷ filter p xs) (filter p xs)) (none x (contains_first x xs)) ∙ none_counted p xs (λ y there. none y (contains_more x xs y there))

pub fewer_kept : {A : Type 0} (p q : A → Bool) (xs : List A) → length (filter p (filter q xs)) ≤ length (filter p xs)
fewer_kept p q [] = omega arith
fewer_kept {A} p q (x ∷ xs) = by (q x) (filter q xs) (fewer_kept p q xs) where
  both : (b : Bool) (ys zs : List A) → length ys ≤ length zs → length (cond b (x ∷ ys) ys) ≤ length (cond b (x ∷ zs) zs)
  both true ys zs less = omega (arith, less)
  both false ys zs less = less

  one : (b : Bool) (ys zs : List A) → length ys ≤ length zs → length ys ≤ length (cond b (x ∷ zs) zs)
  one true ys zs less = omega (arith, less)
  one false ys zs less = less

  by : (a : Bool) (ys : List A) → length (filter p ys) ≤ length (filter p xs) → length (filter p (cond a (x ∷ ys) ys)) ≤ length (filter p (x ∷ xs))
  by true ys less = both (p x) (filter p ys) (filter p xs) less
  by false ys less = one (p x) (filter p ys) (filter p xs) less
