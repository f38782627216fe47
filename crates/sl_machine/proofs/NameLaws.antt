-- The names that daemons had, the newest first.
use Rattle.indexmap.specs.IndexSet.{contains, insert_key}
use Rattle.std.specs.HashSet.{HashSet}
use Rattle.std.proofs.lemmas.List.{reverse-append}
use Rattle.std.proofs.lemmas.List.Folds.{list_any-append}
use Rattle.std.proofs.Common.{ap, refl, sym, ◌∙◌}
use Rattle.std.specs.Cmp.Lexicographic.{bytes_decides}
use Rattle.std.specs.List.{list_any}
use Rattle.std.specs.Prelude.{Bool, List, bytes_eq, false, if◌then◌else◌, reverse, true, [], ℕ, ◌++◌, ◌||◌, ◌∷◌, ◌≡◌}

any_turned : {A : Type 0} (p : A → Bool) (xs : List A) → list_any p (reverse xs) ≡ list_any p xs
any_turned p [] = refl
any_turned p (x ∷ xs) =
    ap (list_any p) (reverse-append (x ∷ []) xs) ∙ list_any-append p (reverse xs) (x ∷ []) ∙ ap (λ b. b || list_any p (x ∷ [])) (any_turned p xs) ∙ turned (list_any p xs) (p x)
  where
    turned : (a b : Bool) → (a || (b || false)) ≡ (b || a)
    turned true true = refl
    turned true false = refl
    turned false true = refl
    turned false false = refl

pub any_name : {S : Type 0} (s : HashSet (List ℕ) S) (name : List ℕ) → contains bytes_eq s name ≡ list_any (bytes_eq name) (reverse s.keys)
any_name s name = sym (any_turned (bytes_eq name) s.keys)

pub name_added : (name : List ℕ) (xs ys : List (List ℕ)) → list_any (bytes_eq name) (reverse xs) ≡ false → ys ≡ insert_key bytes_eq xs name → reverse ys ≡ name ∷ reverse xs
name_added name xs ys new is =
    let none : list_any (bytes_eq name) xs ≡ false = sym (any_turned (bytes_eq name) xs) ∙ new in
    ap reverse is ∙ ap (λ b. reverse (if b then xs else xs ++ name ∷ [])) none ∙ reverse-append xs (name ∷ [])

already_by : (a b : List ℕ) (o rest : Bool) → bytes_eq a b ≡ o → (bytes_eq a b ≡ true → rest ≡ true) → rest ≡ (bytes_eq a b || rest)
already_by a b true rest is h = h is ∙ sym (ap (λ x. x || rest) is)
already_by a b false rest is h = sym (ap (λ x. x || rest) is)

-- A name that is there already changes nothing.
pub has_already : (name q : List ℕ) (xs : List (List ℕ)) → list_any (bytes_eq name) xs ≡ true → list_any (bytes_eq q) xs ≡ (bytes_eq q name || list_any (bytes_eq q) xs)
has_already name q xs has =
    already_by q name (bytes_eq q name) (list_any (bytes_eq q) xs) refl (λ same. ap (λ (n : List ℕ). list_any (bytes_eq n) xs) ((bytes_decides q name).0 same) ∙ has)
