-- Logs: the oldest element stands first.
use Rattle.sl_book.specs.declared.signed.Signed.{Signed}
use Rattle.std.specs.Prelude.{Bool, List, filter, map, [], ℕ, ◌==◌, ◌∷◌, ◌≡◌, ◌⊎◌}

-- What was given, without who gave it.
abbrev pub entries : {E : Type 0} → List (Signed E) → List E
entries {E} h = map (λ (s : Signed E). s.entry) h

-- Whether the one with this number gave it.
abbrev pub is_by : {E : Type 0} → ℕ → Signed E → Bool
is_by by s = s.by == by

-- The elements of this number.
abbrev pub given_by : {E : Type 0} → ℕ → List (Signed E) → List (Signed E)
given_by by h = filter (is_by by) h

-- The first list stands in the second, in its order, perhaps with others between.
abbrev pub IsWithin : {A : Type 0} → List A → List A → Type 0
IsWithin [] ys = Unit {0}
IsWithin (x ∷ xs) [] = ⊥
IsWithin (x ∷ xs) (y ∷ ys) = ((x ≡ y) × IsWithin xs ys) ⊎ IsWithin (x ∷ xs) ys
