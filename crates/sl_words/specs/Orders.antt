-- Lists in order: by number, by text, each element once.
use Rattle.std.specs.List.{list_any}
use Rattle.std.specs.Prelude.{Bool, List, false, fold, if◌then◌else◌, nat_eq, nat_lt, true, [], ℕ, ◌&&◌, ◌++◌, ◌==◌, ◌||◌, ◌∷◌}

-- Whether a text comes before another, byte by byte; a front of a text comes before it.
abbrev pub is_text_before : List ℕ → List ℕ → Bool
is_text_before [] [] = false
is_text_before [] (y ∷ ys) = true
is_text_before (x ∷ xs) [] = false
is_text_before (x ∷ xs) (y ∷ ys) = nat_lt x y || x == y && is_text_before xs ys

-- The list with x put in before the first element that it comes before.
abbrev pub put_in : {A : Type 0} → (A → A → Bool) → A → List A → List A
put_in before x [] = x ∷ []
put_in before x (y ∷ ys) = if before x y then x ∷ y ∷ ys else y ∷ put_in before x ys

-- The list in order; elements that tie stay as they stood.
abbrev pub in_order : {A : Type 0} → (A → A → Bool) → List A → List A
in_order before xs = fold (λ sorted x. put_in before x sorted) [] xs

-- The list with x at its end, where no element ties with x.
abbrev pub add_new : {A : Type 0} → (A → A → Bool) → List A → A → List A
add_new same seen x = if list_any (same x) seen then seen else seen ++ x ∷ []

-- Each element once, where it stands first.
abbrev pub once_each : {A : Type 0} → (A → A → Bool) → List A → List A
once_each same xs = fold (add_new same) [] xs

-- Each number once, in rising order.
abbrev pub rising : List ℕ → List ℕ
rising ns = in_order nat_lt (once_each nat_eq ns)
