-- What is found in a list is in it.
use Rattle.std.proofs.Common.{ap, refl, ◌∙◌}
use Rattle.std.specs.List.{list_any}
use Rattle.std.specs.Prelude.{Bool, List, None, Some, [], cond, false, find, is_some, true, ◌∷◌, ◌||◌, ◌≡◌}

pub found_is_any : {A : Type 0} (p : A → Bool) (xs : List A) → is_some (find p xs) ≡ list_any p xs
found_is_any p [] = refl
found_is_any p (x ∷ xs) = by (p x) (found_is_any p xs)
  where
    by : (b : Bool) → is_some (find p xs) ≡ list_any p xs → is_some (cond b (Some x) (find p xs)) ≡ (b || list_any p xs)
    by true rest = refl
    by false rest = rest

-- Where one is found, and where none is.
pub one_found : {A : Type 0} (p : A → Bool) (x : A) (xs : List A) → Some x ≡ find p xs → true ≡ list_any p xs
one_found p x xs is = ap is_some is ∙ found_is_any p xs

pub none_found : {A : Type 0} (p : A → Bool) (xs : List A) → None ≡ find p xs → false ≡ list_any p xs
none_found p xs is = ap is_some is ∙ found_is_any p xs
