-- Short words on lists and options that std has no name for.
use Rattle.std.specs.List.{last_or, list_all}
use Rattle.std.specs.Prelude.{Bool, List, None, Option, Some, false, filter_map, max, min, not, slice_get, true, [], ℕ, ◌==◌, ◌∷◌}

-- The last element, if there is one.
abbrev pub last_of : {A : Type 0} → List A → Option A
last_of xs = last_or None xs

-- The first element, if there is one.
abbrev pub first_of_list : {A : Type 0} → List A → Option A
first_of_list xs = slice_get xs 0

-- The first that f gives.
abbrev pub first_given : {A B : Type 0} → (A → Option B) → List A → Option B
first_given f [] = None
first_given f (x ∷ xs) = elim (f x) [ Some b ↦ Some b | None ↦ first_given f xs ]

-- The elements that are there.
abbrev pub present : {A : Type 0} → List (Option A) → List A
present xs = filter_map (λ x. x) xs

-- The greatest of the numbers, and 0 where there is none.
abbrev pub greatest : List ℕ → ℕ
greatest [] = 0
greatest (x ∷ xs) = max x (greatest xs)

-- The least of the numbers, if there is one.
abbrev pub least : List ℕ → Option ℕ
least [] = None
least (x ∷ xs) = elim (least xs) [ None ↦ Some x | Some y ↦ Some (min x y) ]

-- Whether the value is there and passes.
abbrev pub some_is : {A : Type 0} → (A → Bool) → Option A → Bool
some_is p None = false
some_is p (Some a) = p a

-- The value, where the test holds.
abbrev pub choose : {A : Type 0} → Bool → A → Option A
choose true a = Some a
choose false a = None

-- Whether the two truths are one.
abbrev pub same_truth : Bool → Bool → Bool
same_truth true b = b
same_truth false b = not b

-- Whether every byte is zero.
abbrev pub all_zero : List ℕ → Bool
all_zero bs = list_all (λ b. b == 0) bs

-- Whether a list has no element.
abbrev pub is_empty : {A : Type 0} → List A → Bool
is_empty [] = true
is_empty (x ∷ xs) = false
