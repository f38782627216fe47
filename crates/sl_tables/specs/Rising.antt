-- Elements by numbers that rise.
use Rattle.sl_words.specs.Words.{choose}
use Rattle.std.specs.List.{AllByRecursion}
use Rattle.std.specs.Prelude.{Bool, List, None, Option, Some, [], cond, filter_map, is_some, map, nat_eq, option_map, ℕ, ◌+◌, ◌<◌, ◌∷◌}

-- What stands, by number, the least first; above which number the next is; for how many more there is memory; how many gaps there are.
pub record RisingState (T : Type 0) : Type 0 where
  pub items : List (ℕ × T)
  pub next : ℕ
  pub room : ℕ
  pub gaps : ℕ

-- An element with its number, if it stands.
abbrev pub standing : {T : Type 0} → ℕ × Option T → Option (ℕ × T)
standing p = option_map (λ x. (p.0, x)) p.1

-- What stands in these slots.
abbrev pub items_of : {T : Type 0} → List (ℕ × Option T) → List (ℕ × T)
items_of slots = filter_map standing slots

-- Whether a slot has an element.
abbrev pub is_full : {T : Type 0} → ℕ × Option T → Bool
is_full p = is_some p.1

-- Gaps among them.
abbrev pub gaps_in : {T : Type 0} → List (ℕ × Option T) → ℕ
gaps_in [] = 0
gaps_in ((n, None) ∷ slots) = gaps_in slots + 1
gaps_in ((n, Some x) ∷ slots) = gaps_in slots

-- All numbers are below this one.
abbrev pub AreBelow : {V : Type 0} → ℕ → List (ℕ × V) → Type 0
AreBelow n slots = AllByRecursion (λ p. p.0 < n) slots

-- Numbers rise.
abbrev pub AreRising : {V : Type 0} → List (ℕ × V) → Type 0
AreRising [] = Unit {0}
AreRising (p ∷ ps) = AllByRecursion (λ q. p.0 < q.0) ps × AreRising ps

-- The number of what stands in a slot, if that passes the test.
abbrev pub found_in : {T : Type 0} → (ℕ × T → Bool) → Option (ℕ × Option T) → Option ℕ
found_in p None = None
found_in p (Some (n, None)) = None
found_in p (Some (n, Some x)) = choose (p (n, x)) n

-- A change of the element of this number.
abbrev pub altered : {T : Type 0} → ℕ → (T → T) → List (ℕ × T) → List (ℕ × T)
altered n f items = map (λ p. cond (nat_eq n p.0) (p.0, f p.1) p) items
