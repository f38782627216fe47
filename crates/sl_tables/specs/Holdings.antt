-- Holdings, and which of them are sought.
use Rattle.sl_tables.specs.Rising.{RisingState}
use Rattle.sl_tables.specs.declared.holdings.Holder.TheVariants.{Above, Anyone, Is, IsNot}
use Rattle.sl_tables.specs.declared.holdings.Holder.{Holder}
use Rattle.sl_tables.specs.declared.holdings.Sought.{Sought}
use Rattle.sl_trace.specs.Traces.{is_shared, same_place}
use Rattle.sl_trace.specs.declared.effects.Grant.{Grant}
use Rattle.sl_trace.specs.declared.effects.Mode.{Mode}
use Rattle.sl_trace.specs.declared.effects.Spot.{Spot}
use Rattle.sl_words.specs.Words.{choose, least, same_truth}
use Rattle.std.specs.List.{AllByRecursion}
use Rattle.std.specs.Option.{option_map_or}
use Rattle.std.specs.Prelude.{Bool, List, None, Option, Some, cond, filter, find, map, min, nat_lt, not, option_map, true, [], ℕ, ◌&&◌, ◌<◌, ◌==◌, ◌∷◌, ◌≡◌, ◌≤◌}

-- Those that are held, in the order of their grants; how many grants there have been; for how many more there is memory.
pub record HoldingsState : Type 0 where
  pub held : List Grant
  pub next : ℕ
  pub room : ℕ

-- Whether this process is one of those sought.
abbrev pub is_holder : Holder → ℕ → Bool
is_holder Anyone p = true
is_holder (Is q) p = p == q
is_holder (IsNot q) p = not (p == q)
is_holder (Above q) p = nat_lt q p

-- Whether the holding is on the area.
abbrev pub is_held_at : Spot → Grant → Bool
is_held_at at g = same_place g.path g.offset at.path at.base

-- Whether it is in this mode.
abbrev pub is_in_mode : Mode → Grant → Bool
is_in_mode m g = same_truth (is_shared m) (is_shared g.mode)

-- Whether a holding is one of those sought.
abbrev pub fits : Sought → Grant → Bool
fits s g =
    is_holder s.holder g.process
    && option_map_or (λ n. g.session == n) s.session true
    && option_map_or (λ m. is_in_mode m g) s.mode true
    && option_map_or (λ at. is_held_at at g) s.spot true

-- The holdings on an area, and those of a process.
abbrev pub sought_at : Spot → Sought
sought_at at = record { holder = Anyone; session = None; spot = Some at; mode = None }

abbrev pub sought_of : ℕ → Sought
sought_of p = record { holder = Is p; session = None; spot = None; mode = None }

-- The least process of those that fit.
abbrev pub least_holder : Sought → List Grant → Option ℕ
least_holder s held = least (map (λ g. g.process) (filter (fits s) held))

-- The process of what stands in a slot, if that fits.
abbrev pub holder_in : Sought → Option (ℕ × Option Grant) → Option ℕ
holder_in s None = None
holder_in s (Some (n, None)) = None
holder_in s (Some (n, Some g)) = choose (fits s g) g.process

-- The holdings without the first that fits.
abbrev pub without_first : (Grant → Bool) → List Grant → List Grant
without_first p [] = []
without_first p (g ∷ held) = cond (p g) held (g ∷ without_first p held)

-- The lesser of two numbers, where they are there.
abbrev pub sooner : Option ℕ → Option ℕ → Option ℕ
sooner None b = b
sooner (Some a) None = Some a
sooner (Some a) (Some b) = Some (min a b)

-- ---- where a search begins

-- What is noted of those sought: of their area, else of their process; a search for others begins at the start.
abbrev pub noted_first : Sought → (Spot → Option ℕ) → (ℕ → Option ℕ) → Option ℕ
noted_first s areas processes = elim s.spot [ Some at ↦ areas at | None ↦ noted_of s.holder processes ]
  where
    noted_of : Holder → (ℕ → Option ℕ) → Option ℕ
    noted_of (Is p) processes = processes p
    noted_of holder processes = Some 0

-- Whether this number is noted, or one below it.
abbrev pub Leads : ℕ → Option ℕ → Type 0
Leads n None = ⊥
Leads n (Some first) = first ≤ n

-- Of each key a number is noted that none of the elements which have the key is below.
abbrev pub AreLed : {K : Type 0} → (K → Grant → Bool) → (K → Option ℕ) → List (ℕ × Grant) → Type 0
AreLed {K} has noted items = (k : K) → AllByRecursion (λ p. has k p.1 ≡ true → Leads p.0 (noted k)) items

-- All that are noted are below this number.
abbrev pub AreNotedBelow : {K : Type 0} → ℕ → (K → Option ℕ) → Type 0
AreNotedBelow {K} n noted = (k : K) (first : ℕ) → noted k ≡ Some first → first < n

-- An index of these elements, with memory for so many more keys: numbers of elements to come are at or above `next`.
abbrev pub IsIndex : {K : Type 0} → (K → Grant → Bool) → (K → Option ℕ) → ℕ → RisingState Grant → Type 0
IsIndex has noted more held = AreLed has noted held.items × AreNotedBelow held.next noted × (held.room ≤ more)

-- Whether a holding is of this process.
abbrev pub is_of_process : ℕ → Grant → Bool
is_of_process p g = g.process == p

-- The number of the first that is on an area, and of the first of a process.
abbrev pub first_at : Spot → List (ℕ × Grant) → Option ℕ
first_at at items = option_map (λ p. p.0) (find (λ p. is_held_at at p.1) items)

abbrev pub first_of : ℕ → List (ℕ × Grant) → Option ℕ
first_of p items = option_map (λ q. q.0) (find (λ q. is_of_process p q.1) items)
