-- When the counts of all seats make up a log, and what holds where they do not.
use Rattle.sl_book.specs.Logs.{given_by}
use Rattle.sl_book.specs.Seats.{SeatState}
use Rattle.sl_book.specs.declared.signed.Signed.{Signed}
use Rattle.std.specs.Prelude.{List, length, [], ℕ, ◌+◌, ◌<◌, ◌∷◌, ◌≡◌, ◌≤◌, ◌⊎◌}
use mathlib.Core.List.{IsPrefix}

-- Each element has one of the numbers below this one.
abbrev pub AreBelow : {E : Type 0} → ℕ → List (Signed E) → Type 0
AreBelow n [] = Unit {0}
AreBelow n (e ∷ es) = (e.by < n) × AreBelow n es

-- The seats have their places as numbers, counted from k, and each has counted just the elements of its number.
abbrev pub AreExact : {E : Type 0} → ℕ → List (SeatState E) → List (Signed E) → Type 0
AreExact k [] h = Unit {0}
AreExact k (s ∷ ss) h = ((s.by ≡ k) × IsPrefix s.front h × (s.count ≡ length (given_by k h))) × AreExact (k + 1) ss h

-- The seats have their places as numbers, counted from k, and none has counted more than the elements of its number.
abbrev pub AreSeen : {E : Type 0} → ℕ → List (SeatState E) → List (Signed E) → Type 0
AreSeen k [] h = Unit {0}
AreSeen k (s ∷ ss) h = ((s.by ≡ k) × IsPrefix s.front h × (s.count ≤ length (given_by k h))) × AreSeen (k + 1) ss h

abbrev pub counts : {E : Type 0} → List (SeatState E) → ℕ
counts [] = 0
counts (s ∷ ss) = s.count + counts ss

-- The seat has this number, and has seen no more than this.
pub record IsSeatOf {E : Type 0} (k : ℕ) (s : SeatState E) (h : List (Signed E)) : Type 0 where
  pub by : s.by ≡ k
  pub seen : length s.front ≤ length h

-- One of the seats has not its place as its number, counted from k, or has seen more.
abbrev pub IsSomeApart : {E : Type 0} → ℕ → List (SeatState E) → List (Signed E) → Type 0
IsSomeApart k [] h = ⊥
IsSomeApart k (s ∷ ss) h = (IsSeatOf k s h → ⊥) ⊎ IsSomeApart (k + 1) ss h

-- Numbers that are not one: the seats fit and their counts are not the log's length, or a seat does not fit.
abbrev pub EntriesDiffer : {E : Type 0} → List (SeatState E) → List (Signed E) → ℕ → Type 0
EntriesDiffer seats h counted = (AreSeen 0 seats h × (counted ≡ counts seats) × (counted ≡ length h → ⊥)) ⊎ ((counted ≡ 0) × IsSomeApart 0 seats h)
