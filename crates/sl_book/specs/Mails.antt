-- A log that one writes, and others read their own elements of.
use Rattle.sl_book.specs.Books.{IsLonger}
use Rattle.sl_book.specs.Logs.{given_by}
use Rattle.sl_book.specs.declared.mail.Reading.TheVariants.{All, Apart, Part}
use Rattle.sl_book.specs.declared.mail.Reading.{Reading}
use Rattle.sl_book.specs.declared.signed.Signed.{Signed}
use Rattle.std.specs.Prelude.{List, length, [], ℕ, ◌++◌, ◌+◌, ◌<◌, ◌∷◌, ◌≡◌, ◌≤◌, ◌⊎◌}
use mathlib.Core.List.{IsPrefix}

-- These are how many elements of each number the log has, counted from k.
abbrev pub AreCounts : {E : Type 0} → ℕ → List ℕ → List (Signed E) → Type 0
AreCounts k [] h = Unit {0}
AreCounts k (c ∷ cs) h = (c ≡ length (given_by k h)) × AreCounts (k + 1) cs h

-- The log, and of how many numbers its elements are counted: of those below this one.
pub record LedgerState (E : Type 0) : Type 0 where
  pub front : List (Signed E)
  pub places : ℕ

-- An element with its number, and the beginning of the log that it ends.
pub record PostedState (E : Type 0) : Type 0 where
  pub by : ℕ
  pub element : E
  pub front : List (Signed E)

-- Who reads the elements of a number: how many it has read, and how much of the log it has seen.
pub record ReaderState (E : Type 0) : Type 0 where
  pub by : ℕ
  pub count : ℕ
  pub front : List (Signed E)

-- The element is the last of this, and so many of its number came before it.
pub record IsLast {E : Type 0} (index : ℕ) (s : Signed E) (h : List (Signed E)) : Type 0 where
  pub past : List (Signed E)
  pub front : h ≡ past ++ s ∷ []
  pub came : index ≡ length (given_by s.by past)

-- The element is the next one of the reader's number, behind all that the reader has seen.
pub record IsNext {E : Type 0} (r : ReaderState E) (p : PostedState E) : Type 0 where
  pub by : p.by ≡ r.by
  pub longer : IsLonger r.front p.front
  pub given : given_by r.by p.front ≡ given_by r.by r.front ++ record { by = p.by; entry = p.element } ∷ []

-- How much of the elements of its number a reader has read: all, the first ones and not all; or they are not counted, or it has seen more than this log.
abbrev pub IsReading : {E : Type 0} → Reading → ReaderState E → LedgerState E → Type 0
IsReading All r l = IsPrefix r.front l.front × (given_by r.by r.front ≡ given_by r.by l.front)
IsReading Part r l = IsPrefix r.front l.front × (length (given_by r.by r.front) < length (given_by r.by l.front))
IsReading Apart r l = (l.places ≤ r.by) ⊎ (length l.front < length r.front)
