-- What a thread knows and counts of a log.
use Rattle.sl_book.specs.Logs.{IsWithin, entries, given_by}
use Rattle.sl_book.specs.declared.signed.Signed.{Signed}
use Rattle.std.specs.Prelude.{List, length, ℕ, ◌≡◌}
use mathlib.Core.List.{IsPrefix}

-- A thread's number, how many elements it gave, how many things it took, and how much of the log it has seen.
pub record SeatState (E : Type 0) : Type 0 where
  pub by : ℕ
  pub count : ℕ
  pub taken : ℕ
  pub front : List (Signed E)

-- These are what the seat gave, in order: as many as it counted, and each stands in what it has seen.
pub record IsMine {E : Type 0} (s : SeatState E) (made : List E) : Type 0 where
  pub count : s.count ≡ length made
  pub there : IsWithin made (entries (given_by s.by s.front))

-- The seat has seen as much of the log as before, or more.
pub record HasSeen {E : Type 0} (s s' : SeatState E) : Type 0 where
  pub before : IsPrefix s.front s'.front
  pub by : s'.by ≡ s.by
  pub count : s'.count ≡ s.count
