-- What the threads of a machine have done, by their seats, and what a run owes of them.
use Rattle.sl_book.specs.Closings.{AreBelow}
use Rattle.sl_cell.specs.Closings.{IsCaseOfSome}
use Rattle.sl_cell.specs.Parts.{calls_of}
use Rattle.sl_cell.specs.Seats.{SeatState}
use Rattle.sl_cell.specs.declared.closing.Differ.TheVariants.{Broken, Entry as Counted}
use Rattle.sl_cell.specs.declared.closing.Differ.{Differ}
use Rattle.sl_cell.specs.declared.part.Part.TheVariants.{Delta, Resource}
use Rattle.sl_cell.specs.declared.part.Part.{Part}
use Rattle.sl_book.specs.Logs.{entries, given_by}
use Rattle.sl_cell.specs.Histories.{Signed}
use Rattle.sl_live.specs.Turns.{AreServed, IsChildThread, IsDeviceThread, IsExit, IsLine, IsLineThread, IsSpawned, IsStarterThread, IsTicker, IsWake, Works}
use Rattle.sl_trace.specs.Traces.{IsTrace, Setting}
use Rattle.sl_trace.specs.declared.effects.Entry.{Entry}
use Rattle.sl_trace.specs.declared.input.Input.{Input}
use Rattle.std.specs.Prelude.{All, List, length, reverse, take, [], ℕ, ◌∷◌, ◌≡◌, ◌≤◌}

-- ---- the threads

-- The numbers of the threads.
abbrev pub ticker_number : ℕ
ticker_number = 0

abbrev pub number_of : Part → ℕ
number_of Delta = 1
number_of Resource = 2

abbrev pub children_number : ℕ
children_number = 3

abbrev pub starter_number : ℕ
starter_number = 4

abbrev pub device_number : ℕ
device_number = 5

abbrev pub lines_number : ℕ
lines_number = 6

abbrev pub thread_count : ℕ
thread_count = 7

-- The seats of a machine's threads, each with what its thread alone does.
pub record AreSeats (st : Setting) (seats : List SeatState) : Type 0 where
  pub ticker : SeatState
  pub delta : SeatState
  pub resource : SeatState
  pub children : SeatState
  pub starter : SeatState
  pub device : SeatState
  pub lines : SeatState
  pub all : seats ≡ ticker ∷ delta ∷ resource ∷ children ∷ starter ∷ device ∷ lines ∷ []
  pub wakes : IsTicker ticker
  pub delta_works : Works st Delta delta
  pub resource_works : Works st Resource resource
  pub tells_exits : IsChildThread children
  pub tells_starts : IsStarterThread starter
  pub tests : IsDeviceThread device
  pub gives_lines : IsLineThread lines

-- ---- a run

-- The entries of the thread of this number, in order.
abbrev pub entries_by : ℕ → List Signed → List Entry
entries_by by h = entries (given_by by h)

-- All that the thread of this number gave is of this kind.
abbrev pub GaveOnly : (Input → Type 0) → ℕ → List Signed → Type 0
GaveOnly IsInput by h = All (λ (e : Entry). IsInput e.input) (entries_by by h)

-- What the worker of a part gave: it answered the calls of its part in the order in which they were made, the first so many.
pub record Worked (st : Setting) (part : Part) (h : List Signed) : Type 0 where
  pub taken : ℕ
  pub most : taken ≤ length (calls_of part (entries h))
  pub serves : AreServed st h (take taken (calls_of part (entries h))) (entries_by (number_of part) h)

-- The history is the daemon's, and its entries are exactly what such threads gave, each once: there is no other.
pub record IsRun (st : Setting) (h : List Entry) : Type 0 where
  pub signed : List Signed
  pub same : entries signed ≡ h
  pub trace : IsTrace st (reverse h)
  pub by_threads : AreBelow thread_count signed
  pub wakes : GaveOnly IsWake ticker_number signed
  pub delta : Worked st Delta signed
  pub resource : Worked st Resource signed
  pub exits : GaveOnly IsExit children_number signed
  pub starts : GaveOnly IsSpawned starter_number signed
  pub tests : entries_by device_number signed ≡ []
  pub lines : GaveOnly IsLine lines_number signed

-- The seats that a case is of: those of such threads; and where the daemon does not stand for its history, any.
abbrev pub AreSeatsOf : Setting → List SeatState → Differ → Type 0
AreSeatsOf st seats (Counted length_is counted) = AreSeats st seats
AreSeatsOf st seats (Broken length_is) = Unit {0}

-- The case holds of the seats of such threads, of what was handed out, and of a history that the daemon could have.
pub record IsCaseOfRun (st : Setting) (d : Differ) : Type 0 where
  pub seats : List SeatState
  pub mine : List Signed
  pub threads : AreSeatsOf st seats d
  pub case_of : IsCaseOfSome st seats mine d
