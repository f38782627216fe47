-- What a cell's calls tell a thread. Nothing here names what lies under the lock: it is said of what the thread has seen of the history.
use Rattle.sl_cell.specs.Leads.{IsEntry}
use Rattle.sl_cell.specs.Parts.{calls_of}
use Rattle.sl_cell.specs.Seats.{SeatState}
use Rattle.sl_cell.specs.declared.part.Part.{Part}
use Rattle.sl_book.specs.Logs.{entries}
use Rattle.sl_book.specs.Seats.{HasSeen}
use Rattle.sl_cell.specs.Histories.{Signed, trace_of}
use Rattle.sl_trace.specs.Traces.{Setting, is_expected}
use Rattle.sl_trace.specs.WatchdogConnections.{connections, test_holds}
use Rattle.sl_trace.specs.declared.effects.Call.{Call}
use Rattle.sl_trace.specs.declared.effects.Effects.{Effects}
use Rattle.sl_trace.specs.declared.input.Input.{Input}
use Rattle.std.specs.Prelude.{Bool, List, None, Option, Some, false, length, slice_get, [], ℕ, ◌++◌, ◌+◌, ◌∷◌, ◌≡◌}
use mathlib.Core.List.{IsPrefix}

-- The seat gave the input: its entry is the last of the history that the seat has seen now, which begins with all that it had seen, and the
-- seat has counted it.
pub record Gave (s s' : SeatState) (now : ℕ) (i : Input) (fx : Effects) : Type 0 where
  pub past : List Signed
  pub entry : Signed
  pub is : IsEntry s.by now i entry
  pub told : entry.entry.effects ≡ fx
  pub before : IsPrefix s.front past
  pub front : s'.front ≡ past ++ entry ∷ []
  pub by : s'.by ≡ s.by
  pub count : s'.count ≡ s.count + 1
  pub taken : s'.taken ≡ s.taken

-- The input answers nothing that is open in the history that the seat has seen now.
pub record IsUnasked (st : Setting) (s s' : SeatState) (i : Input) : Type 0 where
  pub seen : HasSeen s s'
  pub taken : s'.taken ≡ s.taken
  pub unasked : is_expected st (trace_of s'.front) i ≡ false

-- The next call of the part was taken.
pub record Took (part : Part) (s s' : SeatState) (c : Call) : Type 0 where
  pub seen : HasSeen s s'
  pub call : slice_get (calls_of part (entries s'.front)) s.taken ≡ Some c
  pub taken : s'.taken ≡ s.taken + 1

-- All calls of the part were taken.
pub record TookAll (part : Part) (s s' : SeatState) : Type 0 where
  pub seen : HasSeen s s'
  pub all : s.taken ≡ length (calls_of part (entries s'.front))
  pub taken : s'.taken ≡ s.taken

abbrev pub IsTaken : Part → SeatState → SeatState → Option Call → Type 0
IsTaken part s s' (Some c) = Took part s s' c
IsTaken part s s' None = TookAll part s s'

-- The watchdog daemon's test of the connections that the history leaves which the seat has seen now.
pub record IsTested (st : Setting) (s s' : SeatState) (now : ℕ) (answer : Bool) : Type 0 where
  pub seen : HasSeen s s'
  pub taken : s'.taken ≡ s.taken
  pub tested : test_holds (connections st (trace_of s'.front)) now ≡ answer
