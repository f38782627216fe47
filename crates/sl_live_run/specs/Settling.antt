-- What machines came to, compared with what the script gave them.
use Rattle.sl_book.specs.Logs.{given_by}
use Rattle.sl_book.specs.Closings.{AreBelow, AreExact}
use Rattle.sl_book.specs.Mails.{IsReading, LedgerState}
use Rattle.sl_book.specs.Seats.{SeatState}
use Rattle.sl_book.specs.declared.mail.Reading.TheVariants as reading
use Rattle.sl_book.specs.declared.mail.Reading.{Reading}
use Rattle.sl_live_lines.specs.declared.audit.Left.TheVariants.{Call as CallLeft, Line as LineLeft, Start as StartLeft}
use Rattle.sl_live_lines.specs.declared.audit.Left.{Left as LeftOf}
use Rattle.sl_live_lines.specs.declared.given_lines.GivenLine.{GivenLine}
use Rattle.sl_live_machine.specs.declared.machine.CloseError.TheVariants as close
use Rattle.sl_live_machine.specs.declared.machine.CloseError.{CloseError}
use Rattle.sl_live_machine.specs.declared.machine.Ran.{Ran}
use Rattle.sl_live_run.specs.Runs.{Leavings, remains_of}
use Rattle.sl_live_run.specs.declared.run.Remains.{Remains}
use Rattle.sl_live_run.specs.declared.compare.LiveDiffer.TheVariants.{Cell, Left, Line, Untold}
use Rattle.sl_live_run.specs.declared.compare.LiveDiffer.{LiveDiffer}
use Rattle.sl_live_run.specs.declared.compare.LiveStop.TheVariants.{Differ, NoMemory}
use Rattle.sl_live_run.specs.declared.compare.LiveStop.{LiveStop}
use Rattle.sl_live_run.specs.declared.compare.Settled.TheVariants.{Case, Lost, Whole}
use Rattle.sl_live_run.specs.declared.compare.Settled.{Settled}
use Rattle.sl_live_run.specs.declared.machine_runs.Machine.{Machine}
use Rattle.sl_live_run.specs.declared.run.LiveRun.{LiveRun}
use Rattle.sl_output.specs.Outputs.{IsPut}
use Rattle.sl_output.specs.Pieces.{Piece}
use Rattle.std.specs.List.{sum_by}
use Rattle.std.specs.Prelude.{Bool, Err, IfErr, IfOk, List, Ok, Option, Result, Some, false, length, map, slice_get, true, [], ℕ, ◌++◌, ◌+◌, ◌∷◌, ◌≡◌, ◌⊎◌}

-- The case of what is left at the end of a history, behind whose last entry this number comes.
abbrev pub left_case : LeftOf → ℕ → LiveDiffer
left_case LineLeft next = Line next
left_case (CallLeft number call) next = Left number call
left_case (StartLeft number process) next = Untold number process

-- What a machine comes to that ended so, whose printer has met all of the script's lines, or the first ones.
abbrev pub settled : Reading → Result Unit CloseError → ℕ → Settled
settled r (Err (close.Differ d)) next = Case (Cell d)
settled r (Err close.NoMemory) next = Lost
settled reading.All (Err (close.Line number)) next = Case (Line number)
settled reading.Part (Err (close.Line number)) next = Case (Line number)
settled reading.Apart (Err (close.Line number)) next = Lost
settled reading.All (Err (close.Left left)) next = Case (left_case left next)
settled reading.Part (Err (close.Left left)) next = Case (Line next)
settled reading.Apart (Err (close.Left left)) next = Lost
settled reading.All (Ok u) next = Whole
settled reading.Part (Ok u) next = Case (Line next)
settled reading.Apart (Ok u) next = Lost

-- .. that ended too soon.
abbrev pub settled_early : Reading → Result Unit CloseError → Settled
settled_early r (Err (close.Differ d)) = Case (Cell d)
settled_early reading.All (Err (close.Line number)) = Case (Line number)
settled_early reading.Part (Err (close.Line number)) = Case (Line number)
settled_early reading.Apart (Err (close.Line number)) = Lost
settled_early r (Err (close.Left left)) = Lost
settled_early r (Err close.NoMemory) = Lost
settled_early r (Ok u) = Lost

-- What a machine comes to, where threads ended too soon or not.
abbrev pub come_to : Bool → Reading → Result Unit CloseError → ℕ → Settled
come_to true r end next = settled_early r end
come_to false r end next = settled r end next

-- All have whole histories and have read all their lines, and were given so many replies together.
pub record AreSettled {O T A P : Type 0} (l : LedgerState GivenLine) (rans : List (Ran O T A P)) (replies : ℕ) : Type 0 where
  pub each : (place : ℕ) (r : Ran O T A P) → slice_get rans place ≡ Some r → (r.end ≡ Ok tt) × (given_by r.reader.by r.reader.front ≡ given_by r.reader.by l.front)
  pub count : replies ≡ sum_by (λ (r : Ran O T A P). r.replies) rans

-- What is left of a machine's run: its disks and its spawners.
abbrev pub remains_after : {O T A P : Type 0} → Ran O T A P → Leavings A P
remains_after r = ((r.delta.items, r.resource.items), r.spawners)

-- .. and threads ended in time, and these pieces are just those that they put, and the script's thread, and this is what they left.
pub record AreWhole {O T A P : Type 0} (early : Bool) (l : LedgerState GivenLine) (w : SeatState (List ℕ)) (rans : List (Ran O T A P)) (pieces : List Piece) (remains : List (Remains A P))
    (replies : ℕ) : Type 0 where
  pub in_time : early ≡ false
  pub settled : AreSettled l rans replies
  pub exact : AreExact 0 (map (λ (r : Ran O T A P). r.writer) rans ++ w ∷ []) pieces
  pub below : AreBelow (length rans + 1) pieces
  pub remains_are : map remains_of remains ≡ map (λ (r : Ran O T A P). remains_after r) rans

-- The case is that of the machine at this place, as it was read.
pub record IsCaseOf {O T A P : Type 0} (early : Bool) (l : LedgerState GivenLine) (rans : List (Ran O T A P)) (machine : ℕ) (d : LiveDiffer) : Type 0 where
  pub place : ℕ
  pub ran : Ran O T A P
  pub reading : Reading
  pub numbered : machine ≡ place + 1
  pub there : slice_get rans place ≡ Some ran
  pub read : IsReading reading ran.reader l
  pub case_is : come_to early reading ran.end (ran.entries + 1) ≡ Case d

-- Why there are no histories: a case of a machine, or want of memory.
abbrev pub StopsSome : {O T A P : Type 0} → Bool → LedgerState GivenLine → List (Ran O T A P) → LiveStop → Type 0
StopsSome early l rans (Differ machine d) = IsCaseOf early l rans machine d
StopsSome early l rans NoMemory = Unit {0}

-- These are what is left of these machines, which all have run.
abbrev pub AreRansOf : {C P V A O T : Type 0} → List (Machine C P V A O T) → List (Ran O T A P) → Type 0
AreRansOf {C} {P} {V} {A} {O} {T} machines rans = map (λ (m : Machine C P V A O T). m.ran) machines ≡ map (λ r. Some r) rans

-- So many replies were given to machines that have whole histories.
abbrev pub AreAllWhole : {C P V A O T : Type 0} → Bool → LedgerState GivenLine → SeatState (List ℕ) → List (Machine C P V A O T) → List Piece → List (Remains A P) → ℕ → Type 0
AreAllWhole {C} {P} {V} {A} {O} {T} early l w machines pieces disks n = (rans : List (Ran O T A P)) × AreRansOf machines rans × AreWhole early l w rans pieces disks n

-- Why machines have no histories.
abbrev pub StopsOne : {C P V A O T : Type 0} → Bool → LedgerState GivenLine → List (Machine C P V A O T) → LiveStop → Type 0
StopsOne {C} {P} {V} {A} {O} {T} early l machines stop = (rans : List (Ran O T A P)) × AreRansOf machines rans × StopsSome early l rans stop

-- What is left of machines whose threads have all ended.
pub record HasLeft {K C P V A O T : Type 0} (early : Bool) (l : LedgerState GivenLine) (w : SeatState (List ℕ)) (machines : List (Machine C P V A O T)) (taken now : Option (List ℕ)) (faults later : ℕ)
    (r : LiveRun K A P) : Type 0 where
  pub pieces : List Piece
  pub put : IsPut taken now faults later pieces r.cut
  pub machines_are : r.machines ≡ length machines
  pub ok : IfOk r.replies (AreAllWhole early l w machines pieces r.remains.items)
  pub stop : IfErr r.replies (λ s. (s ≡ NoMemory) ⊎ StopsOne early l machines s)
