-- What one machine came to that ran alone, compared with what the script gave it.
use Rattle.sl_book.specs.Closings.{AreBelow, AreExact}
use Rattle.sl_book.specs.Logs.{given_by}
use Rattle.sl_book.specs.Mails.{IsReading, LedgerState}
use Rattle.sl_book.specs.Seats.{SeatState}
use Rattle.sl_book.specs.declared.mail.Reading.{Reading}
use Rattle.sl_live_lines.specs.declared.given_lines.GivenLine.{GivenLine}
use Rattle.sl_live_machine.specs.declared.machine.Ran.{Ran}
use Rattle.sl_live_run.specs.Runs.{remains_of}
use Rattle.sl_live_run.specs.Settling.{come_to, remains_after}
use Rattle.sl_live_run.specs.declared.compare.LiveDiffer.{LiveDiffer}
use Rattle.sl_live_run.specs.declared.compare.LiveStop.TheVariants.{Differ, NoMemory}
use Rattle.sl_live_run.specs.declared.compare.LiveStop.{LiveStop}
use Rattle.sl_live_run.specs.declared.compare.Settled.TheVariants.{Case}
use Rattle.sl_live_run.specs.declared.machine_runs.Machine.{Machine}
use Rattle.sl_live_run.specs.declared.run.LiveRun.{LiveRun}
use Rattle.sl_output.specs.Outputs.{IsPut}
use Rattle.sl_output.specs.Pieces.{Piece}
use Rattle.std.specs.Prelude.{All, Bool, Err, IfErr, IfOk, List, Ok, Option, Result, Some, false, length, map, [], ℕ, ◌++◌, ◌+◌, ◌∷◌, ◌≡◌, ◌⊎◌}

-- It has a whole history, has read all its lines, and was given so many replies.
pub record IsSettled {O T A P : Type 0} (early : Bool) (l : LedgerState GivenLine) (r : Ran O T A P) (replies : ℕ) : Type 0 where
  pub in_time : early ≡ false
  pub ended : r.end ≡ Ok tt
  pub read : given_by r.reader.by r.reader.front ≡ given_by r.reader.by l.front
  pub count : replies ≡ r.replies

-- These pieces are just those that it put, and the script's thread; and none was put at the places before.
pub record ArePieces {O T A P : Type 0} (w : SeatState (List ℕ)) (place : ℕ) (r : Ran O T A P) (pieces : List Piece) : Type 0 where
  pub before : List (SeatState (List ℕ))
  pub counted : length before ≡ place
  pub none : All (λ s. s.count ≡ 0) before
  pub exact : AreExact 0 (before ++ r.writer ∷ w ∷ []) pieces
  pub below : AreBelow (place + 2) pieces

-- Why it has no history: a case of this machine, as it was read, or want of memory.
pub record IsCaseOf {O T A P : Type 0} (early : Bool) (l : LedgerState GivenLine) (r : Ran O T A P) (d : LiveDiffer) : Type 0 where
  pub reading : Reading
  pub read : IsReading reading r.reader l
  pub case_is : come_to early reading r.end (r.entries + 1) ≡ Case d

abbrev pub Stops : {O T A P : Type 0} → Bool → ℕ → LedgerState GivenLine → Ran O T A P → LiveStop → Type 0
Stops early number l r (Differ machine d) = (machine ≡ number) × IsCaseOf early l r d
Stops early number l r NoMemory = Unit {0}

-- What it comes to where not all pieces are known.
abbrev pub without_pieces : Result ℕ LiveStop → Result ℕ LiveStop
without_pieces (Ok n) = Err NoMemory
without_pieces (Err s) = Err s

-- What is left of it, once its threads have all ended.
pub record HasLeftOwn {K C P V A O T : Type 0} (early : Bool) (number place : ℕ) (l : LedgerState GivenLine) (w : SeatState (List ℕ)) (m : Machine C P V A O T) (taken now : Option (List ℕ))
    (faults later : ℕ) (r : LiveRun K A P) : Type 0 where
  pub pieces : List Piece
  pub put : IsPut taken now faults later pieces r.cut
  pub one : r.machines ≡ 1
  pub ok : IfOk r.replies (λ n. (ran : Ran O T A P) × (m.ran ≡ Some ran) × IsSettled early l ran n × ArePieces w place ran pieces × (map remains_of r.remains.items ≡ remains_after ran ∷ []))
  pub stop : IfErr r.replies (λ s. (s ≡ NoMemory) ⊎ ((ran : Ran O T A P) × (m.ran ≡ Some ran) × Stops early number l ran s))
