-- When the counts of all threads make up a history, and what holds where they do not.
use Rattle.sl_cell.specs.Cells.{KeptState}
use Rattle.sl_cell.specs.Seats.{SeatState}
use Rattle.sl_cell.specs.declared.closing.Differ.TheVariants.{Broken, Entry}
use Rattle.sl_cell.specs.declared.closing.Differ.{Differ}
use Rattle.sl_book.specs.Closings.{EntriesDiffer}
use Rattle.sl_cell.specs.Histories.{Signed, trace_of}
use Rattle.sl_trace.specs.Traces.{IsTrace, Setting}
use Rattle.std.specs.Prelude.{Bool, List, false, length, ◌≡◌, ◌⊎◌}

-- A case with what it tells of the seats alone.
abbrev pub DiffersSo : List SeatState → List Signed → Differ → Type 0
DiffersSo seats h (Entry length_is counted) = (length_is ≡ length h) × EntriesDiffer seats h counted
DiffersSo seats h (Broken length_is) = ⊥

-- The daemon does not stand for the history, or this front is not what was handed out, or it is not all of the history.
abbrev pub IsTorn : Bool → List Signed → List Signed → List Signed → Type 0
IsTorn whole h handed mine = (whole ≡ false) ⊎ ((handed ≡ mine → ⊥) ⊎ (h ≡ mine → ⊥))

-- Each case with what it tells of seats and history.
abbrev pub IsCase : KeptState → List SeatState → List Signed → Differ → Type 0
IsCase k seats mine (Entry length_is counted) = (length_is ≡ length k.history) × EntriesDiffer seats k.history counted
IsCase k seats mine (Broken length_is) = (length_is ≡ length k.history) × IsTorn k.whole k.history k.handed mine

-- A case holds of these seats and this front, and of a history that the daemon could have.
abbrev pub IsCaseOfSome : Setting → List SeatState → List Signed → Differ → Type 0
IsCaseOfSome st seats mine d = (k : KeptState) × IsTrace st (trace_of k.history) × IsCase k seats mine d
