-- Why counts and a history differ.
use Rattle.sl_book.specs.Closings.{EntriesDiffer}
use Rattle.sl_cell.specs.Cells.{KeptState}
use Rattle.sl_cell.specs.Closings.{DiffersSo, IsCase, IsCaseOfSome, IsTorn}
use Rattle.sl_cell.specs.Histories.{Signed, trace_of}
use Rattle.sl_cell.specs.Seats.{SeatState}
use Rattle.sl_cell.specs.declared.closing.Differ.TheVariants.{Broken, Entry}
use Rattle.sl_cell.specs.declared.closing.Differ.{Differ}
use Rattle.sl_trace.specs.Traces.{IsTrace, Setting}
use Rattle.std.proofs.Common.{Bool, List, length, subst, ◌≡◌}
use Rattle.std.specs.Prelude.{Err, IfErr, Ok, OnOk, Result}

pub case_of : {T : Type 0} (k : KeptState) (seats : List SeatState) (mine h : List Signed) (r : Result T Differ) → h ≡ k.history → IfErr r (DiffersSo seats h) → IfErr r (IsCase k seats mine)
case_of k seats mine h (Ok x) same so = tt
case_of k seats mine h (Err (Entry n counted)) same so = subst (λ (xs : List Signed). (n ≡ length xs) × EntriesDiffer seats xs counted) same so
case_of k seats mine h (Err (Broken n)) same so = absurd so

pub case_of_some : {T : Type 0} (st : Setting) (k : KeptState) (seats : List SeatState) (mine : List Signed) (r : Result T Differ) → IsTrace st (trace_of k.history)
    → IfErr r (IsCase k seats mine) → IfErr r (IsCaseOfSome st seats mine)
case_of_some st k seats mine (Ok x) trace so = tt
case_of_some st k seats mine (Err d) trace so = (k, trace, so)

pub torn_of : (k : KeptState) (whole : Bool) (all handed mine : List Signed) → whole ≡ k.whole → all ≡ k.history → handed ≡ k.handed → IsTorn whole all handed mine
    → IsTorn k.whole k.history k.handed mine
torn_of k whole all handed mine same here there so =
    subst (λ (b : Bool). IsTorn b k.history k.handed mine) same (subst (λ (xs : List Signed). IsTorn whole xs k.handed mine) here (subst (λ (xs : List Signed). IsTorn whole all xs mine) there so))

pub on_ok : {T E : Type 0} (r : Result T E) (P : Type 0) → P → OnOk r P
on_ok (Ok x) P p = p
on_ok (Err e) P p = tt
