-- What a machine came to that ran alone.
use Rattle.sl_book.specs.Closings.{AreBelow, AreExact}
use Rattle.sl_book.specs.Logs.{given_by}
use Rattle.sl_book.specs.Mails.{IsReading, LedgerState, ReaderState}
use Rattle.sl_book.specs.Seats.{SeatState}
use Rattle.sl_book.specs.declared.mail.Reading.TheVariants as reading
use Rattle.sl_book.specs.declared.mail.Reading.{Reading}
use Rattle.sl_live_lines.specs.declared.given_lines.GivenLine.{GivenLine}
use Rattle.sl_live_machine.specs.declared.machine.CloseError.TheVariants as close
use Rattle.sl_live_machine.specs.declared.machine.CloseError.{CloseError}
use Rattle.sl_live_machine.specs.declared.machine.Ran.{Ran}
use Rattle.sl_live_run.specs.Runs.{Leavings, remains_of}
use Rattle.sl_live_run.specs.Settling.{come_to, remains_after}
use Rattle.sl_live_run.specs.declared.compare.LiveDiffer.{LiveDiffer}
use Rattle.sl_live_run.specs.declared.compare.LiveStop.TheVariants.{NoMemory}
use Rattle.sl_live_run.specs.declared.compare.LiveStop.{LiveStop}
use Rattle.sl_live_run.specs.declared.compare.Settled.TheVariants.{Case, Whole}
use Rattle.sl_live_run.specs.declared.compare.Settled.{Settled}
use Rattle.sl_live_run.specs.declared.machine_runs.Machine.{Machine}
use Rattle.sl_live_run.specs.declared.run.Remains.{Remains}
use Rattle.sl_output.specs.Pieces.{Piece}
use Rattle.sl_own.specs.OwnSettling.{ArePieces, IsCaseOf, IsSettled, Stops, without_pieces}
use Rattle.std.proofs.Common.{List, ap, append_assoc, inr, length, map, refl, subst, sym, ◌++◌, ◌+◌, ◌∙◌, ◌∷◌, ◌≡◌, ◌⊎◌, [], ℕ}
use Rattle.std.proofs.lemmas.List.Elements.{All-push}
use Rattle.std.proofs.lemmas.List.{length-append}
use Rattle.std.specs.Prelude.{All, Bool, Err, IfErr, IfOk, Ok, Result, Some, false, true}

whole_only : (early : Bool) (r : Reading) (end : Result Unit CloseError) (next : ℕ) → come_to early r end next ≡ Whole → (early ≡ false) × (r ≡ reading.All) × (end ≡ Ok tt)
whole_only true r (Err (close.Differ d)) next is = absurd (cc is)
whole_only true reading.All (Err (close.Line number)) next is = absurd (cc is)
whole_only true reading.Part (Err (close.Line number)) next is = absurd (cc is)
whole_only true reading.Apart (Err (close.Line number)) next is = absurd (cc is)
whole_only true r (Err close.NoMemory) next is = absurd (cc is)
whole_only true r (Err (close.Left left)) next is = absurd (cc is)
whole_only true r (Ok tt) next is = absurd (cc is)
whole_only false r (Err (close.Differ d)) next is = absurd (cc is)
whole_only false r (Err close.NoMemory) next is = absurd (cc is)
whole_only false reading.All (Err (close.Line number)) next is = absurd (cc is)
whole_only false reading.Part (Err (close.Line number)) next is = absurd (cc is)
whole_only false reading.Apart (Err (close.Line number)) next is = absurd (cc is)
whole_only false reading.All (Err (close.Left left)) next is = absurd (cc is)
whole_only false reading.Part (Err (close.Left left)) next is = absurd (cc is)
whole_only false reading.Apart (Err (close.Left left)) next is = absurd (cc is)
whole_only false reading.All (Ok tt) next is = (refl, refl, refl)
whole_only false reading.Part (Ok tt) next is = absurd (cc is)
whole_only false reading.Apart (Ok tt) next is = absurd (cc is)

all_read : (r : Reading) (reader : ReaderState GivenLine) (l : LedgerState GivenLine) → r ≡ reading.All → IsReading r reader l
    → given_by reader.by reader.front ≡ given_by reader.by l.front
all_read r reader l is so = (subst (λ x. IsReading x reader l) is so).1

-- It has a whole history.
pub own_settled : {O T A P : Type 0} (early : Bool) (l : LedgerState GivenLine) (r : Ran O T A P) (how : Reading) (s : Settled) (next : ℕ) → IsReading how r.reader l
    → s ≡ come_to early how r.end next → s ≡ Whole → IsSettled early l r r.replies
own_settled early l r how s next read come whole =
    let three = whole_only early how r.end next (sym come ∙ whole) in
    record { in_time = three.0; ended = three.2; read = all_read how r.reader l three.1 read; count = refl }

-- It has a case.
pub own_case : {O T A P : Type 0} (early : Bool) (l : LedgerState GivenLine) (r : Ran O T A P) (how : Reading) (s : Settled) (next : ℕ) (d : LiveDiffer) → IsReading how r.reader l
    → next ≡ r.entries + 1 → s ≡ come_to early how r.end next → s ≡ Case d → IsCaseOf early l r d
own_case early l r how s next d read next_is come is = record {
  reading = how;
  read = read;
  case_is = ap (λ n. come_to early how r.end n) (sym next_is) ∙ sym come ∙ is;
}

-- ---- pieces

-- One is put behind those before, and another behind it.
pub two_pushed : (before mid first ws : List (SeatState (List ℕ))) (own script : SeatState (List ℕ)) → mid ≡ before → first ≡ mid ++ own ∷ [] → ws ≡ first ++ script ∷ []
    → ws ≡ before ++ own ∷ script ∷ []
two_pushed before mid first ws own script kept one two =
    two ∙ ap (λ (xs : List (SeatState (List ℕ))). xs ++ script ∷ []) (one ∙ ap (λ (xs : List (SeatState (List ℕ))). xs ++ own ∷ []) kept)
    ∙ append_assoc before (own ∷ []) (script ∷ [])

-- One more that counted nothing.
pub silent_more : (xs mid ys : List (SeatState (List ℕ))) (s : SeatState (List ℕ)) (by : ℕ) → mid ≡ xs → ys ≡ mid ++ s ∷ [] → length xs ≡ by → length ys ≡ by + 1
silent_more xs mid ys s by kept pushed counted =
    ap (λ (zs : List (SeatState (List ℕ))). length zs) (pushed ∙ ap (λ (zs : List (SeatState (List ℕ))). zs ++ s ∷ []) kept) ∙ length-append xs (s ∷ []) ∙ ap (λ (n : ℕ). n + 1) counted

pub none_more : (xs mid ys : List (SeatState (List ℕ))) (s : SeatState (List ℕ)) → mid ≡ xs → ys ≡ mid ++ s ∷ [] → s.count ≡ 0 → All (λ (x : SeatState (List ℕ)). x.count ≡ 0) xs
    → All (λ (x : SeatState (List ℕ)). x.count ≡ 0) ys
none_more xs mid ys s kept pushed none all =
    subst (All (λ (x : SeatState (List ℕ)). x.count ≡ 0)) (sym (pushed ∙ ap (λ (zs : List (SeatState (List ℕ))). zs ++ s ∷ []) kept))
    (All-push (λ (x : SeatState (List ℕ)). x.count ≡ 0) xs s all none)

-- What it leaves, put away.
pub one_left : {O T A P : Type 0} (none all : List (Remains A P)) (x : Remains A P) (r : Ran O T A P) → none ≡ [] → all ≡ none ++ x ∷ [] → remains_of x ≡ remains_after r
    → map remains_of all ≡ remains_after r ∷ []
one_left {O} {T} {A} {P} none all x r empty pushed left =
    ap (λ (xs : List (Remains A P)). map remains_of xs) (pushed ∙ ap (λ (xs : List (Remains A P)). xs ++ x ∷ []) empty) ∙ ap (λ (y : Leavings A P). y ∷ []) left

-- Nobody before, and behind them these two: so many in all.
two_behind : (place : ℕ) (before ws : List (SeatState (List ℕ))) (own script : SeatState (List ℕ)) → length before ≡ place → ws ≡ before ++ own ∷ script ∷ [] → length ws ≡ place + 2
two_behind place before ws own script counted is = ap (λ (xs : List (SeatState (List ℕ))). length xs) is ∙ length-append before (own ∷ script ∷ []) ∙ ap (λ (n : ℕ). n + 2) counted

pub own_pieces : (place : ℕ) (ws : List (SeatState (List ℕ))) (own script : SeatState (List ℕ)) (pieces : List Piece)
    → (before : List (SeatState (List ℕ))) × (length before ≡ place) × All (λ (s : SeatState (List ℕ)). s.count ≡ 0) before × (ws ≡ before ++ own ∷ script ∷ [])
    → AreExact 0 ws pieces → AreBelow (length ws) pieces
    → (before : List (SeatState (List ℕ))) × (length before ≡ place) × All (λ (s : SeatState (List ℕ)). s.count ≡ 0) before × AreExact 0 (before ++ own ∷ script ∷ []) pieces
    × AreBelow (place + 2) pieces
own_pieces place ws own script pieces so exact below = (
  so.0,
  so.1,
  so.2,
  subst (λ (xs : List (SeatState (List ℕ))). AreExact 0 xs pieces) so.3 exact,
  subst (λ (n : ℕ). AreBelow n pieces) (two_behind place so.0 ws own script so.1 so.3) below,
)

pub are_pieces_of : {O T A P : Type 0} (w : SeatState (List ℕ)) (place : ℕ) (r : Ran O T A P) (writer : SeatState (List ℕ)) (pieces : List Piece) → writer ≡ r.writer
    → (before : List (SeatState (List ℕ))) × (length before ≡ place) × All (λ (s : SeatState (List ℕ)). s.count ≡ 0) before × AreExact 0 (before ++ writer ∷ w ∷ []) pieces × AreBelow (place + 2) pieces
    → ArePieces w place r pieces
are_pieces_of w place r writer pieces same so = record {
  before = so.0;
  counted = so.1;
  none = so.2;
  exact = subst (λ (x : SeatState (List ℕ)). AreExact 0 (so.0 ++ x ∷ w ∷ []) pieces) same so.3;
  below = so.4;
}

-- ---- what a machine came to

-- It is whole, and so are its pieces.
pub settled_with : {O T A P : Type 0} (early : Bool) (l : LedgerState GivenLine) (w : SeatState (List ℕ)) (place : ℕ) (r : Ran O T A P) (pieces : List Piece) (s : Result ℕ LiveStop)
    → IfOk s (IsSettled early l r) → ArePieces w place r pieces → IfOk s (λ n. IsSettled early l r n × ArePieces w place r pieces)
settled_with early l w place r pieces (Ok n) settled so = (settled, so)
settled_with early l w place r pieces (Err e) settled so = tt

-- Not all pieces are known.
pub unpieced_ok : (s t : Result ℕ LiveStop) (P : ℕ → Type 0) → t ≡ without_pieces s → IfOk t P
unpieced_ok (Ok n) t P is = subst (λ (x : Result ℕ LiveStop). IfOk x P) (sym is) tt
unpieced_ok (Err e) t P is = subst (λ (x : Result ℕ LiveStop). IfOk x P) (sym is) tt

pub unpieced_stops : {O T A P : Type 0} (early : Bool) (number : ℕ) (l : LedgerState GivenLine) (r : Ran O T A P) (s t : Result ℕ LiveStop) → t ≡ without_pieces s → IfErr s (Stops early number l r)
    → IfErr t (Stops early number l r)
unpieced_stops early number l r (Ok n) t is stops = subst (λ (x : Result ℕ LiveStop). IfErr x (Stops early number l r)) (sym is) tt
unpieced_stops early number l r (Err e) t is stops = subst (λ (x : Result ℕ LiveStop). IfErr x (Stops early number l r)) (sym is) stops

-- .. and what it leaves is put away.
pub ended_ok : {C P V A O T : Type 0} (early : Bool) (l : LedgerState GivenLine) (w : SeatState (List ℕ)) (place : ℕ) (m : Machine C P V A O T) (ran : Ran O T A P) (pieces : List Piece)
    (all : List (Remains A P)) (s : Result ℕ LiveStop) → m.ran ≡ Some ran → map remains_of all ≡ remains_after ran ∷ []
    → IfOk s (λ n. IsSettled early l ran n × ArePieces w place ran pieces)
    → IfOk s (λ n. (r : Ran O T A P) × (m.ran ≡ Some r) × IsSettled early l r n × ArePieces w place r pieces × (map remains_of all ≡ remains_after r ∷ []))
ended_ok early l w place m ran pieces all (Ok n) at left so = (ran, at, so.0, so.1, left)
ended_ok early l w place m ran pieces all (Err e) at left so = tt

pub ended_stop : {C P V A O T : Type 0} (early : Bool) (number : ℕ) (l : LedgerState GivenLine) (m : Machine C P V A O T) (ran : Ran O T A P) (s : Result ℕ LiveStop) → m.ran ≡ Some ran
    → IfErr s (Stops early number l ran) → IfErr s (λ e. (e ≡ NoMemory) ⊎ ((r : Ran O T A P) × (m.ran ≡ Some r) × Stops early number l r e))
ended_stop early number l m ran (Ok n) at stops = tt
ended_stop early number l m ran (Err e) at stops = inr (ran, at, stops)
