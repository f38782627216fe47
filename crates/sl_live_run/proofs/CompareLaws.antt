-- What machines came to, one more at a time.
use Rattle.sl_book.specs.Logs.{given_by}
use Rattle.sl_book.specs.Mails.{IsReading, LedgerState, ReaderState}
use Rattle.sl_book.specs.declared.mail.Reading.TheVariants as reading
use Rattle.sl_book.specs.declared.mail.Reading.{Reading}
use Rattle.sl_live_lines.specs.declared.given_lines.GivenLine.{GivenLine}
use Rattle.sl_live_machine.specs.declared.machine.CloseError.TheVariants as close
use Rattle.sl_live_machine.specs.declared.machine.CloseError.{CloseError}
use Rattle.sl_live_machine.specs.declared.machine.Ran.{Ran}
use Rattle.sl_live_run.specs.Settling.{AreSettled, IsCaseOf, StopsSome, settled, settled_early}
use Rattle.sl_live_run.specs.declared.compare.LiveDiffer.{LiveDiffer}
use Rattle.sl_live_run.specs.declared.compare.LiveStop.TheVariants.{NoMemory}
use Rattle.sl_live_run.specs.declared.compare.LiveStop.{LiveStop}
use Rattle.sl_live_run.specs.declared.compare.Settled.TheVariants.{Case, Whole}
use Rattle.sl_live_run.specs.declared.compare.Settled.{Settled}
use Rattle.sl_words.proofs.CaseLaws.{none_some}
use Rattle.sl_words.proofs.Places.{Came, PlacedBehind, Stood, placed_behind}
use Rattle.std.proofs.Common.{List, ap, arith, get_or, length, refl, subst, suc, sym, take, zero, ◌++◌, ◌+◌, ◌<◌, ◌∙◌, ◌∷◌, ◌≡◌, [], ℕ}
use Rattle.std.proofs.Math.Seq.{take-suc}
use Rattle.std.proofs.lemmas.List.Sums.{sum_by_push}
use Rattle.std.specs.Prelude.{Bool, Err, Ok, Result, Some, false, slice_get, true}

-- ---- lists

pub got_at : {A : Type 0} (xs : List A) (i : ℕ) (x : A) → i < length xs → x ≡ get_or xs i x → slice_get xs i ≡ Some x
got_at [] i x lt is = absurd (omega (arith, lt))
got_at (y ∷ xs) zero x lt is = ap Some (sym is)
got_at (y ∷ xs) (suc i) x lt is = got_at xs i x (omega (arith, lt)) is

pub next_taken : {A : Type 0} (xs : List A) (i : ℕ) (x : A) → i < length xs → x ≡ get_or xs i x → take (suc i) xs ≡ take i xs ++ x ∷ []
next_taken xs i x lt is = take-suc xs i x lt ∙ ap (λ y. take i xs ++ y ∷ []) (sym is)

-- ---- one machine

whole_only : (r : Reading) (end : Result Unit CloseError) (next : ℕ) → settled r end next ≡ Whole → (r ≡ reading.All) × (end ≡ Ok tt)
whole_only r (Err (close.Differ d)) next is = absurd (cc is)
whole_only r (Err close.NoMemory) next is = absurd (cc is)
whole_only reading.All (Err (close.Line number)) next is = absurd (cc is)
whole_only reading.Part (Err (close.Line number)) next is = absurd (cc is)
whole_only reading.Apart (Err (close.Line number)) next is = absurd (cc is)
whole_only reading.All (Err (close.Left left)) next is = absurd (cc is)
whole_only reading.Part (Err (close.Left left)) next is = absurd (cc is)
whole_only reading.Apart (Err (close.Left left)) next is = absurd (cc is)
whole_only reading.All (Ok tt) next is = (refl, refl)
whole_only reading.Part (Ok tt) next is = absurd (cc is)
whole_only reading.Apart (Ok tt) next is = absurd (cc is)

-- ---- all of them

pub none_settled : {O T A P : Type 0} (l : LedgerState GivenLine) → AreSettled {O = O} {T = T} {A = A} {P = P} l [] 0
none_settled {O} {T} {A} {P} l = record { each = λ place r at. absurd (none_some r at); count = refl }

settled_on : {O T A P : Type 0} (l : LedgerState GivenLine) (done : List (Ran O T A P)) (r : Ran O T A P) (n n' : ℕ) → n' ≡ n + r.replies → r.end ≡ Ok tt
    → given_by r.reader.by r.reader.front ≡ given_by r.reader.by l.front → AreSettled l done n → AreSettled l (done ++ r ∷ []) n'
settled_on {O} {T} {A} {P} l done r n n' more ok read so = record {
  each = λ place x at. go place x (placed_behind done r place x at);
  count = more ∙ ap (λ k. k + r.replies) so.count ∙ sym (sum_by_push (λ (x : Ran O T A P). x.replies) done r);
}
  where
    go : (place : ℕ) (x : Ran O T A P) → PlacedBehind done r place x → (x.end ≡ Ok tt) × (given_by x.reader.by x.reader.front ≡ given_by x.reader.by l.front)
    go place x (Stood at) = so.each place x at
    go place x (Came here same) = subst (λ (y : Ran O T A P). (y.end ≡ Ok tt) × (given_by y.reader.by y.reader.front ≡ given_by y.reader.by l.front)) (sym same) (ok, read)

all_read : (r : Reading) (reader : ReaderState GivenLine) (l : LedgerState GivenLine) → r ≡ reading.All → IsReading r reader l
    → given_by reader.by reader.front ≡ given_by reader.by l.front
all_read r reader l is so = (subst (λ x. IsReading x reader l) is so).1

-- The next machine has a whole history.
pub settled_more : {O T A P : Type 0} (l : LedgerState GivenLine) (rans : List (Ran O T A P)) (place : ℕ) (r : Ran O T A P) (how : Reading) (s : Settled) (n n' next : ℕ) → place < length rans
    → r ≡ get_or rans place r → IsReading how r.reader l → s ≡ settled how r.end next → s ≡ Whole → n' ≡ n + r.replies → AreSettled l (take place rans) n
    → AreSettled l (take (place + 1) rans) n'
settled_more l rans place r how s n n' next lt is read come whole more so =
    let both = whole_only how r.end next (sym come ∙ whole) in
    let one : suc place ≡ place + 1 = omega arith in
    subst (λ k. AreSettled l (take k rans) n') one
    (subst (λ done. AreSettled l done n') (sym (next_taken rans place r lt is)) (settled_on l (take place rans) r n n' more both.1 (all_read how r.reader l both.0 read) so))

-- It has a case.
pub case_here : {O T A P : Type 0} (l : LedgerState GivenLine) (rans : List (Ran O T A P)) (place : ℕ) (r : Ran O T A P) (how : Reading) (s : Settled) (next : ℕ) (d : LiveDiffer) → place < length rans
    → r ≡ get_or rans place r → IsReading how r.reader l → next ≡ r.entries + 1 → s ≡ settled how r.end next → s ≡ Case d → IsCaseOf false l rans (place + 1) d
case_here l rans place r how s next d lt is read next_is come case_is = record {
  place = place;
  ran = r;
  reading = how;
  numbered = refl;
  there = got_at rans place r lt is;
  read = read;
  case_is = ap (λ n. settled how r.end n) (sym next_is) ∙ sym come ∙ case_is;
}

pub early_here : {O T A P : Type 0} (l : LedgerState GivenLine) (rans : List (Ran O T A P)) (place : ℕ) (r : Ran O T A P) (how : Reading) (s : Settled) (d : LiveDiffer) → place < length rans
    → r ≡ get_or rans place r → IsReading how r.reader l → s ≡ settled_early how r.end → s ≡ Case d → IsCaseOf true l rans (place + 1) d
early_here l rans place r how s d lt is read come case_is = record {
  place = place;
  ran = r;
  reading = how;
  numbered = refl;
  there = got_at rans place r lt is;
  read = read;
  case_is = sym come ∙ case_is;
}

pub no_memory : {O T A P : Type 0} (early : Bool) (l : LedgerState GivenLine) (rans : List (Ran O T A P)) (s : LiveStop) → s ≡ NoMemory → StopsSome early l rans s
no_memory early l rans s is = subst (StopsSome early l rans) (sym is) tt
