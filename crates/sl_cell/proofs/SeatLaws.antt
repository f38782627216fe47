-- What a seat counts, as it goes on.
use Rattle.sl_book.proofs.SeatLaws.{mine_on as mine_more}
use Rattle.sl_cell.specs.Leads.{IsEntry}
use Rattle.sl_cell.specs.Parts.{calls_of, is_of}
use Rattle.sl_book.specs.Seats.{IsMine}
use Rattle.sl_cell.specs.Seats.{SeatState}
use Rattle.sl_cell.specs.Told.{Gave}
use Rattle.sl_cell.specs.declared.part.Part.{Part}
use Rattle.sl_book.proofs.Fronts.{prefix_trans}
use Rattle.sl_book.proofs.Givens.{entries_prefix}
use Rattle.sl_book.specs.Logs.{entries}
use Rattle.sl_cell.specs.Histories.{Signed}
use Rattle.sl_trace.specs.declared.effects.Call.{Call}
use Rattle.sl_trace.specs.declared.effects.Effects.{Effects}
use Rattle.sl_trace.specs.declared.effects.Entry.{Entry}
use Rattle.sl_trace.specs.declared.input.Input.{Input}
use Rattle.std.proofs.Common.{List, [], ap, append_assoc, filter, refl, subst, sym, ℕ, ◌++◌, ◌+◌, ◌∙◌, ◌∷◌, ◌≡◌}
use mathlib.Core.List.{IsPrefix}

-- ---- what it gave

-- it gave one entry more
pub mine_on : (s s' : SeatState) (now : ℕ) (i : Input) (fx : Effects) (made : List Entry) → (gave : Gave s s' now i fx) → IsMine s made → IsMine s' (made ++ gave.entry.entry ∷ [])
mine_on s s' now i fx made gave mine = mine_more s s' gave.past gave.entry made gave.is.number gave.before gave.front gave.by gave.count mine

-- ---- what a thread has seen stays so

-- a seat that gave has seen as much as before, and more
pub gave_before : (s s' : SeatState) (now : ℕ) (i : Input) (fx : Effects) → Gave s s' now i fx → IsPrefix s.front s'.front
gave_before s s' now i fx gave =
    subst (λ (l : List Signed). IsPrefix s.front l) (sym gave.front) (prefix_trans s.front gave.past (gave.past ++ gave.entry ∷ []) gave.before (gave.entry ∷ [], refl))

calls_append : (part : Part) (xs ys : List Entry) → calls_of part (xs ++ ys) ≡ calls_of part xs ++ calls_of part ys
calls_append part [] ys = refl
calls_append part (x ∷ xs) ys =
    let made : List Call = filter (is_of part) x.effects.calls in
    ap (λ l. made ++ l) (calls_append part xs ys) ∙ sym (append_assoc made (calls_of part xs) (calls_of part ys))

-- the calls of a beginning begin the calls
pub calls_prefix : (part : Part) (xs ys : List Signed) → IsPrefix xs ys → IsPrefix (calls_of part (entries xs)) (calls_of part (entries ys))
calls_prefix part xs ys p =
    let es = entries_prefix xs ys p in
    (calls_of part es.0, sym (calls_append part (entries xs) es.0) ∙ ap (calls_of part) es.1)

-- ---- what it is told

pub gave_told : (s s' : SeatState) (now : ℕ) (i : Input) (fx : Effects) (past : List Signed) (x : Signed) → IsEntry s.by now i x → x.entry.effects ≡ fx → IsPrefix s.front past
    → s' ≡ record { by = s.by; count = s.count + 1; taken = s.taken; front = past ++ x ∷ [] } → Gave s s' now i fx
gave_told s s' now i fx past x is told before same = record {
  past = past;
  entry = x;
  is = is;
  told = told;
  before = before;
  front = ap (λ (t : SeatState). t.front) same;
  by = ap (λ (t : SeatState). t.by) same;
  count = ap (λ (t : SeatState). t.count) same;
  taken = ap (λ (t : SeatState). t.taken) same;
}
