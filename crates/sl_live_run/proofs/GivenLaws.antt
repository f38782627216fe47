-- What is noted of the script's lines, one line more at a time.
use Rattle.sl_book.proofs.Givens.{entries_last, given_last, given_other}
use Rattle.sl_book.specs.Logs.{entries, given_by as given_in, is_by}
use Rattle.sl_book.specs.Mails.{LedgerState}
use Rattle.sl_book.specs.Seats.{SeatState}
use Rattle.sl_book.specs.declared.signed.Signed.{Signed}
use Rattle.sl_live_lines.specs.declared.given_lines.GivenLine.{GivenLine}
use Rattle.sl_live_run.specs.Runs.{AreFirst, AreGiven, Gave, HasPutOut, HasTold, given_by, line_for, lines_for, refusal_text, refusals_text}
use Rattle.sl_output.proofs.PutLaws.{mine_put}
use Rattle.sl_output.specs.Outputs.{HasPut}
use Rattle.sl_reader.specs.declared.live_lines.LiveLine.{LiveLine}
use Rattle.std.proofs.Common.{List, ap, append_assoc, arith, if◌then◌else◌, length, refl, subst, sym, ◌++◌, ◌+◌, ◌<◌, ◌==◌, ◌∙◌, ◌∷◌, ◌≡◌, [], ℕ}
use Rattle.std.proofs.lemmas.List.Concat.{flat_map-append}
use Rattle.std.proofs.lemmas.List.Elements.{filter-append}
use Rattle.std.proofs.lemmas.List.Folds.{concat-append}
use Rattle.std.proofs.lemmas.List.{append-nil}
use Rattle.std.specs.List.{concat}
use Rattle.std.specs.Prelude.{Bool, Err, IsErrAnd, None, Ok, OnOk, Option, Result, Some, false, true}

lines_push : (k : ℕ) (ls : List LiveLine) (l : LiveLine) → lines_for k (ls ++ l ∷ []) ≡ lines_for k ls ++ line_for k l
lines_push k ls l = flat_map-append (line_for k) ls (l ∷ []) ∙ ap (λ t. lines_for k ls ++ t) (append-nil (line_for k l))

-- ---- the first ones

pub first_of : (l : LedgerState GivenLine) (machines : ℕ) (ls : List LiveLine) → AreGiven l machines ls → AreFirst l machines ls
first_of l machines ls so = record { counted = so.counted; each = λ place lt. ([], append-nil (entries (given_in place l.front)) ∙ so.each place lt) }

-- One line more was read.
pub first_more : (l : LedgerState GivenLine) (machines : ℕ) (ls : List LiveLine) (line : LiveLine) → AreGiven l machines ls → AreFirst l machines (ls ++ line ∷ [])
first_more l machines ls line so = record {
  counted = so.counted;
  each = λ place lt. (line_for (place + 1) line, ap (λ t. t ++ line_for (place + 1) line) (so.each place lt) ∙ sym (lines_push (place + 1) ls line));
}

-- ---- a line that gives a machine nothing

not_given : (k : ℕ) (ls : List LiveLine) (line : LiveLine) (texts : List GivenLine) → line_for k line ≡ [] → texts ≡ lines_for k ls → texts ≡ lines_for k (ls ++ line ∷ [])
not_given k ls line texts none is = is ∙ sym (append-nil (lines_for k ls)) ∙ ap (λ t. lines_for k ls ++ t) (sym none) ∙ sym (lines_push k ls line)

nothing_given : (l : LedgerState GivenLine) (machines : ℕ) (ls : List LiveLine) (line : LiveLine) → ((place : ℕ) → place < machines → line_for (place + 1) line ≡ [])
    → AreGiven l machines ls → AreGiven l machines (ls ++ line ∷ [])
nothing_given l machines ls line none so = record {
  counted = so.counted;
  each = λ place lt. not_given (place + 1) ls line (entries (given_in place l.front)) (none place lt) (so.each place lt);
}

abbrev line_of : Option (ℕ × GivenLine) → ℕ → List GivenLine
line_of o k = elim o as (λ x. List GivenLine) [ None ↦ [] | Some g ↦ if g.0 == k then g.1 ∷ [] else [] ]

-- It gives nothing to any machine.
pub given_none : (l : LedgerState GivenLine) (machines : ℕ) (ls : List LiveLine) (line : LiveLine) → None ≡ given_by line → AreGiven l machines ls → AreGiven l machines (ls ++ line ∷ [])
given_none l machines ls line none so = nothing_given l machines ls line (λ place lt. ap (λ x. line_of x (place + 1)) (sym none)) so

other : (m k : ℕ) (text : GivenLine) (line : LiveLine) → Some (m, text) ≡ given_by line → (m ≡ k → ⊥) → line_for k line ≡ []
other m k text line says apart = ap (λ x. line_of x k) (sym says) ∙ go (m == k) refl
  where
    go : (b : Bool) → (m == k) ≡ b → (if b then text ∷ [] else []) ≡ []
    go true is = absurd (apart (grind (arith, is)))
    go false is = refl

own : (m k : ℕ) (text : GivenLine) (line : LiveLine) → Some (m, text) ≡ given_by line → m ≡ k → line_for k line ≡ text ∷ []
own m k text line says same = ap (λ x. line_of x k) (sym says) ∙ go (m == k) refl
  where
    go : (b : Bool) → (m == k) ≡ b → (if b then text ∷ [] else []) ≡ text ∷ []
    go true is = refl
    go false is = absurd (grind (arith, is, same))

-- It is for no machine of the run.
pub given_zero : (l : LedgerState GivenLine) (machines m : ℕ) (text : GivenLine) (ls : List LiveLine) (line : LiveLine) → Some (m, text) ≡ given_by line → m ≡ 0 → AreGiven l machines ls
    → AreGiven l machines (ls ++ line ∷ [])
given_zero l machines m text ls line says zero_is so =
    nothing_given l machines ls line (λ place lt. other m (place + 1) text line says (λ same. absurd (omega (arith, same, zero_is)))) so

pub given_away : (l : LedgerState GivenLine) (machines m : ℕ) (text : GivenLine) (ls : List LiveLine) (line : LiveLine) → Some (m, text) ≡ given_by line → l.places < m → AreGiven l machines ls
    → AreGiven l machines (ls ++ line ∷ [])
given_away l machines m text ls line says away so =
    let n = so.counted in
    nothing_given l machines ls line (λ place lt. other m (place + 1) text line says (λ same. absurd (omega (arith, same, away, n, lt)))) so

-- ---- a line that gives one

-- The mail's log has it as its last.
pub given_one : (l l' : LedgerState GivenLine) (machines m by : ℕ) (text : GivenLine) (ls : List LiveLine) (line : LiveLine) → Some (m, text) ≡ given_by line → m ≡ by + 1
    → l'.places ≡ l.places → l'.front ≡ l.front ++ record { by = by; entry = text } ∷ [] → AreGiven l machines ls → AreGiven l' machines (ls ++ line ∷ [])
given_one l l' machines m by text ls line says number places front so = record {
  counted = places ∙ so.counted;
  each = λ place lt. ap (λ (f : List (Signed GivenLine)). entries (given_in place f)) front ∙ go place lt (by == place) refl;
}
  where
    s : Signed GivenLine
    s = record { by = by; entry = text }

    go : (place : ℕ) → place < machines → (b : Bool) → (by == place) ≡ b → entries (given_in place (l.front ++ s ∷ [])) ≡ lines_for (place + 1) (ls ++ line ∷ [])
    go place lt true is =
        let same : by ≡ place = grind (arith, is) in
        let here : m ≡ place + 1 = omega (arith, number, same) in
        ap entries (given_last place l.front s same) ∙ entries_last (given_in place l.front) s ∙ ap (λ t. t ++ text ∷ []) (so.each place lt)
        ∙ ap (λ t. lines_for (place + 1) ls ++ t) (sym (own m (place + 1) text line says here)) ∙ sym (lines_push (place + 1) ls line)
    go place lt false is =
        let apart : by ≡ place → ⊥ = λ same. absurd (grind (arith, is, same)) in
        let none : given_in place (l.front ++ s ∷ []) ≡ given_in place l.front
        = filter-append (is_by place) l.front (s ∷ []) ∙ ap (λ t. given_in place l.front ++ t) (given_other place s [] apart) ∙ append-nil (given_in place l.front) in
        not_given (place + 1) ls line (entries (given_in place (l.front ++ s ∷ []))) (other m (place + 1) text line says (λ same. apart (omega (arith, same, number))))
        (ap entries none ∙ so.each place lt)

-- ---- before the first line

-- To no machine anything is given yet.
pub no_lines : (l : LedgerState GivenLine) (machines : ℕ) → l ≡ record { front = []; places = machines } → AreGiven l machines []
no_lines l machines is = subst (λ (x : LedgerState GivenLine). AreGiven x machines []) (sym is) (record { counted = refl; each = λ place lt. refl })

-- ---- the script, one answer more

-- The lines so far, what is noted of them, and which of them are refused, as that was put out.
pub record TellsSo (machines : ℕ) (before now : List LiveLine → Type 0) (l : LedgerState GivenLine) (w : SeatState (List ℕ)) : Type 0 where
  pub lines : List LiveLine
  pub gave : Gave before now lines
  pub given : AreGiven l machines lines
  pub refused : HasPutOut w (refusals_text lines)

pub on_all : {T E P : Type 0} (r : Result T E) → P → OnOk r P
on_all (Ok x) so = so
on_all (Err e) so = tt

on_none : {T E : Type 0} (P : Type 0) (r : Result T E) (Q : E → Type 0) → IsErrAnd r Q → OnOk r P
on_none P (Ok x) Q err = absurd err
on_none P (Err e) Q err = tt

pub telling_none : (machines : ℕ) (before : List LiveLine → Type 0) (l : LedgerState GivenLine) (w : SeatState (List ℕ)) → AreGiven l machines [] → HasPutOut w []
    → TellsSo machines before before l w
telling_none machines before l w so put = record { lines = []; gave = λ given b. subst before (sym (append-nil given)) b; given = so; refused = put }

pub told_so : {T E : Type 0} (machines : ℕ) (before now : List LiveLine → Type 0) (l : LedgerState GivenLine) (w : SeatState (List ℕ)) (r : Result T E) → TellsSo machines before now l w
    → HasTold machines before now l w r
told_so machines before now l w r so = record {
  lines = so.lines;
  gave = so.gave;
  first = first_of l machines so.lines so.given;
  texts = on_all r so.given;
  refused = on_all r so.refused;
}

-- Behind an answer with these lines.
longer : (before was now : List LiveLine → Type 0) (ls more : List LiveLine) → Gave before was ls → Gave was now more → Gave before now (ls ++ more)
longer before was now ls more so step = λ given b. subst now (append_assoc given ls more) (step (given ++ ls) (so given b))

same_more : (was now : List LiveLine → Type 0) (more other : List LiveLine) → Gave was now more → more ≡ other → Gave was now other
same_more was now more other step is = subst (Gave was now) is step

pub told_none : {T E : Type 0} (machines : ℕ) (before was now : List LiveLine → Type 0) (more : List LiveLine) (l : LedgerState GivenLine) (w : SeatState (List ℕ)) (r : Result T E)
    → TellsSo machines before was l w → Gave was now more → more ≡ [] → HasTold machines before now l w r
told_none machines before was now more l w r so step none =
    told_so machines before now l w r
    (record {
      lines = so.lines;
      gave = λ given b. subst now (append-nil (given ++ so.lines)) (same_more was now more [] step none (given ++ so.lines) (so.gave given b));
      given = so.given;
      refused = so.refused;
    })

-- The line could not be noted, or its refusal not be put out.
pub told_err : {T E : Type 0} (machines : ℕ) (before was now : List LiveLine → Type 0) (more : List LiveLine) (line : LiveLine) (l l' : LedgerState GivenLine) (w w' : SeatState (List ℕ))
    (r : Result T E) (Q : E → Type 0) → (so : TellsSo machines before was l w) → Gave was now more → more ≡ line ∷ [] → AreFirst l' machines (so.lines ++ line ∷ []) → IsErrAnd r Q
    → HasTold machines before now l' w' r
told_err machines before was now more line l l' w w' r Q so step one first err = record {
  lines = so.lines ++ line ∷ [];
  gave = longer before was now so.lines (line ∷ []) so.gave (same_more was now more (line ∷ []) step one);
  first = first;
  texts = on_none _ r Q err;
  refused = on_none _ r Q err;
}

-- One that has put nothing out.
pub nothing_put : (w : SeatState (List ℕ)) → w.count ≡ 0 → HasPutOut w []
nothing_put w none = record { texts = []; mine = record { count = none; there = tt }; text_is = refl }

-- A text without bytes.
pub no_bytes : (text : List ℕ) (len : ℕ) (empty : Bool) → empty ≡ (len == 0) → empty ≡ true → len ≡ length text → text ≡ []
no_bytes [] len empty is so many = refl
no_bytes (x ∷ text) len empty is so many = let none : len ≡ 0 = grind (arith, sym is ∙ so) in absurd (omega (arith, none, many))

-- Nothing is put out.
pub put_none : (w : SeatState (List ℕ)) (before text : List ℕ) → text ≡ [] → HasPutOut w before → HasPutOut w (before ++ text)
put_none w before text none so = subst (HasPutOut w) (sym (ap (λ t. before ++ t) none ∙ append-nil before)) so

-- A piece more is put out.
pub put_more : (w w' : SeatState (List ℕ)) (before text piece : List ℕ) → piece ≡ text → HasPutOut w before → HasPut w w' piece → HasPutOut w' (before ++ text)
put_more w w' before text piece same so put = record {
  texts = so.texts ++ piece ∷ [];
  mine = mine_put w w' piece so.texts put so.mine;
  text_is = concat-append so.texts (piece ∷ []) ∙ ap (λ t. t ++ concat (piece ∷ [])) so.text_is ∙ ap (λ t. before ++ t) (append-nil piece ∙ same);
}

refusals_push : (ls : List LiveLine) (l : LiveLine) → refusals_text (ls ++ l ∷ []) ≡ refusals_text ls ++ refusal_text l
refusals_push ls l = flat_map-append refusal_text ls (l ∷ []) ∙ ap (λ t. refusals_text ls ++ t) (append-nil (refusal_text l))

pub told_more : (machines : ℕ) (before was now : List LiveLine → Type 0) (more : List LiveLine) (line : LiveLine) (l l' : LedgerState GivenLine) (w w' : SeatState (List ℕ))
    → (so : TellsSo machines before was l w) → Gave was now more → more ≡ line ∷ [] → AreGiven l' machines (so.lines ++ line ∷ [])
    → HasPutOut w' (refusals_text so.lines ++ refusal_text line) → TellsSo machines before now l' w'
told_more machines before was now more line l l' w w' so step one noted put = record {
  lines = so.lines ++ line ∷ [];
  gave = longer before was now so.lines (line ∷ []) so.gave (same_more was now more (line ∷ []) step one);
  given = noted;
  refused = subst (HasPutOut w') (sym (refusals_push so.lines line)) put;
}
