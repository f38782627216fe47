-- A printer's way along a history, and what it puts out.
use Rattle.sl_book.proofs.Fronts.{prefix_self}
use Rattle.sl_book.proofs.SeatLaws.{mine_none}
use Rattle.sl_book.specs.Logs.{entries, given_by}
use Rattle.sl_book.specs.Mails.{PostedState, ReaderState}
use Rattle.sl_book.specs.Seats.{IsMine, SeatState}
use Rattle.sl_book.specs.declared.signed.Signed.{Signed}
use Rattle.sl_live_lines.proofs.LineLaws.{lines_push}
use Rattle.sl_live_lines.proofs.LiveLaws.{text_push}
use Rattle.sl_live_lines.specs.AuditedHistory.{AreLines, IsAnswered, IsAudit, IsNext, IsOther, due_line, lines_along, own_lines}
use Rattle.sl_live_lines.specs.EventTexts.{Telling, telling_along}
use Rattle.sl_live_lines.specs.LiveTexts.{history_text, step_text}
use Rattle.sl_live_lines.specs.LocksAlong.{AlongState, along, line_given, runs_line}
use Rattle.sl_live_lines.specs.declared.audit.Audit.{Audit}
use Rattle.sl_live_lines.specs.declared.given_lines.GivenLine.{GivenLine}
use Rattle.sl_live_machine.specs.Printing.{Goes, IsPrinting, IsWrong, Meets, line_of, lines_read}
use Rattle.sl_live_machine.specs.declared.printer.Printer.{Printer}
use Rattle.sl_output.proofs.PutLaws.{mine_put}
use Rattle.sl_output.specs.Outputs.{HasPut}
use Rattle.sl_trace.specs.declared.effects.Entry.{Entry}
use Rattle.std.proofs.Common.{ap, ap₂, append-nil, append_assoc, inl, inr, refl, subst, sym, ◌∙◌}
use Rattle.std.proofs.lemmas.List.Folds.{concat-append}
use Rattle.std.specs.List.{concat}
use Rattle.std.specs.Option.{option_to_list}
use Rattle.std.specs.Prelude.{Bool, List, None, Option, Some, false, if◌then◌else◌, is_some, length, true, [], ℕ, ◌++◌, ◌+◌, ◌∷◌, ◌≡◌, ◌⊎◌}
use mathlib.Core.List.{IsPrefix}

-- ---- an entry's own lines

shape : (r : Bool) (o : Option GivenLine) → ((if r then [] else option_to_list o) ≡ []) ⊎ ((l : GivenLine) × ((if r then [] else option_to_list o) ≡ l ∷ []))
shape true o = inl refl
shape false None = inl refl
shape false (Some l) = inr (l, refl)

own_one : (a : AlongState) (e : Entry) → (own_lines a e ≡ []) ⊎ ((l : GivenLine) × (own_lines a e ≡ l ∷ []))
own_one a e = shape (runs_line a) (line_given e.input)

-- none was met, so an entry that fits has none
met_none : (a : AlongState) (e : Entry) (ls ls' : List GivenLine) → ls' ≡ ls → ((l : GivenLine) → own_lines a e ≡ l ∷ [] → None ≡ Some l)
    → (own_lines a e ≡ []) ⊎ ((l : GivenLine) × (own_lines a e ≡ l ∷ [])) → ls' ≡ ls ++ own_lines a e
met_none a e ls ls' same fits (inl none) = same ∙ sym (append-nil ls) ∙ ap (λ ms. ls ++ ms) (sym none)
met_none a e ls ls' same fits (inr one) = let impossible : None ≡ Some one.0 = fits one.0 one.1 in absurd cc

-- an entry that fits has just the line that was met
met_own : (a : AlongState) (e : Entry) (r r' : ReaderState GivenLine) (next : Option (PostedState GivenLine)) → Meets a e r r' next
    → ((l : GivenLine) → own_lines a e ≡ l ∷ [] → line_of next ≡ Some l) → lines_read r' ≡ lines_read r ++ own_lines a e
met_own a e r r' None met fits = met_none a e (lines_read r) (lines_read r') (ap lines_read met) fits (own_one a e)
met_own a e r r' (Some p) met fits =
    let found : Some p.element ≡ Some met.1.0 = fits met.1.0 met.1.1 in
    let same : p.element ≡ met.1.0 = cc in
    met.0 ∙ ap (λ l. lines_read r ++ l ∷ []) same ∙ ap (λ ls. lines_read r ++ ls) (sym met.1.1)

-- the one that was met is the next behind those before
met_next : (a : AlongState) (e : Entry) (r r' : ReaderState GivenLine) (next : Option (PostedState GivenLine)) (past : List GivenLine) → past ≡ lines_read r → Meets a e r r' next
    → IsNext past (line_of next) (lines_read r')
met_next a e r r' None past is met = subst (IsPrefix past) (is ∙ sym (ap lines_read met)) (prefix_self past)
met_next a e r r' (Some p) past is met = subst (IsPrefix (past ++ p.element ∷ [])) (ap (λ ls. ls ++ p.element ∷ []) is ∙ sym met.0) (prefix_self (past ++ p.element ∷ []))

-- the reader took a line
pub meets_next : (a : AlongState) (e : Entry) (r r' : ReaderState GivenLine) (p : PostedState GivenLine) → (l : GivenLine) × (own_lines a e ≡ l ∷ []) → r'.by ≡ r.by
    → entries (given_by r.by r'.front) ≡ entries (given_by r.by r.front) ++ p.element ∷ [] → Meets a e r r' (Some p)
meets_next a e r r' p own by read = (subst (λ n. entries (given_by n r'.front) ≡ lines_read r ++ p.element ∷ []) (sym by) read, own)

-- ---- a line that is not the one due

-- the entry has it
wrong_here : (t : Telling) (a : AlongState) (h : List Entry) (e : Entry) (x : Audit) (r r' : ReaderState GivenLine) (next : Option (PostedState GivenLine)) (n : ℕ) → IsAudit t a h x
    → lines_along a h ≡ lines_read r → Meets x.locks e r r' next → IsOther (line_given e.input) (due_line x.locks (line_of next)) → n ≡ length h + 1
    → IsWrong a (h ++ e ∷ []) (lines_read r') n
wrong_here t a h e x r r' next n so lines met other is = (
  h,
  is,
  record {
    entry = e;
    more = [];
    parts = refl;
    asks = so.asks;
    next = line_of next;
    comes = met_next x.locks e r r' next (lines_along a h) lines met;
    other = subst (λ k. IsOther (line_given e.input) (due_line k (line_of next))) so.locks other;
  },
)

-- one before has it
wrong_on : (a : AlongState) (h : List Entry) (e : Entry) (read : List GivenLine) (n : ℕ) → IsWrong a h read n → IsWrong a (h ++ e ∷ []) read n
wrong_on a h e read n wrong =
    let d = wrong.2 in (
      wrong.0,
      wrong.1,
      record {
        entry = d.entry;
        more = d.more ++ e ∷ [];
        parts = ap (λ l. l ++ e ∷ []) d.parts ∙ append_assoc wrong.0 (d.entry ∷ d.more) (e ∷ []);
        asks = d.asks;
        next = d.next;
        comes = d.comes;
        other = d.other;
      },
    )

-- ---- one entry more

goes_wrong : {J O T : Type 0} (t : Telling) (a : AlongState) (h : List Entry) (e : Entry) (p : Printer J O T) (out : List ℕ) (w : Option ℕ) → is_some w ≡ true → Goes t a h p out w
    → Goes t a (h ++ e ∷ []) p out w
goes_wrong t a h e p out None is so = absurd cc
goes_wrong t a h e p out (Some n) is so = wrong_on a h e (lines_read p.reader) n so

-- behind a wrong line it stays as it is
pub stays_wrong : {J O T : Type 0} (t : Telling) (a : AlongState) (h : List Entry) (e : Entry) (p : Printer J O T) → is_some p.wrong ≡ true → IsPrinting t a h p → IsPrinting t a (h ++ e ∷ []) p
stays_wrong t a h e p is so = record {
  by = so.by;
  texts = so.texts;
  mine = so.mine;
  goes = goes_wrong t a h e p (concat so.texts ++ p.text.items) p.wrong is so.goes;
}

none_is : (w : Option ℕ) → is_some w ≡ false → w ≡ None
none_is None is = refl
none_is (Some n) is = absurd cc

-- no line was wrong so far
pub goes_right : {J O T : Type 0} (t : Telling) (a : AlongState) (h : List Entry) (p : Printer J O T) (so : IsPrinting t a h p) → p.wrong ≡ None
    → IsAudit t a h p.audit × (lines_along a h ≡ lines_read p.reader) × (concat so.texts ++ p.text.items ≡ history_text (p.reader.by + 1) t a h)
goes_right t a h p so right = subst (Goes t a h p (concat so.texts ++ p.text.items)) right so.goes

-- The printer has the same seat, and its reader the same number.
pub record IsSameDesk {J O T : Type 0} (p p' : Printer J O T) : Type 0 where
  pub writer : p'.writer ≡ p.writer
  pub by : p'.reader.by ≡ p.reader.by

by_same : {J O T : Type 0} (p p' : Printer J O T) → IsSameDesk p p' → p.writer.by ≡ p.reader.by → p'.writer.by ≡ p'.reader.by
by_same p p' same by = ap (λ (s : SeatState (List ℕ)). s.by) same.writer ∙ by ∙ sym same.by

pub finds_wrong : {J O T : Type 0} (t : Telling) (a : AlongState) (h : List Entry) (e : Entry) (p p' : Printer J O T) (next : Option (PostedState GivenLine)) (m n : ℕ) → is_some p.wrong ≡ false
    → IsPrinting t a h p → Meets p.audit.locks e p.reader p'.reader next → IsOther (line_given e.input) (due_line p.audit.locks (line_of next))
    → ((v : Telling) → (b : AlongState) → (g : List Entry) → IsAudit v b g p.audit → m ≡ length g) → n ≡ m + 1 → p'.wrong ≡ Some n → IsSameDesk p p' → IsPrinting t a (h ++ e ∷ []) p'
finds_wrong t a h e p p' next m n right so met other count number wrong same =
    let g = goes_right t a h p so (none_is p.wrong right) in
    record {
      by = by_same p p' same so.by;
      texts = so.texts;
      mine = subst (λ s. IsMine s so.texts) (sym same.writer) so.mine;
      goes = subst (Goes t a (h ++ e ∷ []) p' (concat so.texts ++ p'.text.items)) (sym wrong)
          (wrong_here t a h e p.audit p.reader p'.reader next n g.0 g.1 met other (number ∙ ap (λ k. k + 1) (count t a h g.0)));
    }

-- The printer has gone on by an entry that fits.
pub record HasStepped {J O T : Type 0} (e : Entry) (machine : ℕ) (p p' : Printer J O T) : Type 0 where
  pub text : p'.text.items ≡ p.text.items ++ step_text machine p.audit.telling p.audit.locks e
  pub audit : (v : Telling) → (b : AlongState) → (g : List Entry) → IsAudit v b g p.audit → IsAudit v b (g ++ e ∷ []) p'.audit
  pub wrong : p'.wrong ≡ p.wrong

text_on : (t : Telling) (a : AlongState) (h : List Entry) (e : Entry) (m machine : ℕ) (w : Telling) (k : AlongState) (put had now : List ℕ) → machine ≡ m → w ≡ telling_along t h
    → k ≡ along a h → put ++ had ≡ history_text m t a h → now ≡ had ++ step_text machine w k e → put ++ now ≡ history_text m t a (h ++ e ∷ [])
text_on t a h e m machine w k put had now same telling locks so more =
    let step : List ℕ = step_text m (telling_along t h) (along a h) e in
    ap (λ bs. put ++ bs) (more ∙ ap (λ n. had ++ step_text n w k e) same ∙ ap₂ (λ v x. had ++ step_text m v x e) telling locks) ∙ sym (append_assoc put had step)
    ∙ ap (λ bs. bs ++ step) so ∙ sym (text_push m t a h e)

pub goes_on : {J O T : Type 0} (t : Telling) (a : AlongState) (h : List Entry) (e : Entry) (p p' : Printer J O T) (next : Option (PostedState GivenLine)) (machine : ℕ) → is_some p.wrong ≡ false
    → machine ≡ p.reader.by + 1 → IsPrinting t a h p → Meets p.audit.locks e p.reader p'.reader next
    → ((l : GivenLine) → own_lines p.audit.locks e ≡ l ∷ [] → line_of next ≡ Some l) → HasStepped e machine p p' → IsSameDesk p p' → IsPrinting t a (h ++ e ∷ []) p'
goes_on t a h e p p' next machine right number so met fits on same =
    let none = none_is p.wrong right in
    let g = goes_right t a h p so none in
    let lines : lines_along a (h ++ e ∷ []) ≡ lines_read p'.reader
    = lines_push a h e ∙ ap (λ k. lines_along a h ++ own_lines k e) (sym g.0.locks) ∙ ap (λ ls. ls ++ own_lines p.audit.locks e) g.1
    ∙ sym (met_own p.audit.locks e p.reader p'.reader next met fits) in
    let told : concat so.texts ++ p'.text.items ≡ history_text (p'.reader.by + 1) t a (h ++ e ∷ [])
    = text_on t a h e (p.reader.by + 1) machine p.audit.telling p.audit.locks (concat so.texts) p.text.items p'.text.items number g.0.telling g.0.locks g.2 on.text
    ∙ ap (λ n. history_text (n + 1) t a (h ++ e ∷ [])) (sym same.by) in
    record {
      by = by_same p p' same so.by;
      texts = so.texts;
      mine = subst (λ s. IsMine s so.texts) (sym same.writer) so.mine;
      goes = subst (Goes t a (h ++ e ∷ []) p' (concat so.texts ++ p'.text.items)) (sym (on.wrong ∙ none)) (on.audit t a h g.0, lines, told);
    }

-- ---- what is put out

goes_same : {J O T : Type 0} (t : Telling) (a : AlongState) (h : List Entry) (p p' : Printer J O T) (out out' : List ℕ) (w : Option ℕ) → p'.audit ≡ p.audit → p'.reader ≡ p.reader → out' ≡ out
    → Goes t a h p out w → Goes t a h p' out' w
goes_same t a h p p' out out' None audit reader same so = (
  subst (IsAudit t a h) (sym audit) so.0,
  so.1 ∙ sym (ap lines_read reader),
  same ∙ so.2 ∙ ap (λ (r : ReaderState GivenLine). history_text (r.by + 1) t a h) (sym reader),
)
goes_same t a h p p' out out' (Some n) audit reader same so = subst (λ r. IsWrong a h (lines_read r) n) (sym reader) so

-- A printer has the same but for its text, and its seat has put a piece.
pub record IsSameWay {J O T : Type 0} (p p' : Printer J O T) : Type 0 where
  pub audit : p'.audit ≡ p.audit
  pub reader : p'.reader ≡ p.reader
  pub wrong : p'.wrong ≡ p.wrong

-- it is the same but for how much of the history it has seen, and the jobs that it tells of
pub moves_on : {J O T : Type 0} (t : Telling) (a : AlongState) (h : List Entry) (p p' : Printer J O T) → IsSameWay p p' → p'.writer ≡ p.writer → p'.text.items ≡ p.text.items → IsPrinting t a h p
    → IsPrinting t a h p'
moves_on t a h p p' same writer text so = record {
  by = ap (λ (s : SeatState (List ℕ)). s.by) writer ∙ so.by ∙ sym (ap (λ (r : ReaderState GivenLine). r.by) same.reader);
  texts = so.texts;
  mine = subst (λ s. IsMine s so.texts) (sym writer) so.mine;
  goes = subst (Goes t a h p' (concat so.texts ++ p'.text.items)) (sym same.wrong)
      (goes_same t a h p p' (concat so.texts ++ p.text.items) (concat so.texts ++ p'.text.items) p.wrong same.audit same.reader (ap (λ bs. concat so.texts ++ bs) text) so.goes);
}

-- its text was put out
pub puts_on : {J O T : Type 0} (t : Telling) (a : AlongState) (h : List Entry) (p p' : Printer J O T) (text : List ℕ) → IsPrinting t a h p → HasPut p.writer p'.writer text → text ≡ p.text.items
    → p'.text.items ≡ [] → IsSameWay p p' → IsPrinting t a h p'
puts_on t a h p p' text so put all none same =
    let out : concat (so.texts ++ text ∷ []) ++ p'.text.items ≡ concat so.texts ++ p.text.items
    = ap (λ bs. concat (so.texts ++ text ∷ []) ++ bs) none ∙ append-nil (concat (so.texts ++ text ∷ [])) ∙ concat-append so.texts (text ∷ [])
    ∙ ap (λ bs. concat so.texts ++ bs) (append-nil text ∙ all) in
    record {
      by = put.by ∙ so.by ∙ sym (ap (λ (r : ReaderState GivenLine). r.by) same.reader);
      texts = so.texts ++ text ∷ [];
      mine = mine_put p.writer p'.writer text so.texts put so.mine;
      goes = subst (Goes t a h p' (concat (so.texts ++ text ∷ []) ++ p'.text.items)) (sym same.wrong)
          (goes_same t a h p p' (concat so.texts ++ p.text.items) (concat (so.texts ++ text ∷ []) ++ p'.text.items) p.wrong same.audit same.reader out so.goes);
    }

-- it has printed what it was handed
pub prints_on : {J O T : Type 0} (t : Telling) (a : AlongState) (before after : List (Signed Entry)) (items handed : List Entry) (p p' : Printer J O T)
    → IsPrinting t a (entries before ++ handed) p × (p.text.items ≡ []) → handed ≡ items → entries after ≡ entries before ++ items → p'.mine ≡ after → IsSameWay p p' → p'.writer ≡ p.writer
    → p'.text.items ≡ p.text.items → IsPrinting t a (entries p'.mine) p' × (p'.text.items ≡ [])
prints_on t a before after items handed p p' so is all mine same writer text =
    let seen : entries before ++ handed ≡ entries p'.mine
    = ap (λ es. entries before ++ es) is ∙ sym all ∙ sym (ap (λ (m : List (Signed Entry)). entries m) mine) in
    (subst (λ h. IsPrinting t a h p') seen (moves_on t a (entries before ++ handed) p p' same writer text so.0), text ∙ so.1)

-- ---- the beginning

pub begins_printing : {J O T : Type 0} (t : Telling) (a : AlongState) (h : List Entry) (p : Printer J O T) → h ≡ [] → IsAudit t a [] p.audit → p.writer.by ≡ p.reader.by → p.writer.count ≡ 0
    → lines_read p.reader ≡ [] → p.text.items ≡ [] → p.wrong ≡ None → IsPrinting t a h p
begins_printing t a h p nothing audit by count read text wrong =
    let start : IsPrinting t a [] p = record {
      by = by;
      texts = [];
      mine = mine_none p.writer count;
      goes = subst (Goes t a [] p p.text.items) (sym wrong) (audit, sym read, text);
    } in
    subst (λ g. IsPrinting t a g p) (sym nothing) start

-- ---- the end

pub line_wrong : {J O T : Type 0} (t : Telling) (a : AlongState) (h : List Entry) (p : Printer J O T) (n : ℕ) → p.wrong ≡ Some n → IsPrinting t a h p → IsWrong a h (lines_read p.reader) n
line_wrong t a h p n wrong so = subst (Goes t a h p (concat so.texts ++ p.text.items)) wrong so.goes

pub lines_right : {J O T : Type 0} (t : Telling) (a : AlongState) (h : List Entry) (p : Printer J O T) → p.wrong ≡ None → IsPrinting t a h p
    → ((v : Telling) → (b : AlongState) → (g : List Entry) → IsAudit v b g p.audit → (runs_line (along b g) ≡ false) × IsAnswered g) → AreLines a h (lines_read p.reader) × IsAnswered h
lines_right t a h p right so over =
    let g = goes_right t a h p so right in
    let all = over t a h g.0 in
    (record { lines = g.1; asks = g.0.asks; over = all.0 }, all.1)
