-- How a machine ends, from what its printer found and its cell says.
use Rattle.sl_book.specs.Logs.{entries}
use Rattle.sl_book.specs.Mails.{ReaderState}
use Rattle.sl_book.specs.Seats.{SeatState}
use Rattle.sl_book.specs.declared.signed.Signed.{Signed}
use Rattle.sl_cell.specs.declared.part.Part.TheVariants.{Delta, Resource}
use Rattle.sl_live.specs.CarriedOut.{HasSignalled}
use Rattle.sl_live.specs.declared.disks.Disk.{Disk}
use Rattle.sl_live_lines.specs.AuditedHistory.{IsAudit}
use Rattle.sl_live_lines.specs.EventTexts.{Telling}
use Rattle.sl_live_lines.specs.LiveTexts.{count_replies}
use Rattle.sl_live_lines.specs.LocksAlong.{AlongState}
use Rattle.sl_live_lines.specs.declared.given_lines.GivenLine.{GivenLine}
use Rattle.sl_live_machine.proofs.PrintLaws.{goes_right}
use Rattle.sl_live_machine.specs.MachineEnds.{Counts, EndsEarly, EndsSo, EndsWith, Finds, HasRun, HasTold, IsWhole, OnWhole, Told}
use Rattle.sl_live_machine.proofs.RunLaws.{AreMadeBy, made_served, starts_killed}
use Rattle.sl_live_machine.specs.ServedActs.{ServedStarts}
use Rattle.sl_live_machine.specs.ServedDisks.{AreOf, AreServing, ServedDisks}
use Rattle.sl_live_machine.specs.Printing.{IsPrinting, lines_read}
use Rattle.sl_live_machine.specs.declared.machine.CloseError.TheVariants as close
use Rattle.sl_live_machine.specs.declared.machine.CloseError.{CloseError}
use Rattle.sl_live_machine.specs.declared.machine.Ran.{Ran}
use Rattle.sl_live_machine.specs.declared.printer.Printer.{Printer}
use Rattle.sl_live_machine.specs.declared.starter.Starter.{Starter}
use Rattle.sl_outside.specs.Acts.{Tells}
use Rattle.sl_outside.specs.declared.act.Act.{Act}
use Rattle.sl_trace.specs.Traces.{Setting, Trace}
use Rattle.sl_trace.specs.declared.effects.Entry.{Entry}
use Rattle.std.proofs.Common.{ap, append-nil, inl, inr, subst, sym, ◌∙◌}
use Rattle.std.proofs.lemmas.List.{length-map}
use Rattle.std.specs.List.{concat}
use Rattle.std.specs.Prelude.{Bool, Err, IfOk, IsOk, IsOkAnd, List, None, Ok, OnOk, Option, Result, length, true, [], ℕ, ◌++◌, ◌≡◌, ◌⊎◌}

-- what was found along a whole history
pub ends_whole : {D : Type 0} (stands : D → Setting → Trace → Type 0) (st : Setting) (a : AlongState) (h : List Entry) (read : List GivenLine) (end : Result Unit CloseError)
    → IsWhole stands st h → Finds a h read end → EndsWith stands st a h read end
ends_whole stands st a h read (Ok u) whole found = (whole, found)
ends_whole stands st a h read (Err (close.Line number)) whole found = (whole, found)
ends_whole stands st a h read (Err (close.Left left)) whole found = (whole, found)
ends_whole stands st a h read (Err (close.Differ d)) whole found = absurd found
ends_whole stands st a h read (Err close.NoMemory) whole found = absurd found

pub ends_early : {D : Type 0} (stands : D → Setting → Trace → Type 0) (st : Setting) (a : AlongState) (h : List Entry) (read : List GivenLine) (e : CloseError)
    → EndsEarly st e → EndsWith stands st a h read (Err e)
ends_early stands st a h read (close.Line number) early = absurd early
ends_early stands st a h read (close.Left left) early = absurd early
ends_early stands st a h read (close.Differ d) early = early
ends_early stands st a h read close.NoMemory early = tt

-- ---- where a history is whole

pub on_whole : (end : Result Unit CloseError) (Holds : Type 0) → Holds → OnWhole end Holds
on_whole (Ok u) Holds so = so
on_whole (Err (close.Line number)) Holds so = so
on_whole (Err (close.Left left)) Holds so = so
on_whole (Err (close.Differ d)) Holds so = tt
on_whole (Err close.NoMemory) Holds so = tt

whole_on : (end : Result Unit CloseError) (Was Is : Type 0) → (Was → Is) → OnWhole end Was → OnWhole end Is
whole_on (Ok u) Was Is f so = f so
whole_on (Err (close.Line number)) Was Is f so = f so
whole_on (Err (close.Left left)) Was Is f so = f so
whole_on (Err (close.Differ d)) Was Is f so = tt
whole_on (Err close.NoMemory) Was Is f so = tt

-- where a thread ended too soon there is none
pub early_whole : (st : Setting) (e : CloseError) (Holds : Type 0) → EndsEarly st e → OnWhole (Err e) Holds
early_whole st (close.Line number) Holds early = absurd early
early_whole st (close.Left left) Holds early = absurd early
early_whole st (close.Differ d) Holds early = tt
early_whole st close.NoMemory Holds early = tt

-- where it is made up by these seats, which a result has
pub whole_of : {V E : Type 0} (seats : Result V E) (v : V) (P : V → Type 0) (end : Result Unit CloseError) → seats ≡ Ok v → OnWhole end (P v) → OnWhole end (IsOkAnd seats P)
whole_of seats v P end is so = whole_on end (P v) (IsOkAnd seats P) (λ x. subst (λ r. IsOkAnd r P) (sym is) x) so

-- ---- what is left of a machine's run

pub counts_entries : (signed : List (Signed Entry)) (n : ℕ) (end : Result Unit CloseError) → n ≡ length signed → Counts (entries signed) n end
counts_entries signed n (Ok u) is = is ∙ sym (length-map signed (λ (s : Signed Entry). s.entry))
counts_entries signed n (Err (close.Line number)) is = is ∙ sym (length-map signed (λ (s : Signed Entry). s.entry))
counts_entries signed n (Err (close.Left left)) is = is ∙ sym (length-map signed (λ (s : Signed Entry). s.entry))
counts_entries signed n (Err (close.Differ d)) is = tt
counts_entries signed n (Err close.NoMemory) is = tt

-- all that is told was put out
told_all : {J O T : Type 0} (t : Telling) (a : AlongState) (h : List Entry) (p : Printer J O T) (n : ℕ) → IsPrinting t a h p → p.text.items ≡ [] → p.wrong ≡ None
    → ((v : Telling) → (b : AlongState) → (g : List Entry) → IsAudit v b g p.audit → n ≡ count_replies b g) → HasTold t a h p.reader p.writer n
told_all t a h p n so text right count =
    let g = goes_right t a h p so right in
    record {
      texts = so.texts;
      mine = so.mine;
      text = sym (append-nil (concat so.texts)) ∙ ap (λ bs. concat so.texts ++ bs) (sym text) ∙ g.2;
      count = count t a h g.0;
    }

told_so : {J O T S E : Type 0} (t : Telling) (a : AlongState) (p : Printer J O T) (n : ℕ) (seats : Result S E) (end : Result Unit CloseError)
    → OnOk seats (IsPrinting t a (entries p.mine) p × (p.text.items ≡ [])) → OnOk end ((p.wrong ≡ None) × IsOk seats)
    → ((v : Telling) → (b : AlongState) → (g : List Entry) → IsAudit v b g p.audit → n ≡ count_replies b g) → Told t a (entries p.mine) p.reader p.writer n end
told_so t a p n (Ok v) (Ok u) all right count = told_all t a (entries p.mine) p n all.0 all.1 right.0 count
told_so t a p n (Err e) (Ok u) all right count = absurd cc
told_so t a p n (Ok v) (Err e) all right count = tt
told_so t a p n (Err e) (Err f) all right count = tt

on_first : {S E : Type 0} (X Y : Type 0) (seats : Result S E) → OnOk seats (X × Y) → OnOk seats X
on_first X Y (Ok v) both = both.0
on_first X Y (Err e) both = tt

pub on_ok_with : {S E : Type 0} (X Y : Type 0) (r : Result S E) → OnOk r X → Y → OnOk r (X × Y)
on_ok_with X Y (Ok v) x y = (x, y)
on_ok_with X Y (Err e) x y = tt

-- what holds of those before holds of these, which are they
pub if_ok_kept : {S E : Type 0} (r first : Result S E) (P : S → Type 0) → IfOk r (λ v. first ≡ Ok v) → IfOk first P → IfOk r P
if_ok_kept {S} {E} (Ok v) first P is so = subst (λ (x : Result S E). IfOk x P) is so
if_ok_kept {S} {E} (Err e) first P is so = tt

-- what holds of the first seats holds where the others, which are they, make up a history
both_so : {V E : Type 0} (seats first : Result V E) (P Q : V → Type 0) (Is : Type 0) → IfOk seats (λ v. first ≡ Ok v) → IfOk first P → ((v : V) → P v → Q v → Is) → IsOkAnd seats Q → Is
both_so (Ok v) first P Q Is same so f here = f v (subst (λ x. IfOk x P) same so) here
both_so (Err e) first P Q Is same so f here = absurd here

-- the disks and the starts, where the history is whole
pub whole_made : {A P V E : Type 0} (content : A → Option (List ℕ)) (faults : A → ℕ) (told : P → Option (List Act)) (sector : ℕ) (st : Setting) (h : List (Signed Entry))
    (seats first : Result V E) (items : V → List (SeatState Entry)) (delta delta' resource resource' : List (Disk A)) (x : P) (y : Starter P) (end : Result Unit CloseError)
    → Tells (told x) [] → IfOk seats (λ v. first ≡ Ok v) → IfOk first (λ v. AreServing content faults told sector st delta delta' resource resource' x y (items v))
    → OnWhole end (IsOkAnd seats (λ v. AreOf st h (items v))) → OnWhole end (AreMadeBy content faults told sector st (entries h) delta delta' resource resource' y)
whole_made content faults told sector st h seats first items delta delta' resource resource' x y end none same so whole =
    whole_on end (IsOkAnd seats (λ v. AreOf st h (items v))) (AreMadeBy content faults told sector st (entries h) delta delta' resource resource' y)
    (both_so seats first (λ v. AreServing content faults told sector st delta delta' resource resource' x y (items v)) (λ v. AreOf st h (items v)) _ same so
    (λ v a of. made_served content faults told sector st (items v) h delta delta' resource resource' x y none a of)) whole

-- what holds where the history is whole holds with what else does
whole_both : (end : Result Unit CloseError) (X Y Z : Type 0) → (X → Y → Z) → OnWhole end X → OnWhole end Y → OnWhole end Z
whole_both (Ok u) X Y Z f x y = f x y
whole_both (Err (close.Line number)) X Y Z f x y = f x y
whole_both (Err (close.Left left)) X Y Z f x y = f x y
whole_both (Err (close.Differ d)) X Y Z f x y = tt
whole_both (Err close.NoMemory) X Y Z f x y = tt

-- .. or want of memory, which is told in its place
pub or_memory : (end first : Result Unit CloseError) (P : Result Unit CloseError → Type 0) → P (Err close.NoMemory) → (end ≡ first) ⊎ (end ≡ Err close.NoMemory) → P first → P end
or_memory end first P none (inl same) so = subst P (sym same) so
or_memory end first P none (inr is) so = subst P (sym is) none

pub whole_from : (end : Result Unit CloseError) (whole : Bool) (Holds : Type 0) → OnWhole end (whole ≡ true) → (whole ≡ true → Holds) → OnWhole end Holds
whole_from end whole Holds is so = whole_on end (whole ≡ true) Holds so is

-- threads have run, and the printer has put out all unless there was no memory
pub has_run : {D J O T A P S E : Type 0} (content : A → Option (List ℕ)) (faults : A → ℕ) (spawned : P → Option (List Act)) (sector : ℕ) (stands : D → Setting → Trace → Type 0) (st : Setting) (t : Telling)
    (a : AlongState) (p : Printer J O T) (seats : Result S E) (delta resource : List (Disk A)) (y : Starter P) (r : Ran O T A P)
    → r.reader ≡ p.reader → r.writer ≡ p.writer → p.writer.by ≡ p.reader.by
    → (OnOk seats (IsPrinting t a (entries p.mine) p) → EndsSo stands st a p r.end)
    → OnOk seats (IsPrinting t a (entries p.mine) p × (p.text.items ≡ [])) → OnOk r.end ((p.wrong ≡ None) × IsOk seats)
    → ((v : Telling) → (b : AlongState) → (g : List Entry) → IsAudit v b g p.audit → r.replies ≡ count_replies b g) → r.entries ≡ length p.mine
    → OnWhole r.end (AreMadeBy content faults spawned sector st (entries p.mine) delta r.delta.items resource r.resource.items y)
    → OnWhole r.end (HasSignalled (entries p.mine) r.spawners.killed (spawned r.spawners.signals)) → OnWhole r.end (y.killed ≡ true → r.spawners.killed ≡ true)
    → r.spawners.starts ≡ y.spawner → HasRun content faults spawned sector stands st t a delta resource r
has_run {P = P} content faults spawned sector stands st t a p seats delta resource y r reader writer by ends all right count long made signals killed starts = record {
  by = ap (λ (s : SeatState (List ℕ)). s.by) writer ∙ by ∙ sym (ap (λ (x : ReaderState GivenLine). x.by) reader);
  history = entries p.mine;
  ends = subst (λ (x : ReaderState GivenLine). EndsWith stands st a (entries p.mine) (lines_read x) r.end) (sym reader) (ends (on_first _ _ seats all));
  told = subst (λ (s : SeatState (List ℕ)). Told t a (entries p.mine) r.reader s r.replies r.end) (sym writer)
      (subst (λ (x : ReaderState GivenLine). Told t a (entries p.mine) x p.writer r.replies r.end) (sym reader) (told_so t a p r.replies seats r.end all right count));
  counted = counts_entries p.mine r.entries r.end long;
  delta = whole_on r.end (AreMadeBy content faults spawned sector st (entries p.mine) delta r.delta.items resource r.resource.items y)
      (ServedDisks content faults sector st Delta (entries p.mine) delta r.delta.items) (λ m. m.delta_served) made;
  resource = whole_on r.end (AreMadeBy content faults spawned sector st (entries p.mine) delta r.delta.items resource r.resource.items y)
      (ServedDisks content faults sector st Resource (entries p.mine) resource r.resource.items) (λ m. m.resource_served) made;
  signals = signals;
  starts = whole_both r.end (AreMadeBy content faults spawned sector st (entries p.mine) delta r.delta.items resource r.resource.items y)
      (y.killed ≡ true → r.spawners.killed ≡ true) (ServedStarts st (entries p.mine) r.spawners.killed (spawned r.spawners.starts))
      (λ m later. subst (λ (x : P). ServedStarts st (entries p.mine) r.spawners.killed (spawned x)) (sym starts)
      (starts_killed st (entries p.mine) y.killed r.spawners.killed (spawned y.spawner) later m.starts)) made killed;
}

-- they have not
pub has_not_run : {D O T A P : Type 0} (content : A → Option (List ℕ)) (faults : A → ℕ) (spawned : P → Option (List Act)) (sector : ℕ) (stands : D → Setting → Trace → Type 0) (st : Setting) (t : Telling)
    (a : AlongState) (delta resource : List (Disk A)) (r : Ran O T A P) → r.end ≡ Err close.NoMemory → r.writer.by ≡ r.reader.by
    → HasRun content faults spawned sector stands st t a delta resource r
has_not_run content faults spawned sector stands st t a delta resource r end by = record {
  by = by;
  history = [];
  ends = subst (EndsWith stands st a [] (lines_read r.reader)) (sym end) tt;
  told = subst (Told t a [] r.reader r.writer r.replies) (sym end) tt;
  counted = subst (Counts [] r.entries) (sym end) tt;
  delta = subst (λ x. OnWhole x (ServedDisks content faults sector st Delta [] delta r.delta.items)) (sym end) tt;
  resource = subst (λ x. OnWhole x (ServedDisks content faults sector st Resource [] resource r.resource.items)) (sym end) tt;
  signals = subst (λ x. OnWhole x (HasSignalled [] r.spawners.killed (spawned r.spawners.signals))) (sym end) tt;
  starts = subst (λ x. OnWhole x (ServedStarts st [] r.spawners.killed (spawned r.spawners.starts))) (sym end) tt;
}
