-- One machine's run, from what its threads, its script and the comparison say.
use Rattle.sl_book.proofs.SeatLaws.{mine_whole}
use Rattle.sl_book.specs.Closings.{AreExact}
use Rattle.sl_book.specs.Logs.{entries, given_by}
use Rattle.sl_book.specs.Mails.{LedgerState}
use Rattle.sl_book.specs.Seats.{IsMine, SeatState}
use Rattle.sl_book.specs.declared.signed.Signed.{Signed}
use Rattle.sl_cell.specs.declared.part.Part.TheVariants.{Delta, Resource}
use Rattle.sl_live_lines.specs.AuditedHistory.{AreLines}
use Rattle.sl_live_lines.specs.EventTexts.{Telling}
use Rattle.sl_live_lines.specs.LiveTexts.{history_text}
use Rattle.sl_live_lines.specs.LocksAlong.{AlongState}
use Rattle.sl_live_lines.specs.declared.given_lines.GivenLine.{GivenLine}
use Rattle.sl_live.specs.CarriedOut.{HasSignalled}
use Rattle.sl_live_machine.specs.MachineEnds.{EndsWith, HasRun, HasTold as HasToldOf, OnWhole, Told}
use Rattle.sl_live_machine.specs.Printing.{lines_read}
use Rattle.sl_live_machine.specs.ServedActs.{ServedStarts}
use Rattle.sl_live_machine.specs.ServedDisks.{ServedDisks}
use Rattle.sl_live_machine.specs.declared.machine.Parts.{Parts}
use Rattle.sl_live_machine.specs.declared.machine.Ran.{Ran}
use Rattle.sl_live_run.proofs.CaseLaws.{case_so, met}
use Rattle.sl_live_run.proofs.RunLaws.{if_err_on, if_ok_on}
use Rattle.sl_live_run.specs.Runs.{AreGiven, Both, CanRun, HasPutOut, HasTold, IsFresh, IsLiveCase, Leavings, Runs, begun_on, begun_telling, disks_in, lines_for, refusals_text, remains_of}
use Rattle.sl_live_run.specs.Settling.{remains_after}
use Rattle.sl_live_run.specs.declared.compare.LiveDiffer.{LiveDiffer}
use Rattle.sl_live_run.specs.declared.compare.LiveStop.TheVariants.{Differ, NoMemory}
use Rattle.sl_live_run.specs.declared.compare.LiveStop.{LiveStop}
use Rattle.sl_live_run.specs.declared.machine_runs.Machine.{Machine}
use Rattle.sl_live_run.specs.declared.machine_runs.Work.{Work}
use Rattle.sl_live_run.specs.declared.run.LiveRun.{LiveRun}
use Rattle.sl_outside.specs.Acts.{Tells}
use Rattle.sl_outside.specs.declared.act.Act.{Act}
use Rattle.sl_output.specs.Outputs.{IsPut}
use Rattle.sl_output.specs.Pieces.{Piece, text_by}
use Rattle.sl_own.specs.OwnRuns.{HasRunOwn, HasToldOwn, IsOwnStop}
use Rattle.sl_own.specs.OwnSettling.{ArePieces, HasLeftOwn, IsCaseOf, IsSettled, Stops}
use Rattle.sl_reader.specs.declared.live_lines.LiveLine.{LiveLine}
use Rattle.sl_run.specs.Headers.{IsHeader}
use Rattle.sl_run.specs.Lawful.{IsSetting}
use Rattle.sl_run.specs.declared.header.Header.{Header}
use Rattle.sl_text.specs.Forms.{Form}
use Rattle.sl_trace.specs.Traces.{Setting, Trace}
use Rattle.sl_trace.specs.declared.command.Command.{Command}
use Rattle.sl_trace.specs.declared.effects.Entry.{Entry}
use Rattle.sl_words.proofs.CaseLaws.{some_value}
use Rattle.sl_world_state.specs.Daemons.{begun_with}
use Rattle.sl_world_state.specs.declared.daemon.Site.{Site}
use Rattle.std.proofs.Common.{List, ap, arith, inl, inr, length, map, refl, subst, sym, zero, suc, ◌++◌, ◌+◌, ◌<◌, ◌≤◌, ◌∙◌, ◌∷◌, ◌≡◌, ◌⊎◌, [], ℕ}
use Rattle.std.proofs.lemmas.List.Elements.{All-head, All-tail}
use Rattle.std.specs.List.{concat}
use Rattle.std.specs.Prelude.{All, Bool, Err, IfErr, IfOk, IfSome, IsOk, Ok, Option, Result, Some, false}
use mathlib.Core.List.{IsPrefix}

-- ---- seats that make up a log

exact_front : {E : Type 0} (k : ℕ) (xs ys : List (SeatState E)) (h : List (Signed E)) → AreExact k (xs ++ ys) h → AreExact k xs h
exact_front k [] ys h so = tt
exact_front k (x ∷ xs) ys h so = (so.0, exact_front (k + 1) xs ys h so.1)

exact_behind : {E : Type 0} (k : ℕ) (xs ys : List (SeatState E)) (h : List (Signed E)) → AreExact k (xs ++ ys) h → AreExact (k + length xs) ys h
exact_behind k [] ys h so = subst (λ (n : ℕ). AreExact n ys h) (omega arith) so
exact_behind k (x ∷ xs) ys h so = subst (λ (n : ℕ). AreExact n ys h) (omega arith) (exact_behind (k + 1) xs ys h so.1)

-- Nothing was put at the places of seats that counted nothing.
none_given : {E : Type 0} (k other : ℕ) (ss : List (SeatState E)) (h : List (Signed E)) → AreExact k ss h → All (λ (s : SeatState E). s.count ≡ 0) ss → k ≤ other → other < k + length ss
    → length (given_by other h) ≡ 0
none_given k other [] h so none low high = absurd (omega (arith, low, high))
none_given {E} k other (s ∷ ss) h so none low high = elim (same_or_behind k other low) [
  | inl is ↦ ap (λ (n : ℕ). length (given_by n h)) is ∙ sym so.0.2 ∙ All-head (λ (x : SeatState E). x.count ≡ 0) s ss none
  | inr past ↦ none_given (k + 1) other ss h so.1 (All-tail (λ (x : SeatState E). x.count ≡ 0) s ss none) past (omega (arith, high))
]
  where
    same_or_behind : (k other : ℕ) → k ≤ other → (other ≡ k) ⊎ (k + 1 ≤ other)
    same_or_behind zero zero le = inl refl
    same_or_behind zero (suc n) le = inr (omega arith)
    same_or_behind (suc m) zero le = absurd (omega (arith, le))
    same_or_behind (suc m) (suc n) le = elim (same_or_behind m n (omega (arith, le))) [ inl is ↦ inl (ap suc is) | inr past ↦ inr (omega (arith, past)) ]

no_list : {A : Type 0} (xs : List A) → length xs ≡ 0 → xs ≡ []
no_list [] none = refl
no_list (x ∷ xs) none = absurd (omega (arith, none))

-- The pieces of a place are those that were put with its number.
put_at : (place : ℕ) (writer : SeatState (List ℕ)) (texts : List (List ℕ)) (pieces : List Piece) → (writer.by ≡ place) × IsPrefix writer.front pieces × (writer.count ≡ length (given_by place pieces))
    → IsMine writer texts → text_by place pieces ≡ concat texts
put_at place writer texts pieces seat mine =
    let mine_all : texts ≡ entries (given_by writer.by pieces)
    = mine_whole writer pieces texts seat.1 (seat.2 ∙ ap (λ k. length (given_by k pieces)) (sym seat.0)) mine in
    sym (ap concat (mine_all ∙ ap (λ k. entries (given_by k pieces)) seat.0))

told_well : {T E : Type 0} (machines : ℕ) (before after : List LiveLine → Type 0) (l : LedgerState GivenLine) (w : SeatState (List ℕ)) (told : Result T E) → IsOk told
    → (so : HasTold machines before after l w told) → AreGiven l machines so.lines × HasPutOut w (refusals_text so.lines)
told_well machines before after l w (Ok t) ok so = (so.texts, so.refused)
told_well machines before after l w (Err e) ok so = absurd (cc ok)

-- ---- a whole history

pub own_told : {D O T A P T' E : Type 0} (content : A → Option (List ℕ)) (area_faults : A → ℕ) (spawned : P → Option (List Act)) (events : Bool) (stands : D → Setting → Trace → Type 0)
    (commands : Header → List (Form Command)) (header : Header) (place : ℕ) (site : Site) (disks : Both A) (before after : List LiveLine → Type 0) (early : Bool) (l : LedgerState GivenLine)
    (w : SeatState (List ℕ)) (told : Result T' E) (pieces : List Piece) (replies : ℕ) (r : Ran O T A P)
    → HasRun content area_faults spawned header.geometry.sector stands (begun_with commands header site) (begun_telling events header site) (begun_on header site) disks.0 disks.1 r
    → r.reader.by ≡ place → HasTold (place + 1) before after l w told → (early ≡ false → IsOk told) → IsSettled early l r replies → ArePieces w place r pieces
    → HasToldOwn content area_faults spawned events stands commands header place site disks before after pieces replies (remains_after r)
own_told content area_faults spawned events stands commands header place site disks before after early l w told pieces replies r run by tells in_time settled so =
    let st : Setting = begun_with commands header site in
    let t : Telling = begun_telling events header site in
    let a : AlongState = begun_on header site in
    let h : List Entry = run.history in
    let well = told_well (place + 1) before after l w told (in_time settled.in_time) tells in
    let ends : EndsWith stands st a h (lines_read r.reader) (Ok tt) = subst (EndsWith stands st a h (lines_read r.reader)) settled.ended run.ends in
    let read : lines_read r.reader ≡ lines_for (place + 1) tells.lines
    = ap entries settled.read ∙ ap (λ k. entries (given_by k l.front)) by ∙ well.0.each place (omega arith) in
    let its : HasToldOf t a h r.reader r.writer r.replies = subst (Told t a h r.reader r.writer r.replies) settled.ended run.told in
    let counted : length so.before ≡ place = so.counted in
    let at : 0 + length so.before ≡ place = omega (arith, counted) in
    let here : AreExact place (r.writer ∷ w ∷ []) pieces = subst (λ (n : ℕ). AreExact n (r.writer ∷ w ∷ []) pieces) at (exact_behind 0 so.before (r.writer ∷ w ∷ []) pieces so.exact) in
    record {
      lines = tells.lines;
      gave = tells.gave;
      history = h;
      live = record { whole = ends.0; lines = subst (AreLines a h) read ends.1.0; answered = ends.1.1 };
      text = put_at place r.writer its.texts pieces here.0 its.mine ∙ its.text ∙ ap (λ k. history_text (k + 1) t a h) by;
      refused = put_at (place + 1) w well.1.texts pieces here.1.0 well.1.mine ∙ well.1.text_is;
      others = λ other less.
          ap (λ xs. concat (entries xs)) (no_list (given_by other pieces)
          (none_given 0 other so.before pieces (exact_front 0 so.before (r.writer ∷ w ∷ []) pieces so.exact) so.none (omega arith) (omega (arith, less, counted))));
      below = so.below;
      count = settled.count ∙ its.count;
      served = record {
        delta = subst (λ x. OnWhole x (ServedDisks content area_faults header.geometry.sector st Delta h disks.0 r.delta.items)) settled.ended run.delta;
        resource = subst (λ x. OnWhole x (ServedDisks content area_faults header.geometry.sector st Resource h disks.1 r.resource.items)) settled.ended run.resource;
        signals = subst (λ x. OnWhole x (HasSignalled h r.spawners.killed (spawned r.spawners.signals))) settled.ended run.signals;
        starts = subst (λ x. OnWhole x (ServedStarts st h r.spawners.killed (spawned r.spawners.starts))) settled.ended run.starts;
      };
    }

-- ---- a case

pub own_stop : {D O T A P T' E : Type 0} (content : A → Option (List ℕ)) (area_faults : A → ℕ) (spawned : P → Option (List Act)) (events : Bool) (stands : D → Setting → Trace → Type 0)
    (commands : Header → List (Form Command)) (header : Header) (place : ℕ) (site : Site) (disks : Both A) (before after : List LiveLine → Type 0) (early : Bool) (l : LedgerState GivenLine)
    (w : SeatState (List ℕ)) (told : Result T' E) (s : LiveStop) (r : Ran O T A P)
    → HasRun content area_faults spawned header.geometry.sector stands (begun_with commands header site) (begun_telling events header site) (begun_on header site) disks.0 disks.1 r
    → r.reader.by ≡ place → HasTold (place + 1) before after l w told → (early ≡ false → IsOk told) → Stops early (place + 1) l r s
    → IsOwnStop stands commands header place site before after s
own_stop content area_faults spawned events stands commands header place site disks before after early l w told NoMemory r run by tells in_time so = tt
own_stop content area_faults spawned events stands commands header place site disks before after early l w told (Differ m d) r run by tells in_time so =
    let st : Setting = begun_with commands header site in
    let a : AlongState = begun_on header site in
    let due : List GivenLine = lines_for m tells.lines in
    let first : IsPrefix (entries (given_by r.reader.by l.front)) due
    = subst (λ k. IsPrefix (entries (given_by r.reader.by l.front)) (lines_for k tells.lines)) (sym so.0)
    (subst (λ k. IsPrefix (entries (given_by k l.front)) (lines_for (place + 1) tells.lines)) (sym by) (tells.first.each place (omega arith))) in
    let exact : early ≡ false → entries (given_by r.reader.by l.front) ≡ due
    = λ t. ap (λ k. entries (given_by k l.front)) by ∙ (told_well (place + 1) before after l w told (in_time t) tells).0.each place (omega arith)
    ∙ ap (λ k. lines_for k tells.lines) (sym so.0) in
    record {
      numbered = so.0;
      lines = tells.lines;
      gave = tells.gave;
      case_of = case_so stands st a run.history (lines_read r.reader) due early so.1.reading r.end r.entries d run.ends run.counted (met early so.1.reading r.reader l due first exact so.1.read) so.1.case_is;
    }

-- ---- the whole run

-- A machine that was begun with fresh work can run.
pub can_run_one : {C P V A O T : Type 0} (spawned : P → Option (List Act)) (commands : Header → List (Form Command)) (h : Header) (work : Work C P V A O T) (m : Machine C P V A O T)
    → m.work ≡ Some work → IsHeader h → IsSetting (begun_with commands h work.site) → IsFresh work → Tells (spawned work.parts.spawner) [] → CanRun spawned commands h m
can_run_one {C} {P} {V} {A} {O} {T} spawned commands h work m begun lawful setting fresh unasked = (
  lawful,
  subst (λ (o : Option (Work C P V A O T)). IfSome o (λ w. IsSetting (begun_with commands h w.site) × IsFresh w × Tells (spawned w.parts.spawner) [])) (sym begun) (setting, fresh, unasked),
)

-- What the machine that was begun has left is of what it began with.
ran_here : {D C P V A O T : Type 0} (content : A → Option (List ℕ)) (area_faults : A → ℕ) (spawned : P → Option (List Act)) (events : Bool) (stands : D → Setting → Trace → Type 0)
    (commands : Header → List (Form Command)) (header : Header) (work : Work C P V A O T) (old new : Machine C P V A O T) (r : Ran O T A P) → old.work ≡ Some work
    → Runs content area_faults spawned events commands stands header old new → new.ran ≡ Some r
    → HasRun content area_faults spawned header.geometry.sector stands (begun_with commands header work.site) (begun_telling events header work.site) (begun_on header work.site)
    work.parts.delta.items work.parts.resource.items r × (r.reader.by ≡ work.reader.by)
ran_here {D} {C} {P} {V} {A} {O} {T} content area_faults spawned events stands commands header work old new r begun runs at =
    let Leaves = λ (w : Work C P V A O T) (x : Ran O T A P).
    HasRun content area_faults spawned header.geometry.sector stands (begun_with commands header w.site) (begun_telling events header w.site) (begun_on header w.site)
    w.parts.delta.items w.parts.resource.items x × (x.reader.by ≡ w.reader.by) in
    let here : IfSome new.ran (Leaves work) = subst (λ (o : Option (Work C P V A O T)). IfSome o (λ w. IfSome new.ran (Leaves w))) begun runs in
    subst (λ (o : Option (Ran O T A P)). IfSome o (Leaves work)) at here

pub has_run_own : {D K C P V A O T T' E : Type 0} (content : A → Option (List ℕ)) (area_faults : A → ℕ) (spawned : P → Option (List Act)) (events : Bool) (stands : D → Setting → Trace → Type 0)
    (commands : Header → List (Form Command)) (header : Header) (place : ℕ) (work : Work C P V A O T) (old new : Machine C P V A O T) (before after : List LiveLine → Type 0) (early : Bool)
    (l : LedgerState GivenLine) (w : SeatState (List ℕ)) (told : Result T' E) (taken now : Option (List ℕ)) (faults later : ℕ) (r : LiveRun K A P)
    → old.work ≡ Some work → work.reader.by ≡ place → Runs content area_faults spawned events commands stands header old new
    → HasTold (place + 1) before after l w told → (early ≡ false → IsOk told) → HasLeftOwn early (place + 1) place l w new taken now faults later r
    → HasRunOwn content area_faults spawned events stands commands header place work.site (disks_in work.parts) before after taken now faults later r
has_run_own {D} {K} {C} {P} {V} {A} {O} {T} content area_faults spawned events stands commands header place work old new before after early l w told taken now faults later r begun by runs tells in_time left = record {
  pieces = left.pieces;
  put = left.put;
  ok = if_ok_on r.replies
      (λ n. (ran : Ran O T A P) × (new.ran ≡ Some ran) × IsSettled early l ran n × ArePieces w place ran left.pieces × (map remains_of r.remains.items ≡ remains_after ran ∷ []))
      (λ n. (r.machines ≡ 1) × (left_over : Leavings A P) × (map remains_of r.remains.items ≡ left_over ∷ [])
      × HasToldOwn content area_faults spawned events stands commands header place work.site (disks_in work.parts) before after left.pieces n left_over)
      (λ n so.
      let run = ran_here content area_faults spawned events stands commands header work old new so.0 begun runs so.1 in (
        left.one,
        remains_after so.0,
        so.4,
        own_told content area_faults spawned events stands commands header place work.site (disks_in work.parts) before after early l w told left.pieces n so.0 run.0 (run.1 ∙ by) tells in_time
            so.2 so.3,
      )) left.ok;
  stop = if_err_on r.replies (λ s. (s ≡ NoMemory) ⊎ ((ran : Ran O T A P) × (new.ran ≡ Some ran) × Stops early (place + 1) l ran s)) (IsOwnStop stands commands header place work.site before after)
      (stops_own content area_faults spawned events stands commands header place work old new before after early l w told begun by runs tells in_time) left.stop;
}
  where
    stops_own : {D C P V A O T T' E : Type 0} (content : A → Option (List ℕ)) (area_faults : A → ℕ) (spawned : P → Option (List Act)) (events : Bool) (stands : D → Setting → Trace → Type 0)
        (commands : Header → List (Form Command)) (header : Header) (place : ℕ) (work : Work C P V A O T) (old new : Machine C P V A O T) (before after : List LiveLine → Type 0) (early : Bool)
        (l : LedgerState GivenLine) (w : SeatState (List ℕ)) (told : Result T' E)
        → old.work ≡ Some work → work.reader.by ≡ place → Runs content area_faults spawned events commands stands header old new
        → HasTold (place + 1) before after l w told → (early ≡ false → IsOk told) → (s : LiveStop)
        → (s ≡ NoMemory) ⊎ ((ran : Ran O T A P) × (new.ran ≡ Some ran) × Stops early (place + 1) l ran s)
        → IsOwnStop stands commands header place work.site before after s
    stops_own content area_faults spawned events stands commands header place work old new before after early l w told begun by runs tells in_time s (inl is) =
        subst (IsOwnStop stands commands header place work.site before after) (sym is) tt
    stops_own content area_faults spawned events stands commands header place work old new before after early l w told begun by runs tells in_time s (inr so) =
        let run = ran_here content area_faults spawned events stands commands header work old new so.0 begun runs so.1 in
        own_stop content area_faults spawned events stands commands header place work.site (disks_in work.parts) before after early l w told s so.0 run.0 (run.1 ∙ by) tells in_time so.2

-- There was no memory to run.
pub no_run_own : {D K A P : Type 0} (content : A → Option (List ℕ)) (area_faults : A → ℕ) (spawned : P → Option (List Act)) (events : Bool) (stands : D → Setting → Trace → Type 0)
    (commands : Header → List (Form Command)) (header : Header) (place : ℕ) (site : Site) (disks : Both A) (before after : List LiveLine → Type 0)
    (taken now : Option (List ℕ)) (faults later : ℕ) (r : LiveRun K A P) → r.replies ≡ Err NoMemory → (ps : List Piece) × IsPut taken now faults later ps r.cut
    → HasRunOwn content area_faults spawned events stands commands header place site disks before after taken now faults later r
no_run_own {D} {K} {A} {P} content area_faults spawned events stands commands header place site disks before after taken now faults later r is put = record {
  pieces = put.0;
  put = put.1;
  ok = subst (λ (x : Result ℕ LiveStop). IfOk x (λ n. (r.machines ≡ 1) × (left : Leavings A P) × (map remains_of r.remains.items ≡ left ∷ [])
      × HasToldOwn content area_faults spawned events stands commands header place site disks before after put.0 n left)) (sym is) tt;
  stop = subst (λ (x : Result ℕ LiveStop). IfErr x (IsOwnStop stands commands header place site before after)) (sym is) tt;
}

-- The site and the disks are those of what was ready.
pub run_as_ready : {D K C P V A O T : Type 0} (content : A → Option (List ℕ)) (area_faults : A → ℕ) (spawned : P → Option (List Act)) (events : Bool) (stands : D → Setting → Trace → Type 0)
    (commands : Header → List (Form Command)) (header : Header) (place : ℕ) (w : Work C P V A O T) (site : Site) (parts : Parts C P V A) (before after : List LiveLine → Type 0)
    (taken now : Option (List ℕ)) (faults later : ℕ) (r : LiveRun K A P) → w.site ≡ site → w.parts ≡ parts
    → HasRunOwn content area_faults spawned events stands commands header place w.site (disks_in w.parts) before after taken now faults later r
    → HasRunOwn content area_faults spawned events stands commands header place site (disks_in parts) before after taken now faults later r
run_as_ready {D} {K} {C} {P} {V} {A} {O} {T} content area_faults spawned events stands commands header place w site parts before after taken now faults later r as_site as_parts so =
    subst (λ (p : Parts C P V A). HasRunOwn content area_faults spawned events stands commands header place site (disks_in p) before after taken now faults later r) as_parts
    (subst (λ (s : Site). HasRunOwn content area_faults spawned events stands commands header place s (disks_in w.parts) before after taken now faults later r) as_site so)
