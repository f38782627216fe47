-- A whole run, from what its machines, its script and the comparison say.
use Rattle.sl_book.proofs.SeatLaws.{mine_whole}
use Rattle.sl_book.specs.Closings.{AreBelow, AreExact}
use Rattle.sl_book.specs.Logs.{entries, given_by}
use Rattle.sl_book.specs.Mails.{LedgerState}
use Rattle.sl_book.specs.Seats.{IsMine, SeatState}
use Rattle.sl_book.specs.declared.signed.Signed.{Signed}
use Rattle.sl_cell.specs.declared.part.Part.TheVariants.{Delta, Resource}
use Rattle.sl_live.specs.CarriedOut.{HasSignalled}
use Rattle.sl_live.specs.declared.disks.Disk.{Disk}
use Rattle.sl_live_lines.specs.EventTexts.{Telling}
use Rattle.sl_live_lines.specs.LiveTexts.{count_replies, history_text}
use Rattle.sl_live_lines.specs.LocksAlong.{AlongState}
use Rattle.sl_live_lines.specs.AuditedHistory.{AreLines}
use Rattle.sl_live_lines.specs.declared.given_lines.GivenLine.{GivenLine}
use Rattle.sl_live_machine.specs.MachineEnds.{Counts, EndsWith, HasRun, HasTold as HasToldOf, OnWhole, Told}
use Rattle.sl_live_machine.specs.ServedActs.{ServedStarts}
use Rattle.sl_live_machine.specs.ServedDisks.{ServedDisks}
use Rattle.sl_live_machine.specs.Printing.{lines_read}
use Rattle.sl_live_machine.specs.declared.machine.CloseError.TheVariants.{NoMemory as NoMemoryClose}
use Rattle.sl_live_machine.specs.declared.machine.Ran.{Ran}
use Rattle.sl_live_run.proofs.CaseLaws.{case_so, met}
use Rattle.sl_live_run.proofs.GivenLaws.{no_lines}
use Rattle.sl_live_run.specs.Runs.{AreFresh, AreGiven, AreServed, Both, CanRun, HasPutOut, HasRunAll, HasTold, HasToldAll, IsFresh, IsLiveHistory, IsLiveStop, IsTold, Leavings, LiveCaseOf, Runs, begun_on, begun_telling, disks_in, disks_of, lines_for, refusals_text, remains_of, replies_of, site_of, spawner_of}
use Rattle.sl_live_run.specs.Settling.{AreAllWhole, AreRansOf, AreWhole, HasLeft, IsCaseOf, StopsOne, StopsSome, remains_after}
use Rattle.sl_live_run.specs.declared.compare.LiveDiffer.{LiveDiffer}
use Rattle.sl_live_run.specs.declared.compare.LiveStop.TheVariants.{Differ, NoMemory}
use Rattle.sl_live_run.specs.declared.compare.LiveStop.{LiveStop}
use Rattle.sl_live_run.specs.declared.machine_runs.Machine.{Machine}
use Rattle.sl_live_run.specs.declared.machine_runs.Work.{Work}
use Rattle.sl_live_run.specs.declared.run.LiveRun.{LiveRun}
use Rattle.sl_live_run.specs.declared.run.Remains.{Remains}
use Rattle.sl_outside.specs.Acts.{Tells}
use Rattle.sl_outside.specs.declared.act.Act.{Act}
use Rattle.sl_output.specs.Outputs.{IsPut}
use Rattle.sl_output.specs.Pieces.{Piece, text_by}
use Rattle.sl_reader.specs.declared.live_lines.LiveLine.{LiveLine}
use Rattle.sl_run.specs.Headers.{IsHeader}
use Rattle.sl_run.specs.Lawful.{IsSetting}
use Rattle.sl_run.specs.declared.header.Header.{Header}
use Rattle.sl_text.specs.Forms.{Form}
use Rattle.sl_trace.specs.Traces.{Setting, Trace}
use Rattle.sl_trace.specs.declared.command.Command.{Command}
use Rattle.sl_trace.specs.declared.effects.Entry.{Entry}
use Rattle.sl_words.proofs.CaseLaws.{none_some, some_value}
use Rattle.sl_words.proofs.Lists.{got_index, there_is}
use Rattle.sl_words.proofs.Places.{Came, PlacedBehind, Stood, placed_behind}
use Rattle.sl_world_state.specs.Daemons.{begun_with}
use Rattle.sl_world_state.specs.declared.daemon.Site.{Site}
use Rattle.std.proofs.Common.{List, ap, ap₂, arith, inl, inr, length, map, refl, slice_index_or, subst, suc, sym, zero, ◌++◌, ◌+◌, ◌<◌, ◌∙◌, ◌∷◌, ◌≡◌, ◌⊎◌, [], ℕ, take}
use Rattle.std.proofs.lemmas.List.Sums.{sum_by-cons}
use Rattle.std.proofs.lemmas.List.{length-map, map-append, take-append-le, take_all}
use Rattle.std.specs.List.{concat, sum_by}
use Rattle.std.specs.Prelude.{All, Bool, Err, IfErr, IfOk, IfSome, IsOk, None, Ok, Option, Result, Some, false, option_map, slice_get}
use mathlib.Core.List.{IsPrefix}

-- ---- lists

inside : {A : Type 0} (xs : List A) (k : ℕ) (x : A) → slice_get xs k ≡ Some x → k < length xs
inside [] k x at = absurd (none_some x at)
inside (y ∷ xs) zero x at = omega arith
inside (y ∷ xs) (suc k) x at = let rest = inside xs k x at in omega (arith, rest)

got_map : {A B : Type 0} (f : A → B) (xs : List A) (k : ℕ) (y : B) → slice_get (map f xs) k ≡ Some y → (x : A) × (slice_get xs k ≡ Some x) × (f x ≡ y)
got_map f [] k y at = absurd (none_some y at)
got_map f (x ∷ xs) zero y at = (x, refl, some_value (f x) y at)
got_map f (x ∷ xs) (suc k) y at = got_map f xs k y at

map_got : {A B : Type 0} (f : A → B) (xs : List A) (k : ℕ) (x : A) → slice_get xs k ≡ Some x → slice_get (map f xs) k ≡ Some (f x)
map_got f [] k x at = absurd (none_some x at)
map_got f (y ∷ xs) zero x at = ap Some (ap f (some_value y x at))
map_got f (y ∷ xs) (suc k) x at = map_got f xs k x at

-- A list's elements that were lent and come back, as many as there were, stand in its place.
pub lent_back : {T : Type 0} (xs lent new behind : List T) (len : ℕ) → len ≡ length xs → lent ≡ xs → length new ≡ length lent → take len (new ++ behind) ≡ new
lent_back {T} xs lent new behind len whole same kept =
    let so : len ≡ length new = whole ∙ ap length (sym same) ∙ sym kept in
    take-append-le len new behind (omega (arith, so)) ∙ take_all len new (omega (arith, so))

-- What a call left, beside what it was given.
pub changed_on : {T : Type 0} (R : T → T → Type 0) (x x' y y' : T) → x' ≡ x → y' ≡ y → R x' y' → R x y
changed_on R x x' y y' first last so = subst (λ m. R m y) first (subst (λ m. R x' m) last so)

-- For each element there is one that fits it, so there is a list of them.
chosen_at : {A B : Type 0} (P : ℕ → A → B → Type 0) (x : A) (xs : List A) (y : B) (ys : List B) → P 0 x y
    → ((k : ℕ) (a : A) (b : B) → slice_get xs k ≡ Some a → slice_get ys k ≡ Some b → P (suc k) a b)
    → (k : ℕ) (a : A) (b : B) → slice_get (x ∷ xs) k ≡ Some a → slice_get (y ∷ ys) k ≡ Some b → P k a b
chosen_at P x xs y ys first rest zero a b at at_y = subst (λ u. P 0 u b) (some_value x a at) (subst (λ v. P 0 x v) (some_value y b at_y) first)
chosen_at P x xs y ys first rest (suc k) a b at at_y = rest k a b at at_y

chosen : {A B : Type 0} (P : ℕ → A → B → Type 0) (xs : List A) → ((k : ℕ) (x : A) → slice_get xs k ≡ Some x → (y : B) × P k x y)
    → (ys : List B) × (length ys ≡ length xs) × ((k : ℕ) (x : A) (y : B) → slice_get xs k ≡ Some x → slice_get ys k ≡ Some y → P k x y)
chosen P [] each = ([], refl, λ k x y at at_y. absurd (none_some x at))
chosen P (x ∷ xs) each =
    let first = each 0 x refl in
    let rest = chosen (λ k. P (suc k)) xs (λ k a at. each (suc k) a at) in
    (first.0 ∷ rest.0, ap suc rest.1, chosen_at P x xs first.0 rest.0 first.1 rest.2)

-- ---- one machine

-- What is left of the machine at a place, which had this site and these disks.
pub record RanAt {D O T A P : Type 0} (content : A → Option (List ℕ)) (area_faults : A → ℕ) (spawned : P → Option (List Act)) (events : Bool) (stands : D → Setting → Trace → Type 0)
    (commands : Header → List (Form Command)) (header : Header) (place : ℕ) (site : Site) (disks : Both A) (r : Ran O T A P) : Type 0 where
  pub run : HasRun content area_faults spawned header.geometry.sector stands (begun_with commands header site) (begun_telling events header site) (begun_on header site) disks.0 disks.1 r
  pub by : r.reader.by ≡ place

one_ran : {D C P V A O T : Type 0} (content : A → Option (List ℕ)) (area_faults : A → ℕ) (spawned : P → Option (List Act)) (events : Bool) (stands : D → Setting → Trace → Type 0)
    (commands : Header → List (Form Command)) (header : Header) (place : ℕ) (site : Site) (disks : Both A) (before : Option (Work C P V A O T)) (after : Option (Ran O T A P)) (r : Ran O T A P)
    → option_map (λ (w : Work C P V A O T). w.site) before ≡ Some site → option_map (λ (w : Work C P V A O T). disks_in w.parts) before ≡ Some disks → after ≡ Some r
    → IfSome before (λ w. (w.reader.by ≡ place) × IsFresh w)
    → IfSome before (λ w. IfSome after (λ x. HasRun content area_faults spawned header.geometry.sector stands (begun_with commands header w.site) (begun_telling events header w.site)
    (begun_on header w.site) w.parts.delta.items w.parts.resource.items x × (x.reader.by ≡ w.reader.by)))
    → RanAt content area_faults spawned events stands commands header place site disks r
one_ran content area_faults spawned events stands commands header place site disks None after r at had is fresh run = absurd (none_some site at)
one_ran {D} {C} {P} {V} {A} {O} {T} content area_faults spawned events stands commands header place site disks (Some w) after r at had is fresh run =
    let same : w.site ≡ site = some_value w.site site at in
    let own : disks_in w.parts ≡ disks = some_value (disks_in w.parts) disks had in
    let here : HasRun content area_faults spawned header.geometry.sector stands (begun_with commands header w.site) (begun_telling events header w.site) (begun_on header w.site)
    w.parts.delta.items w.parts.resource.items r × (r.reader.by ≡ w.reader.by)
    = subst (λ (o : Option (Ran O T A P)). IfSome o (λ x. HasRun content area_faults spawned header.geometry.sector stands (begun_with commands header w.site) (begun_telling events header w.site)
    (begun_on header w.site) w.parts.delta.items w.parts.resource.items x × (x.reader.by ≡ w.reader.by))) is run in
    let its : HasRun content area_faults spawned header.geometry.sector stands (begun_with commands header site) (begun_telling events header site) (begun_on header site)
    w.parts.delta.items w.parts.resource.items r
    = subst (λ s. HasRun content area_faults spawned header.geometry.sector stands (begun_with commands header s) (begun_telling events header s) (begun_on header s)
    w.parts.delta.items w.parts.resource.items r) same here.0 in
    record {
      run = subst (λ (b : Both A). HasRun content area_faults spawned header.geometry.sector stands (begun_with commands header site) (begun_telling events header site) (begun_on header site) b.0 b.1 r)
          own its;
      by = here.1 ∙ fresh.0;
    }

ran_at : {D C P V A O T : Type 0} (content : A → Option (List ℕ)) (area_faults : A → ℕ) (spawned : P → Option (List Act)) (events : Bool) (stands : D → Setting → Trace → Type 0)
    (commands : Header → List (Form Command)) (header : Header) (sites : List Site) (disks : List (Both A)) (olds news : List (Machine C P V A O T)) (rans : List (Ran O T A P))
    → map site_of olds ≡ map (λ s. Some s) sites → map disks_of olds ≡ map (λ d. Some d) disks → AreFresh olds
    → ((k : ℕ) → (d : Machine C P V A O T) → k < length olds → Runs content area_faults spawned events commands stands header (slice_index_or olds k d) (slice_index_or news k d))
    → AreRansOf news rans
    → (place : ℕ) (site : Site) (had : Both A) (r : Ran O T A P) → slice_get sites place ≡ Some site → slice_get disks place ≡ Some had → slice_get rans place ≡ Some r
    → RanAt content area_faults spawned events stands commands header place site had r
ran_at {D} {C} {P} {V} {A} {O} {T} content area_faults spawned events stands commands header sites disks olds news rans same own fresh each left place site had r at there came =
    let old = got_map site_of olds place (Some site) (ap (λ (xs : List (Option Site)). slice_get xs place) same ∙ map_got (λ s. Some s) sites place site at) in
    let new = got_map (λ (m : Machine C P V A O T). m.ran) news place (Some r)
    (ap (λ (xs : List (Option (Ran O T A P))). slice_get xs place) left ∙ map_got (λ (x : Ran O T A P). Some x) rans place r came) in
    let m : Machine C P V A O T = old.0 in
    let m' : Machine C P V A O T = new.0 in
    let its : disks_of m ≡ Some had
    = some_value (disks_of m) (Some had) (sym (map_got (λ (x : Machine C P V A O T). disks_of x) olds place m old.1)
    ∙ ap (λ (xs : List (Option (Both A))). slice_get xs place) own ∙ map_got (λ (d : Both A). Some d) disks place had there) in
    let run : Runs content area_faults spawned events commands stands header (slice_index_or olds place m) (slice_index_or news place m) = each place m (inside olds place m old.1) in
    let here : Runs content area_faults spawned events commands stands header m m'
    = changed_on (λ (x y : Machine C P V A O T). Runs content area_faults spawned events commands stands header x y) m (slice_index_or olds place m) m' (slice_index_or news place m)
    (got_index olds place m m old.1) (got_index news place m' m new.1) run in
    one_ran content area_faults spawned events stands commands header place site had m.work m'.ran r old.2 its new.2 (fresh place m old.1) here

-- ---- a whole history

got_left : {A : Type 0} (xs ys : List A) (k : ℕ) (x : A) → slice_get xs k ≡ Some x → slice_get (xs ++ ys) k ≡ Some x
got_left [] ys k x at = absurd (none_some x at)
got_left (y ∷ xs) ys zero x at = at
got_left (y ∷ xs) ys (suc k) x at = got_left xs ys k x at

got_last : {A : Type 0} (xs : List A) (x : A) → slice_get (xs ++ x ∷ []) (length xs) ≡ Some x
got_last [] x = refl
got_last (y ∷ xs) x = got_last xs x

exact_at : {E : Type 0} (k : ℕ) (ss : List (SeatState E)) (h : List (Signed E)) (i : ℕ) (s : SeatState E) → AreExact k ss h → slice_get ss i ≡ Some s
    → (s.by ≡ k + i) × IsPrefix s.front h × (s.count ≡ length (given_by (k + i) h))
exact_at k [] h i s so at = absurd (none_some s at)
exact_at {E} k (x ∷ ss) h zero s so at =
    let n : k ≡ k + 0 = omega arith in
    let same : x ≡ s = some_value x s at in
    subst (λ (y : SeatState E). (y.by ≡ k + 0) × IsPrefix y.front h × (y.count ≡ length (given_by (k + 0) h))) same
    (so.0.0 ∙ n, so.0.1, so.0.2 ∙ ap (λ j. length (given_by j h)) n)
exact_at {E} k (x ∷ ss) h (suc i) s so at =
    let n : (k + 1) + i ≡ k + suc i = omega arith in
    let rest = exact_at (k + 1) ss h i s so.1 at in
    (rest.0 ∙ n, rest.1, rest.2 ∙ ap (λ j. length (given_by j h)) n)

exact_left : {E : Type 0} (k : ℕ) (ss more : List (SeatState E)) (h : List (Signed E)) (i : ℕ) (s : SeatState E) → AreExact k (ss ++ more) h → slice_get ss i ≡ Some s
    → (s.by ≡ k + i) × IsPrefix s.front h × (s.count ≡ length (given_by (k + i) h))
exact_left k ss more h i s so at = exact_at k (ss ++ more) h i s so (got_left ss more i s at)

exact_last : {E : Type 0} (k : ℕ) (ss : List (SeatState E)) (s : SeatState E) (h : List (Signed E)) → AreExact k (ss ++ s ∷ []) h
    → (s.by ≡ k + length ss) × IsPrefix s.front h × (s.count ≡ length (given_by (k + length ss) h))
exact_last k ss s h so = exact_at k (ss ++ s ∷ []) h (length ss) s so (got_last ss s)

-- The pieces of a place are those that were put with its number.
put_at : (place : ℕ) (writer : SeatState (List ℕ)) (texts : List (List ℕ)) (pieces : List Piece) → writer.by ≡ place → IsPrefix writer.front pieces
    → writer.count ≡ length (given_by place pieces) → IsMine writer texts → text_by place pieces ≡ concat texts
put_at place writer texts pieces is_writer begins count mine =
    let mine_all : texts ≡ entries (given_by writer.by pieces)
    = mine_whole writer pieces texts begins (count ∙ ap (λ k. length (given_by k pieces)) (sym is_writer)) mine in
    sym (ap concat (mine_all ∙ ap (λ k. entries (given_by k pieces)) is_writer))

-- .. by its printer.
told_at : (t : Telling) (a : AlongState) (place by : ℕ) (h : List Entry) (writer : SeatState (List ℕ)) (texts : List (List ℕ)) (pieces : List Piece) → by ≡ place → writer.by ≡ place
    → IsPrefix writer.front pieces → writer.count ≡ length (given_by place pieces) → IsMine writer texts → concat texts ≡ history_text (by + 1) t a h
    → IsTold t a place h pieces
told_at t a place by h writer texts pieces is_by is_writer begins count mine text =
    put_at place writer texts pieces is_writer begins count mine ∙ text ∙ ap (λ k. history_text (k + 1) t a h) is_by

-- .. by the script's thread.
refused_at : (rans : ℕ) (seats : List (SeatState (List ℕ))) (w : SeatState (List ℕ)) (text : List ℕ) (pieces : List Piece) → length seats ≡ rans → AreExact 0 (seats ++ w ∷ []) pieces
    → HasPutOut w text → text_by rans pieces ≡ text
refused_at rans seats w text pieces many exact so =
    let seat = exact_last 0 seats w pieces exact in
    let place : 0 + length seats ≡ rans = omega (arith, many) in
    put_at rans w so.texts pieces (seat.0 ∙ place) seat.1 (seat.2 ∙ ap (λ k. length (given_by k pieces)) place) so.mine ∙ so.text_is

pub record IsHistoryAt {D O T A P : Type 0} (content : A → Option (List ℕ)) (area_faults : A → ℕ) (spawned : P → Option (List Act)) (events : Bool) (stands : D → Setting → Trace → Type 0)
    (commands : Header → List (Form Command)) (header : Header) (lines : List LiveLine) (disks : List (Both A)) (rans : List (Ran O T A P)) (pieces : List Piece) (place : ℕ) (site : Site)
    (h : List Entry) : Type 0 where
  pub ran : Ran O T A P
  pub there : slice_get rans place ≡ Some ran
  pub live : IsLiveHistory stands (begun_with commands header site) (begun_on header site) (lines_for (place + 1) lines) h
  pub told : IsTold (begun_telling events header site) (begun_on header site) place h pieces
  pub replies : ran.replies ≡ count_replies (begun_on header site) h
  pub had : Both A
  pub had_there : slice_get disks place ≡ Some had
  pub served : AreServed content area_faults spawned header.geometry.sector (begun_with commands header site) h had (remains_after ran)

history_at : {D O T A P : Type 0} (content : A → Option (List ℕ)) (area_faults : A → ℕ) (spawned : P → Option (List Act)) (events : Bool) (stands : D → Setting → Trace → Type 0)
    (commands : Header → List (Form Command)) (header : Header) (lines : List LiveLine) (disks : List (Both A)) (rans : List (Ran O T A P)) (pieces : List Piece) (l : LedgerState GivenLine)
    (w : SeatState (List ℕ)) (left : List (Remains A P)) (replies : ℕ) (early : Bool) → AreWhole early l w rans pieces left replies → (place : ℕ) (site : Site) (had : Both A) (r : Ran O T A P)
    → entries (given_by place l.front) ≡ lines_for (place + 1) lines → slice_get disks place ≡ Some had → slice_get rans place ≡ Some r
    → RanAt content area_faults spawned events stands commands header place site had r
    → (h : List Entry) × IsHistoryAt content area_faults spawned events stands commands header lines disks rans pieces place site h
history_at {D} {O} {T} {A} {P} content area_faults spawned events stands commands header lines disks rans pieces l w left replies early whole place site had r given there at so =
    let st : Setting = begun_with commands header site in
    let t : Telling = begun_telling events header site in
    let a : AlongState = begun_on header site in
    let run = so.run in
    let h : List Entry = run.history in
    let settled = whole.settled.each place r at in
    let ends : EndsWith stands st a h (lines_read r.reader) (Ok tt) = subst (EndsWith stands st a h (lines_read r.reader)) settled.0 run.ends in
    let read : lines_read r.reader ≡ lines_for (place + 1) lines = ap entries settled.1 ∙ ap (λ k. entries (given_by k l.front)) so.by ∙ given in
    let told : HasToldOf t a h r.reader r.writer r.replies = subst (Told t a h r.reader r.writer r.replies) settled.0 run.told in
    let seat = exact_left 0 (map (λ (x : Ran O T A P). x.writer) rans) (w ∷ []) pieces place r.writer whole.exact (map_got (λ (x : Ran O T A P). x.writer) rans place r at) in
    let zero_place : 0 + place ≡ place = omega arith in
    let by_place : r.writer.by ≡ place = run.by ∙ so.by in (
      h,
      record {
        ran = r;
        there = at;
        live = record { whole = ends.0; lines = subst (AreLines a h) read ends.1.0; answered = ends.1.1 };
        told = told_at t a place r.reader.by h r.writer told.texts pieces so.by by_place seat.1 (seat.2 ∙ ap (λ k. length (given_by k pieces)) zero_place) told.mine told.text;
        replies = told.count;
        had = had;
        had_there = there;
        served = record {
          delta = subst (λ x. OnWhole x (ServedDisks content area_faults header.geometry.sector st Delta h had.0 r.delta.items)) settled.0 run.delta;
          resource = subst (λ x. OnWhole x (ServedDisks content area_faults header.geometry.sector st Resource h had.1 r.resource.items)) settled.0 run.resource;
          signals = subst (λ x. OnWhole x (HasSignalled h r.spawners.killed (spawned r.spawners.signals))) settled.0 run.signals;
          starts = subst (λ x. OnWhole x (ServedStarts st h r.spawners.killed (spawned r.spawners.starts))) settled.0 run.starts;
        };
      },
    )

-- ---- all machines

counts : {C P V A O T : Type 0} (sites : List Site) (olds : List (Machine C P V A O T)) → map site_of olds ≡ map (λ s. Some s) sites → length olds ≡ length sites
counts {C} {P} {V} {A} {O} {T} sites olds same = sym (length-map olds (λ (m : Machine C P V A O T). site_of m)) ∙ ap length same ∙ length-map sites (λ s. Some s)

rans_count : {C P V A O T : Type 0} (news : List (Machine C P V A O T)) (rans : List (Ran O T A P)) → AreRansOf news rans → length rans ≡ length news
rans_count {C} {P} {V} {A} {O} {T} news rans left =
    sym (length-map rans (λ (r : Ran O T A P). Some r)) ∙ sym (ap length left) ∙ length-map news (λ (m : Machine C P V A O T). m.ran)

replies_at : {O T A P : Type 0} (header : Header) (site : Site) (h : List Entry) (r x : Ran O T A P) → Some r ≡ Some x → x.replies ≡ count_replies (begun_on header site) h
    → r.replies ≡ count_replies (begun_on header site) h
replies_at {O} {T} {A} {P} header site h r x same is = ap (λ (y : Ran O T A P). y.replies) (some_value r x same) ∙ is

replies_are : {O T A P : Type 0} (header : Header) (sites : List Site) (hs : List (List Entry)) (rans : List (Ran O T A P)) → length hs ≡ length sites → length rans ≡ length sites
    → ((k : ℕ) (s : Site) (h : List Entry) → slice_get sites k ≡ Some s → slice_get hs k ≡ Some h
    → (r : Ran O T A P) × (slice_get rans k ≡ Some r) × (r.replies ≡ count_replies (begun_on header s) h))
    → sum_by (λ (r : Ran O T A P). r.replies) rans ≡ replies_of header sites hs
replies_are header [] hs [] n m each = refl
replies_are header [] hs (r ∷ rans) n m each = absurd (omega (arith, m))
replies_are header (s ∷ sites) [] rans n m each = absurd (omega (arith, n))
replies_are header (s ∷ sites) (h ∷ hs) [] n m each = absurd (omega (arith, m))
replies_are {O} {T} {A} {P} header (s ∷ sites) (h ∷ hs) (r ∷ rans) n m each =
    let first = each 0 s h refl refl in
    sum_by-cons (λ (x : Ran O T A P). x.replies) r rans
    ∙ ap₂ (λ x y. x + y) (replies_at header s h r first.0 first.1 first.2)
    (replies_are header sites hs rans (omega (arith, n)) (omega (arith, m)) (λ k t g at at_h. each (suc k) t g at at_h))

told_well : {T E : Type 0} (machines : ℕ) (before after : List LiveLine → Type 0) (l : LedgerState GivenLine) (w : SeatState (List ℕ)) (told : Result T E) → IsOk told
    → (so : HasTold machines before after l w told) → AreGiven l machines so.lines
told_well machines before after l w (Ok t) ok so = so.texts
told_well machines before after l w (Err e) ok so = absurd (cc ok)

refused_well : {T E : Type 0} (machines : ℕ) (before after : List LiveLine → Type 0) (l : LedgerState GivenLine) (w : SeatState (List ℕ)) (told : Result T E) → IsOk told
    → (so : HasTold machines before after l w told) → HasPutOut w (refusals_text so.lines)
refused_well machines before after l w (Ok t) ok so = so.refused
refused_well machines before after l w (Err e) ok so = absurd (cc ok)

disks_count : {C P V A O T : Type 0} (disks : List (Both A)) (olds : List (Machine C P V A O T)) → map disks_of olds ≡ map (λ d. Some d) disks → length olds ≡ length disks
disks_count {C} {P} {V} {A} {O} {T} disks olds same =
    sym (length-map olds (λ (m : Machine C P V A O T). disks_of m)) ∙ ap length same ∙ length-map disks (λ (d : Both A). Some d)

served_at : {D O T A P : Type 0} (content : A → Option (List ℕ)) (area_faults : A → ℕ) (spawned : P → Option (List Act)) (events : Bool) (stands : D → Setting → Trace → Type 0) (commands : Header → List (Form Command))
    (header : Header) (lines : List LiveLine) (disks : List (Both A)) (rans : List (Ran O T A P)) (pieces : List Piece) (place : ℕ) (site : Site) (h : List Entry) (left : List (Remains A P))
    (d : Both A) (x : Leavings A P) → map remains_of left ≡ map (λ (r : Ran O T A P). remains_after r) rans → IsHistoryAt content area_faults spawned events stands commands header lines disks rans pieces place site h
    → slice_get disks place ≡ Some d → slice_get (map remains_of left) place ≡ Some x → AreServed content area_faults spawned header.geometry.sector (begun_with commands header site) h d x
served_at {D} {O} {T} {A} {P} content area_faults spawned events stands commands header lines disks rans pieces place site h left d x are so at at_left =
    let st : Setting = begun_with commands header site in
    let had : so.had ≡ d = some_value so.had d (sym so.had_there ∙ at) in
    let came : remains_after so.ran ≡ x
    = some_value (remains_after so.ran) x (sym (map_got (λ (r : Ran O T A P). remains_after r) rans place so.ran so.there) ∙ ap (λ (xs : List (Leavings A P)). slice_get xs place) (sym are) ∙ at_left) in
    subst (λ (b : Both A). AreServed content area_faults spawned header.geometry.sector st h b x) had
    (subst (λ (b : Leavings A P). AreServed content area_faults spawned header.geometry.sector st h so.had b) came so.served)

pub told_all : {D C P V A O T T' E : Type 0} (content : A → Option (List ℕ)) (area_faults : A → ℕ) (spawned : P → Option (List Act)) (events : Bool) (stands : D → Setting → Trace → Type 0)
    (commands : Header → List (Form Command)) (header : Header) (sites : List Site) (disks : List (Both A))
    (olds news : List (Machine C P V A O T)) (before after : List LiveLine → Type 0) (early : Bool) (l : LedgerState GivenLine) (w : SeatState (List ℕ)) (told : Result T' E) (pieces : List Piece) (machines replies : ℕ)
    (back : List (Remains A P)) → map site_of olds ≡ map (λ s. Some s) sites → map disks_of olds ≡ map (λ d. Some d) disks → length news ≡ length olds → AreFresh olds
    → ((k : ℕ) → (d : Machine C P V A O T) → k < length olds → Runs content area_faults spawned events commands stands header (slice_index_or olds k d) (slice_index_or news k d))
    → HasTold (length olds) before after l w told → (early ≡ false → IsOk told) → machines ≡ length news → AreAllWhole early l w news pieces back replies
    → HasToldAll content area_faults spawned events stands commands header sites disks before after pieces machines replies (map remains_of back)
told_all {D} {C} {P} {V} {A} {O} {T} content area_faults spawned events stands commands header sites disks olds news before after early l w told pieces machines replies back same own len fresh each tells in_time many all =
    let rans : List (Ran O T A P) = all.0 in
    let whole : AreWhole early l w rans pieces back replies = all.2 in
    let given = told_well (length olds) before after l w told (in_time whole.in_time) tells in
    let n = counts sites olds same in
    let m = rans_count news rans all.1 in
    let o = disks_count disks olds own in
    let found : (k : ℕ) (site : Site) → slice_get sites k ≡ Some site → (h : List Entry) × IsHistoryAt content area_faults spawned events stands commands header tells.lines disks rans pieces k site h
    = λ k site at.
    let lt = inside sites k site at in
    let there = there_is rans k (omega (arith, lt, n, m, len)) in
    let had = there_is disks k (omega (arith, lt, n, o)) in
    history_at content area_faults spawned events stands commands header tells.lines disks rans pieces l w back replies early whole k site had.0 there.0 (given.each k (omega (arith, lt, n))) had.1
    there.1 (ran_at content area_faults spawned events stands commands header sites disks olds news rans same own fresh each all.1 k site had.0 there.0 at had.1 there.1) in
    let hs = chosen (λ k site h. IsHistoryAt content area_faults spawned events stands commands header tells.lines disks rans pieces k site h) sites found in
    let long : length hs.0 ≡ length sites = hs.1 in
    let seats : length (map (λ (x : Ran O T A P). x.writer) rans) ≡ length hs.0 = omega (arith, length-map rans (λ (x : Ran O T A P). x.writer), m, len, n, long) in
    record {
      lines = tells.lines;
      gave = tells.gave;
      histories = hs.0;
      live = record {
        counted = hs.1;
        each = λ place site h at at_h. (hs.2 place site h at at_h).live;
      };
      texts = λ place site h at at_h. (hs.2 place site h at at_h).told;
      refused = refused_at (length hs.0) (map (λ (x : Ran O T A P). x.writer) rans) w (refusals_text tells.lines) pieces seats whole.exact
          (refused_well (length olds) before after l w told (in_time whole.in_time) tells);
      below = subst (λ k. AreBelow k pieces) (omega (arith, m, len, n, long)) whole.below;
      machines_are = omega (arith, many, len, n, long);
      count = whole.settled.count ∙ replies_are header sites hs.0 rans long (omega (arith, m, len, n))
          (λ k s h at at_h. let x = hs.2 k s h at at_h in (x.ran, x.there, x.replies));
      served = record {
        counted = ap length whole.remains_are ∙ length-map rans (λ (r : Ran O T A P). remains_after r) ∙ omega (arith, m, len, n, long);
        each = λ place site h d x at at_h at_d at_x.
            served_at content area_faults spawned events stands commands header tells.lines disks rans pieces place site h back d x whole.remains_are (hs.2 place site h at at_h) at_d at_x;
      };
    }

-- ---- a case

stop_at : {D C P V A O T T' E : Type 0} (content : A → Option (List ℕ)) (area_faults : A → ℕ) (spawned : P → Option (List Act)) (events : Bool) (stands : D → Setting → Trace → Type 0) (commands : Header → List (Form Command)) (header : Header) (sites : List Site)
    (disks : List (Both A)) (olds news : List (Machine C P V A O T)) (before after : List LiveLine → Type 0) (early : Bool) (l : LedgerState GivenLine) (w : SeatState (List ℕ)) (told : Result T' E) (m : ℕ) (d : LiveDiffer) (rans : List (Ran O T A P))
    → map site_of olds ≡ map (λ s. Some s) sites → map disks_of olds ≡ map (λ d. Some d) disks → length news ≡ length olds → AreFresh olds
    → ((k : ℕ) → (d : Machine C P V A O T) → k < length olds → Runs content area_faults spawned events commands stands header (slice_index_or olds k d) (slice_index_or news k d))
    → HasTold (length olds) before after l w told → (early ≡ false → IsOk told) → AreRansOf news rans → IsCaseOf early l rans m d
    → IsLiveStop stands commands header sites before after (Differ m d)
stop_at {D} {C} {P} {V} {A} {O} {T} content area_faults spawned events stands commands header sites disks olds news before after early l w told m d rans same own len fresh each tells in_time left so =
    let place : ℕ = so.place in
    let r : Ran O T A P = so.ran in
    let lt = inside rans place r so.there in
    let n = counts sites olds same in
    let c = rans_count news rans left in
    let there = there_is sites place (omega (arith, lt, c, len, n)) in
    let o = disks_count disks olds own in
    let had = there_is disks place (omega (arith, lt, c, len, o)) in
    let site : Site = there.0 in
    let st : Setting = begun_with commands header site in
    let a : AlongState = begun_on header site in
    let inside_olds : place < length olds = omega (arith, lt, c, len) in
    let at = ran_at content area_faults spawned events stands commands header sites disks olds news rans same own fresh each left place site had.0 r there.1 had.1 so.there in
    let run = at.run in
    let due : List GivenLine = lines_for m tells.lines in
    let first : IsPrefix (entries (given_by r.reader.by l.front)) due
    = subst (λ k. IsPrefix (entries (given_by r.reader.by l.front)) (lines_for k tells.lines)) (sym so.numbered)
    (subst (λ k. IsPrefix (entries (given_by k l.front)) (lines_for (place + 1) tells.lines)) (sym at.by) (tells.first.each place inside_olds)) in
    let exact : early ≡ false → entries (given_by r.reader.by l.front) ≡ due
    = λ t. ap (λ k. entries (given_by k l.front)) at.by ∙ (told_well (length olds) before after l w told (in_time t) tells).each place inside_olds
    ∙ ap (λ k. lines_for k tells.lines) (sym so.numbered) in
    let here : LiveCaseOf stands commands header sites tells.lines m d
    = record {
      place = place;
      site = site;
      numbered = so.numbered;
      there = there.1;
      case_of = case_so stands st a run.history (lines_read r.reader) due early so.reading r.end r.entries d run.ends run.counted (met early so.reading r.reader l due first exact so.read) so.case_is;
    } in
    (tells.lines, tells.gave, here)

live_stop : {D C P V A O T T' E : Type 0} (content : A → Option (List ℕ)) (area_faults : A → ℕ) (spawned : P → Option (List Act)) (events : Bool) (stands : D → Setting → Trace → Type 0) (commands : Header → List (Form Command)) (header : Header) (sites : List Site)
    (disks : List (Both A)) (olds news : List (Machine C P V A O T)) (before after : List LiveLine → Type 0) (early : Bool) (l : LedgerState GivenLine) (w : SeatState (List ℕ)) (told : Result T' E) (s : LiveStop)
    → map site_of olds ≡ map (λ s. Some s) sites → map disks_of olds ≡ map (λ d. Some d) disks → length news ≡ length olds → AreFresh olds
    → ((k : ℕ) → (d : Machine C P V A O T) → k < length olds → Runs content area_faults spawned events commands stands header (slice_index_or olds k d) (slice_index_or news k d))
    → HasTold (length olds) before after l w told → (early ≡ false → IsOk told) → (s ≡ NoMemory) ⊎ StopsOne early l news s
    → IsLiveStop stands commands header sites before after s
live_stop content area_faults spawned events stands commands header sites disks olds news before after early l w told s same own len fresh each tells in_time (inl is) =
    subst (IsLiveStop stands commands header sites before after) (sym is) tt
live_stop content area_faults spawned events stands commands header sites disks olds news before after early l w told NoMemory same own len fresh each tells in_time (inr so) = tt
live_stop content area_faults spawned events stands commands header sites disks olds news before after early l w told (Differ m d) same own len fresh each tells in_time (inr so) =
    stop_at content area_faults spawned events stands commands header sites disks olds news before after early l w told m d so.0 same own len fresh each tells in_time so.1 so.2

-- ---- of a result

pub if_ok_on : {T E : Type 0} (r : Result T E) (Was Is : T → Type 0) → ((t : T) → Was t → Is t) → IfOk r Was → IfOk r Is
if_ok_on (Ok t) Was Is f so = f t so
if_ok_on (Err e) Was Is f so = tt

pub if_err_on : {T E : Type 0} (r : Result T E) (Was Is : E → Type 0) → ((e : E) → Was e → Is e) → IfErr r Was → IfErr r Is
if_err_on (Ok t) Was Is f so = tt
if_err_on (Err e) Was Is f so = f e so

-- ---- the whole run

pub has_run_all : {D K C P V A O T T' E : Type 0} (content : A → Option (List ℕ)) (area_faults : A → ℕ) (spawned : P → Option (List Act)) (events : Bool) (stands : D → Setting → Trace → Type 0) (commands : Header → List (Form Command)) (header : Header) (sites : List Site)
    (disks : List (Both A)) (olds news : List (Machine C P V A O T)) (before after : List LiveLine → Type 0) (early : Bool) (l : LedgerState GivenLine) (w : SeatState (List ℕ)) (told : Result T' E) (taken now : Option (List ℕ)) (faults later : ℕ)
    (r : LiveRun K A P) → map site_of olds ≡ map (λ s. Some s) sites → map disks_of olds ≡ map (λ d. Some d) disks → length news ≡ length olds → AreFresh olds
    → ((k : ℕ) → (d : Machine C P V A O T) → k < length olds → Runs content area_faults spawned events commands stands header (slice_index_or olds k d) (slice_index_or news k d))
    → HasTold (length olds) before after l w told → (early ≡ false → IsOk told) → HasLeft early l w news taken now faults later r
    → HasRunAll content area_faults spawned events stands commands header sites disks before after taken now faults later r
has_run_all {D} {K} {C} {P} {V} {A} {O} {T} content area_faults spawned events stands commands header sites disks olds news before after early l w told taken now faults later r same own len fresh each tells in_time left = record {
  pieces = left.pieces;
  put = left.put;
  ok = if_ok_on r.replies (AreAllWhole early l w news left.pieces r.remains.items)
      (λ n. HasToldAll content area_faults spawned events stands commands header sites disks before after left.pieces r.machines n (map remains_of r.remains.items))
      (λ n all. told_all content area_faults spawned events stands commands header sites disks olds news before after early l w told left.pieces r.machines n r.remains.items same own len fresh each tells in_time
      left.machines_are all) left.ok;
  stop = if_err_on r.replies (λ s. (s ≡ NoMemory) ⊎ StopsOne early l news s) (IsLiveStop stands commands header sites before after)
      (λ s so. live_stop content area_faults spawned events stands commands header sites disks olds news before after early l w told s same own len fresh each tells in_time so) left.stop;
}

-- There was no memory to run.
pub no_run_all : {D K A P : Type 0} (content : A → Option (List ℕ)) (area_faults : A → ℕ) (spawned : P → Option (List Act)) (events : Bool) (stands : D → Setting → Trace → Type 0) (commands : Header → List (Form Command)) (header : Header) (sites : List Site) (disks : List (Both A)) (before after : List LiveLine → Type 0)
    (taken now : Option (List ℕ)) (faults later : ℕ) (r : LiveRun K A P) → r.replies ≡ Err NoMemory → (ps : List Piece) × IsPut taken now faults later ps r.cut
    → HasRunAll content area_faults spawned events stands commands header sites disks before after taken now faults later r
no_run_all content area_faults spawned events stands commands header sites disks before after taken now faults later r is put = record {
  pieces = put.0;
  put = put.1;
  ok = subst (λ (x : Result ℕ LiveStop). IfOk x (λ n. HasToldAll content area_faults spawned events stands commands header sites disks before after put.0 r.machines n (map remains_of r.remains.items))) (sym is) tt;
  stop = subst (λ (x : Result ℕ LiveStop). IfErr x (IsLiveStop stands commands header sites before after)) (sym is) tt;
}

-- .. for one machine.
pub no_run_of : {D O T A P : Type 0} (content : A → Option (List ℕ)) (area_faults : A → ℕ) (spawned : P → Option (List Act)) (sector : ℕ) (stands : D → Setting → Trace → Type 0) (st : Setting) (t : Telling)
    (a : AlongState) (delta resource : List (Disk A)) (r : Ran O T A P) → r.end ≡ Err NoMemoryClose → r.writer.by ≡ r.reader.by
    → HasRun content area_faults spawned sector stands st t a delta resource r
no_run_of content area_faults spawned sector stands st t a delta resource r is by = record {
  by = by;
  history = [];
  ends = subst (EndsWith stands st a [] (lines_read r.reader)) (sym is) tt;
  told = subst (Told t a [] r.reader r.writer r.replies) (sym is) tt;
  counted = subst (Counts [] r.entries) (sym is) tt;
  delta = subst (λ x. OnWhole x (ServedDisks content area_faults sector st Delta [] delta r.delta.items)) (sym is) tt;
  resource = subst (λ x. OnWhole x (ServedDisks content area_faults sector st Resource [] resource r.resource.items)) (sym is) tt;
  signals = subst (λ x. OnWhole x (HasSignalled [] r.spawners.killed (spawned r.spawners.signals))) (sym is) tt;
  starts = subst (λ x. OnWhole x (ServedStarts st [] r.spawners.killed (spawned r.spawners.starts))) (sym is) tt;
}

-- ---- before the run

-- what holds of what each has holds of those
pub all_mapped : {A B : Type 0} (f : A → B) (Q : B → Type 0) (xs : List A) → All (λ x. Q (f x)) xs → All Q (map f xs)
all_mapped f Q xs all k d lt =
    let len = length-map xs f in
    let there = there_is xs k (omega (arith, len, lt)) in
    let x = there.0 in
    subst Q (sym (got_index (map f xs) k (f x) d (map_got f xs k x there.1)))
    (subst (λ y. Q (f y)) (got_index xs k x x there.1) (all k x (omega (arith, len, lt))))

can_one : {C P V A O T : Type 0} (spawned : P → Option (List Act)) (commands : Header → List (Form Command)) (header : Header) (place : ℕ) (site : Site) (spawner : P)
    (work : Option (Work C P V A O T)) → option_map (λ (w : Work C P V A O T). w.site) work ≡ Some site
    → option_map (λ (w : Work C P V A O T). w.parts.spawner) work ≡ Some spawner → IsSetting (begun_with commands header site) → Tells (spawned spawner) []
    → IfSome work (λ w. (w.reader.by ≡ place) × IsFresh w)
    → IfSome work (λ w. IsSetting (begun_with commands header w.site) × IsFresh w × Tells (spawned w.parts.spawner) [])
can_one spawned commands header place site spawner None at has so asked fresh = tt
can_one spawned commands header place site spawner (Some w) at has so asked fresh = (
  subst (λ s. IsSetting (begun_with commands header s)) (sym (some_value w.site site at)) so,
  fresh.1,
  subst (λ p. Tells (spawned p) []) (sym (some_value w.parts.spawner spawner has)) asked,
)

-- Machines of these sites, with these spawners, can run.
pub can_run : {C P V A O T : Type 0} (spawned : P → Option (List Act)) (commands : Header → List (Form Command)) (header : Header) (ms : List (Machine C P V A O T)) (sites : List Site)
    (spawners : List P) → map site_of ms ≡ map (λ s. Some s) sites → map spawner_of ms ≡ map (λ p. Some p) spawners → AreFresh ms → IsHeader header
    → All (λ s. IsSetting (begun_with commands header s)) sites → All (λ p. Tells (spawned p) []) spawners → All (CanRun spawned commands header) ms
can_run {C} {P} {V} {A} {O} {T} spawned commands header ms sites spawners same own fresh is so asked k d lt =
    let there = there_is ms k lt in
    let m : Machine C P V A O T = there.0 in
    let site = got_map (λ s. Some s) sites k (site_of m) (ap (λ (xs : List (Option Site)). slice_get xs k) (sym same) ∙ map_got site_of ms k m there.1) in
    let here : IsSetting (begun_with commands header (slice_index_or sites k site.0)) = so k site.0 (inside sites k site.0 site.1) in
    let its : IsSetting (begun_with commands header site.0) = subst (λ s. IsSetting (begun_with commands header s)) (got_index sites k site.0 site.0 site.1) here in
    let one = got_map (λ (p : P). Some p) spawners k (spawner_of m)
    (ap (λ (xs : List (Option P)). slice_get xs k) (sym own) ∙ map_got (λ (x : Machine C P V A O T). spawner_of x) ms k m there.1) in
    let none : Tells (spawned (slice_index_or spawners k one.0)) [] = asked k one.0 (inside spawners k one.0 one.1) in
    let unasked : Tells (spawned one.0) [] = subst (λ p. Tells (spawned p) []) (got_index spawners k one.0 one.0 one.1) none in
    subst (λ (x : Machine C P V A O T). CanRun spawned commands header x) (sym (got_index ms k m d there.1))
    (is, can_one spawned commands header k site.0 one.0 m.work (sym site.2) (sym one.2) its unasked (fresh k m there.1))

-- Room was taken, and then one was pushed.
pub pushed : {A : Type 0} (xs ys zs : List A) (x : A) → ys ≡ xs → zs ≡ ys ++ x ∷ [] → zs ≡ xs ++ x ∷ []
pushed xs ys zs x same more = more ∙ ap (λ l. l ++ x ∷ []) same

-- One machine more has begun, of what was ready: so is what each has of it.
pub one_begun : {C P V A O T S B : Type 0} (ms ms' : List (Machine C P V A O T)) (m : Machine C P V A O T) (w : Work C P V A O T) (ps : List S) (p : S) (of_work : Work C P V A O T → B)
    (of_ready : S → B) → ms' ≡ ms ++ m ∷ [] → m.work ≡ Some w → of_work w ≡ of_ready p
    → map (λ (x : Machine C P V A O T). option_map of_work x.work) ms ≡ map (λ b. Some b) (map of_ready ps)
    → map (λ (x : Machine C P V A O T). option_map of_work x.work) ms' ≡ map (λ b. Some b) (map of_ready (ps ++ p ∷ []))
one_begun {C} {P} {V} {A} {O} {T} {S} {B} ms ms' m w ps p of_work of_ready is work its so =
    let of : Machine C P V A O T → Option B = λ (x : Machine C P V A O T). option_map of_work x.work in
    ap (map of) is ∙ map-append of ms (m ∷ []) ∙ ap (λ o. map of ms ++ o ∷ []) (ap (option_map of_work) work ∙ ap Some its)
    ∙ ap (λ xs. xs ++ Some (of_ready p) ∷ []) so ∙ sym (ap (map (λ b. Some b)) (map-append of_ready ps (p ∷ [])) ∙ map-append (λ b. Some b) (map of_ready ps) (of_ready p ∷ []))

pub none_fresh : {C P V A O T : Type 0} (ms : List (Machine C P V A O T)) → ms ≡ [] → AreFresh ms
none_fresh {C} {P} {V} {A} {O} {T} ms none place m at = absurd (none_some m (sym (ap (λ (xs : List (Machine C P V A O T)). slice_get xs place) none) ∙ at))

pub fresh_more : {C P V A O T : Type 0} (ms ms' : List (Machine C P V A O T)) (m : Machine C P V A O T) (w : Work C P V A O T) → ms' ≡ ms ++ m ∷ [] → m.work ≡ Some w
    → w.reader.by ≡ length ms → IsFresh w → AreFresh ms → AreFresh ms'
fresh_more {C} {P} {V} {A} {O} {T} ms ms' m w is work by fresh so place x at =
    go place x (placed_behind ms m place x (sym (ap (λ (xs : List (Machine C P V A O T)). slice_get xs place) is) ∙ at))
  where
    go : (place : ℕ) (x : Machine C P V A O T) → PlacedBehind ms m place x → IfSome x.work (λ w. (w.reader.by ≡ place) × IsFresh w)
    go place x (Stood at) = so place x at
    go place x (Came here same) =
        subst (λ (o : Option (Work C P V A O T)). IfSome o (λ w. (w.reader.by ≡ place) × IsFresh w)) (sym (ap (λ (y : Machine C P V A O T). y.work) same ∙ work)) (by ∙ sym here, fresh)

-- All that were ready have begun.
pub begun_all : {B S : Type 0} (bs : List (Option B)) (ps qs : List S) (of_ready : S → B) → bs ≡ map (λ b. Some b) (map of_ready ps) → ps ≡ qs
    → bs ≡ map (λ b. Some b) (map of_ready qs)
begun_all {B} {S} bs ps qs of_ready so same = so ∙ ap (λ (xs : List S). map (λ b. Some b) (map of_ready xs)) same

-- ---- behind the run

-- One machine more that has run.
pub ran_more : {C P V A O T : Type 0} (ms : List (Machine C P V A O T)) (m : Machine C P V A O T) (rans now : List (Ran O T A P)) (r : Ran O T A P)
    → map (λ (x : Machine C P V A O T). x.ran) ms ≡ map (λ (x : Ran O T A P). Some x) rans → m.ran ≡ Some r → now ≡ rans ++ r ∷ []
    → map (λ (x : Machine C P V A O T). x.ran) (ms ++ m ∷ []) ≡ map (λ (x : Ran O T A P). Some x) now
ran_more {C} {P} {V} {A} {O} {T} ms m rans now r so is pushed =
    map-append (λ (x : Machine C P V A O T). x.ran) ms (m ∷ []) ∙ ap₂ (λ xs y. xs ++ y ∷ []) so is ∙ sym (map-append (λ (x : Ran O T A P). Some x) rans (r ∷ []))
    ∙ ap (map (λ (x : Ran O T A P). Some x)) (sym pushed)

pub rans_all : {C P V A O T : Type 0} (ms all : List (Machine C P V A O T)) (rans : List (Ran O T A P)) → AreRansOf ms rans → ms ≡ all → AreRansOf all rans
rans_all {C} {P} {V} {A} {O} {T} ms all rans so same = subst (λ (xs : List (Machine C P V A O T)). AreRansOf xs rans) same so

pub all_whole : {C P V A O T E : Type 0} (r : Result ℕ E) (early : Bool) (l : LedgerState GivenLine) (w : SeatState (List ℕ)) (machines : List (Machine C P V A O T)) (rans : List (Ran O T A P))
    (pieces : List Piece) (disks : List (Remains A P)) → AreRansOf machines rans → IfOk r (AreWhole early l w rans pieces disks) → IfOk r (AreAllWhole early l w machines pieces disks)
all_whole (Ok n) early l w machines rans pieces disks left so = (rans, left, so)
all_whole (Err e) early l w machines rans pieces disks left so = tt

pub all_stop : {C P V A O T N : Type 0} (r : Result N LiveStop) (early : Bool) (l : LedgerState GivenLine) (machines : List (Machine C P V A O T)) (rans : List (Ran O T A P))
    → AreRansOf machines rans → IfErr r (StopsSome early l rans) → IfErr r (λ s. (s ≡ NoMemory) ⊎ StopsOne early l machines s)
all_stop (Ok n) early l machines rans left so = tt
all_stop (Err s) early l machines rans left so = inr (rans, left, so)

-- As many machines have begun as were ready.
pub ready_given : {C P V A O T S : Type 0} (l : LedgerState GivenLine) (ms : List (Machine C P V A O T)) (ps : List S) (site : S → Site) (places : ℕ)
    → l ≡ record { front = []; places = places } → places ≡ length ps → map site_of ms ≡ map (λ s. Some s) (map site ps) → AreGiven l (length ms) []
ready_given l ms ps site places is many same =
    let n : length ms ≡ length ps = counts (map site ps) ms same ∙ length-map ps site in
    subst (λ k. AreGiven l k []) (many ∙ sym n) (no_lines l places is)

-- ---- the script's thread beside the others

-- What it has told, of what it left.
pub told_on : {X T E : Type 0} (has : X → List LiveLine → Type 0) (before : List LiveLine → Type 0) (machines : ℕ) (x x' : X) (l l' : LedgerState GivenLine) (w w' : SeatState (List ℕ))
    (r : Result T E) → x ≡ x' → l ≡ l' → w ≡ w' → HasTold machines before (has x) l w r → HasTold machines before (has x') l' w' r
told_on has before machines x x' l l' w w' r first second third so =
    subst (λ z. HasTold machines before (has z) l' w' r) first
    (subst (λ z. HasTold machines before (has x) z w' r) second (subst (λ z. HasTold machines before (has x) l z r) third so))
