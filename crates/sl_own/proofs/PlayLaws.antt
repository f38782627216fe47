-- What is owed of a play of one machine, from what came of its parts.
use Rattle.sl_cell.specs.declared.part.Part.TheVariants.{Delta}
use Rattle.sl_io.specs.FaultCauses.{Rose}
use Rattle.sl_live_lines.specs.LiveTexts.{count_replies}
use Rattle.sl_live_play.specs.LiveOwed.{All, Puts, PutsEnded, PutsStop, Tellers}
use Rattle.sl_live_play.specs.declared.play.Lived.TheVariants.{AreaFault, Differs, Done, NoMemory, ReadFault, Refused}
use Rattle.sl_live_play.specs.declared.play.Lived.{Lived}
use Rattle.sl_live_run.specs.Laws.{SitesAreSettings}
use Rattle.sl_live_run.specs.Lent.{AreAllBack, IsBack}
use Rattle.sl_live_run.specs.Runs.{Both, IsLiveCase, IsLiveHistory, Leavings, begun_on, lines_for}
use Rattle.sl_live_run.specs.declared.compare.LiveStop.TheVariants as stop
use Rattle.sl_live_run.specs.declared.compare.LiveStop.{LiveStop}
use Rattle.sl_outside.specs.Disks.{Disks}
use Rattle.sl_outside.specs.Lendings.{Lending}
use Rattle.sl_outside.specs.declared.act.Act.{Act}
use Rattle.sl_output.specs.Pieces.{Piece, text_of}
use Rattle.sl_own.proofs.LendLaws.{areas_stand, not_lent_on}
use Rattle.sl_own.specs.OwnGrounds.{Area_bars, Bars, Folder_bars, HadOwn, HasSize, IsOwnGround, IsPlaceOf, Machine_bars, NotLent, Size_bars}
use Rattle.sl_own.specs.OwnOwed.{Breaks, Breaks_early, DifferingOwn, Ends, Is_barred, IsWovenOwn, Lacks, LivesOwn, MayRun, Of, OwesOwn, OwnBeginning, OwnDue, Parts, PutsNoPlace, ReadsOwn, Stops, Stops_early, Stops_header, header_refusal}
use Rattle.sl_own.specs.OwnRuns.{HasToldOwn, IsOwnStop}
use Rattle.sl_own.specs.declared.ground.OwnGround.{OwnGround}
use Rattle.sl_own.specs.declared.no_place.NoPlace.{NoPlace}
use Rattle.sl_own.specs.declared.play.OwnManner.{OwnManner}
use Rattle.sl_reader.specs.HeaderBegins.{HeaderBegins, HeaderBreaks, HeaderStops}
use Rattle.sl_reader.specs.LineReads.{ReaderState}
use Rattle.sl_reader.specs.ScriptReading.{ReadsScriptBy}
use Rattle.sl_reader.specs.declared.live_lines.LiveLine.{LiveLine}
use Rattle.sl_reader.specs.declared.scope.Scope.{Scope}
use Rattle.sl_reader.specs.declared.script_reading.ScriptEnd.TheVariants as script
use Rattle.sl_reader.specs.declared.script_reading.ScriptEnd.{ScriptEnd}
use Rattle.sl_report.specs.RefusalLines.{refusal_line}
use Rattle.sl_run.specs.Headers.{IsHeader}
use Rattle.sl_run.specs.Lawful.{IsSetting}
use Rattle.sl_run.specs.declared.event.Refusal.{Refusal}
use Rattle.sl_run.specs.declared.header.Header.{Header}
use Rattle.sl_text.specs.Forms.{Form, as_bytes}
use Rattle.sl_trace.specs.Traces.{Setting, Trace}
use Rattle.sl_trace.specs.declared.command.Command.{Command}
use Rattle.sl_trace.specs.declared.effects.Entry.{Entry}
use Rattle.sl_world_state.specs.Daemons.{begun_with}
use Rattle.sl_world_state.specs.SaneWorlds.{ReadsCommands}
use Rattle.std.proofs.Common.{Bool, Err, List, None, Ok, Option, Result, Some, [], ap, append-nil, arith, inl, inr, subst, sym, ℕ, ◌+◌, ◌++◌, ◌<◌, ◌^◌, ◌≡◌, ◌≤◌, ◌⊎◌, ◌∙◌, ◌∷◌}
use Rattle.std.specs.Io.KnownBytes.{Appends}
use Rattle.std.specs.Prelude.{All as PreludeAll, IfErr, IfOk, OnOk}

-- ---- the run

-- For want of memory a part may have been put out.
lacks : {D A P : Type 0} (stands : D → Setting → Trace → Type 0) (commands : Header → List (Form Command)) (t : Tellers A P) (disks : Disks) (folder : List ℕ) (w : OwnManner) (left after taken now : Option (List ℕ))
    (faults later sink_faults sink_later device_faults device_later : ℕ) (lent back : Option (List Lending)) (s : Lived) → s ≡ NoMemory → (part : List ℕ) → Appends taken now part
    → OwesOwn stands commands t disks folder w left after taken now faults later sink_faults sink_later device_faults device_later lent back s
lacks stands commands t disks folder w left after taken now faults later sink_faults sink_later device_faults device_later lent back s is part appends =
    subst (OwesOwn stands commands t disks folder w left after taken now faults later sink_faults sink_later device_faults device_later lent back) (sym is) (Lacks part appends)

-- The history of the machine, by how its script ended.
owes_ended : {D A P : Type 0} (stands : D → Setting → Trace → Type 0) (commands : Header → List (Form Command)) (t : Tellers A P) (disks : Disks) (folder : List ℕ) (w : OwnManner) (left after taken now : Option (List ℕ))
    (faults later sink_faults sink_later device_faults device_later : ℕ) (lent back : Option (List Lending)) (h : Header) (given : List LiveLine) (hist : List Entry) (pieces : List Piece) (end : Option ScriptEnd) (s : Lived)
    → ReadsOwn w left after faults later h given end → MayRun disks folder h w.machine → (l : LivesOwn stands commands t disks folder lent back h w.machine given hist)
    → IsWovenOwn w.events l.begun.header l.begun.place l.begun.site given hist pieces
    → PutsEnded taken now sink_faults sink_later pieces 1 (count_replies (begun_on l.begun.header l.begun.site) hist) end s
    → OwesOwn stands commands t disks folder w left after taken now faults later sink_faults sink_later device_faults device_later lent back s
owes_ended stands commands t disks folder w left after taken now faults later sink_faults sink_later device_faults device_later lent back h given hist pieces (Some script.End) s reads may lives woven puts =
    Of _ Done s (Ends h given hist pieces reads may lives woven) puts
owes_ended stands commands t disks folder w left after taken now faults later sink_faults sink_later device_faults device_later lent back h given hist pieces (Some (script.Refused number why)) s reads may lives woven puts =
    Of _ Refused s (Stops h given hist pieces number why reads may lives woven) puts
owes_ended stands commands t disks folder w left after taken now faults later sink_faults sink_later device_faults device_later lent back h given hist pieces (Some script.ReadFault) s reads may lives woven puts =
    Of _ ReadFault s (Breaks h given hist pieces reads may lives woven) puts
owes_ended stands commands t disks folder w left after taken now faults later sink_faults sink_later device_faults device_later lent back h given hist pieces (Some script.NoMemory) s reads may lives woven puts =
    lacks stands commands t disks folder w left after taken now faults later sink_faults sink_later device_faults device_later lent back s puts.0 puts.1.0 puts.1.1
owes_ended stands commands t disks folder w left after taken now faults later sink_faults sink_later device_faults device_later lent back h given hist pieces None s reads may lives woven puts =
    lacks stands commands t disks folder w left after taken now faults later sink_faults sink_later device_faults device_later lent back s puts.0 puts.1.0 puts.1.1

-- Its lines are those that the script gave it, and its calls are all that was done to its areas.
pub lived : {D A P : Type 0} (t : Tellers A P) (events : Bool) (stands : D → Setting → Trace → Type 0) (commands : Header → List (Form Command)) (disks : Disks) (folder : List ℕ) (h : Header) (m : ℕ)
    (begun : OwnBeginning h m) (areas : Both A) (was is : List LiveLine → Type 0) (pieces : List Piece) (n : ℕ) (left : Leavings A P) (lent between back : Option (List Lending)) → HadOwn t.content disks folder h m areas lent between
    → IsBack t.content t.faults t.acts left between back → (told : HasToldOwn t.content t.faults t.acts events stands commands begun.header begun.place begun.site areas was is pieces n left)
    → LivesOwn stands commands t disks folder lent back h m told.lines told.history
lived t events stands commands disks folder h m begun areas was is pieces n left lent between back had returned told = record {
  begun = begun;
  history = subst (λ (k : ℕ). IsLiveHistory stands (begun_with commands begun.header begun.site) (begun_on begun.header begun.site) (lines_for k told.lines) told.history) (sym begun.numbered) told.live;
  areas = areas;
  between = between;
  had = had;
  left = left;
  served = told.served;
  returned = returned;
}

woven : {D A P : Type 0} (content : A → Option (List ℕ)) (area_faults : A → ℕ) (spawned : P → Option (List Act)) (events : Bool) (stands : D → Setting → Trace → Type 0)
    (commands : Header → List (Form Command)) (h : Header) (m : ℕ) (begun : OwnBeginning h m) (disks : Both A) (was is : List LiveLine → Type 0) (pieces : List Piece) (n : ℕ) (left : Leavings A P)
    → (told : HasToldOwn content area_faults spawned events stands commands begun.header begun.place begun.site disks was is pieces n left)
    → IsWovenOwn events begun.header begun.place begun.site told.lines told.history pieces
woven content area_faults spawned events stands commands h m begun disks was is pieces n left told = record { below = told.below; text = told.text; refused = told.refused; others = told.others }

-- All that was left is what one machine left.
pub one_back : {A P : Type 0} (t : Tellers A P) (remains : List (Leavings A P)) (left : Leavings A P) (was is : Option (List Lending)) → remains ≡ left ∷ [] → AreAllBack t.content t.faults t.acts remains was is
    → IsBack t.content t.faults t.acts left was is
one_back t remains left was is one back =
    let those : AreAllBack t.content t.faults t.acts (left ∷ []) was is = subst (λ ls. AreAllBack t.content t.faults t.acts ls was is) one back in
    subst (λ x. IsBack t.content t.faults t.acts left was x) (sym those.2) those.1

-- What came of a run, of a script that has given nothing before, and of whose source the lines that it has given are read now.
pub owes_run_own : {D A P : Type 0} (stands : D → Setting → Trace → Type 0) (commands : Header → List (Form Command)) (t : Tellers A P) (disks : Disks) (folder : List ℕ) (w : OwnManner)
    (left after taken now : Option (List ℕ)) (faults later sink_faults sink_later device_faults device_later : ℕ) (lent back : Option (List Lending)) (h : Header) (begun : OwnBeginning h w.machine) (areas : Both A)
    (was is : List LiveLine → Type 0) (pieces : List Piece) (machines : ℕ) (remains : List (Leavings A P)) (replies : Result ℕ LiveStop) (end : Option ScriptEnd) (s : Lived) (between : Option (List Lending)) → was []
    → ((given : List LiveLine) → is given → ReadsOwn w left after faults later h given end) → MayRun disks folder h w.machine → HadOwn t.content disks folder h w.machine areas lent between
    → AreAllBack t.content t.faults t.acts remains between back → IfOk replies (λ n. (machines ≡ 1) × (left_there : Leavings A P) × (remains ≡ left_there ∷ [])
    × HasToldOwn t.content t.faults t.acts w.events stands commands begun.header begun.place begun.site areas was is pieces n left_there)
    → IfErr replies (IsOwnStop stands commands begun.header begun.place begun.site was is)
    → IfOk replies (λ n. PutsEnded taken now sink_faults sink_later pieces machines n end s)
    → IfErr replies (λ e. PutsStop taken now sink_faults sink_later pieces e s)
    → OwesOwn stands commands t disks folder w left after taken now faults later sink_faults sink_later device_faults device_later lent back s
unfolding lived
owes_run_own stands commands t disks folder w left after taken now faults later sink_faults sink_later device_faults device_later lent back h begun areas was is pieces machines remains (Ok n) end s between none reads may had returned ok err puts stops =
    let told = ok.3 in
    let one : PutsEnded taken now sink_faults sink_later pieces 1 n end s = subst (λ (k : ℕ). PutsEnded taken now sink_faults sink_later pieces k n end s) ok.0 puts in
    owes_ended stands commands t disks folder w left after taken now faults later sink_faults sink_later device_faults device_later lent back h told.lines told.history pieces end s (reads told.lines (told.gave [] none)) may
    (lived t w.events stands commands disks folder h w.machine begun areas was is pieces n ok.1 lent between back had (one_back t remains ok.1 between back ok.2 returned) told)
    (woven t.content t.faults t.acts w.events stands commands h w.machine begun areas was is pieces n ok.1 told)
    (subst (λ (k : ℕ). PutsEnded taken now sink_faults sink_later pieces 1 k end s) told.count one)
owes_run_own stands commands t disks folder w left after taken now faults later sink_faults sink_later device_faults device_later lent back h begun areas was is pieces machines remains (Err (stop.Differ machine d)) end s between none reads may had returned ok err puts stops =
    let same : machine ≡ w.machine = subst (λ (k : ℕ). machine ≡ k) (sym begun.numbered) err.numbered in
    Of _ Differs s
    (Parts h err.lines end (text_of pieces) d (reads err.lines (err.gave [] none)) may
    (record {
      begun = begun;
      differs = subst (λ (k : ℕ). IsLiveCase stands (begun_with commands begun.header begun.site) (begun_on begun.header begun.site) (lines_for k err.lines) d) same err.case_of;
    }))
    (subst (λ (k : ℕ). PutsStop taken now sink_faults sink_later pieces (stop.Differ k d) s) same stops)
owes_run_own stands commands t disks folder w left after taken now faults later sink_faults sink_later device_faults device_later lent back h begun areas was is pieces machines remains (Err stop.NoMemory) end s between none reads may had returned ok err puts stops =
    lacks stands commands t disks folder w left after taken now faults later sink_faults sink_later device_faults device_later lent back s stops.0 stops.1.0 stops.1.1

-- ---- what the machine begins with

unfoldable pub beginning : {V O C P D W G A : Type 0} (content : A → Option (List ℕ)) (spawned : P → Option (List Act)) (disks : Disks) (folder : List ℕ) (h : Header) (m : ℕ) (lent held : Option (List Lending)) (g : OwnGround V O C P D W G A)
    → IsOwnGround content spawned disks folder h m lent held g → OwnBeginning h m
beginning content spawned disks folder h m lent held g is =
    record { header = g.header; lawful = is.lawful; same = is.same; place = g.place; numbered = is.numbered; site = g.ready.site; begun = is.site }

pub small_place : {V O C P D W G A : Type 0} (content : A → Option (List ℕ)) (spawned : P → Option (List Act)) (disks : Disks) (folder : List ℕ) (h : Header) (m : ℕ) (lent held : Option (List Lending)) (g : OwnGround V O C P D W G A)
    → IsOwnGround content spawned disks folder h m lent held g → g.place + 1 < 2 ^ 32
small_place content spawned disks folder h m lent held g is = subst (λ (k : ℕ). k < 2 ^ 32) is.numbered is.small

pub own_setting : {V O C P D W G A : Type 0} (content : A → Option (List ℕ)) (spawned : P → Option (List Act)) (commands : Header → List (Form Command)) (disks : Disks) (folder : List ℕ) (h : Header) (m : ℕ)
    (lent held : Option (List Lending)) (g : OwnGround V O C P D W G A) → SitesAreSettings → ((header : Header) → IsHeader header → ReadsCommands commands header) → IsOwnGround content spawned disks folder h m lent held g
    → IsSetting (begun_with commands g.header g.ready.site)
own_setting content spawned commands disks folder h m lent held g sites reads is = sites commands g.header is.lawful (reads g.header is.lawful) m g.ready.site is.site

-- ---- a machine that can't run there

pub owes_no_place : {D A P : Type 0} (stands : D → Setting → Trace → Type 0) (commands : Header → List (Form Command)) (t : Tellers A P) (disks : Disks) (folder : List ℕ) (w : OwnManner) (left after taken now : Option (List ℕ))
    (faults later sink_faults sink_later device_faults device_later : ℕ) (lent back : Option (List Lending)) (h : Header) (r : ReaderState) (why : NoPlace) (s : Lived) → HeaderBegins left after r h
    → Bars disks folder h w.machine device_faults device_later why → PutsNoPlace taken now sink_faults sink_later why s
    → OwesOwn stands commands t disks folder w left after taken now faults later sink_faults sink_later device_faults device_later lent back s
owes_no_place stands commands t disks folder w left after taken now faults later sink_faults sink_later device_faults device_later lent back h r why s begins bars (inl none) =
    lacks stands commands t disks folder w left after taken now faults later sink_faults sink_later device_faults device_later lent back s none.0 [] none.1
owes_no_place stands commands t disks folder w left after taken now faults later sink_faults sink_later device_faults device_later lent back h r why s begins bars (inr puts) =
    Of _ AreaFault s (Is_barred r h why begins bars) puts

-- What stands in a text that was empty is put out.
pub text_is : {T E : Type 0} (r : Result T E) (text items first due : List ℕ) → text ≡ items → first ≡ [] → OnOk r (items ≡ first ++ due) → OnOk r (text ≡ due)
text_is (Ok t) text items first due same none is = same ∙ is ∙ ap (λ (xs : List ℕ). xs ++ due) none
text_is (Err e) text items first due same none is = tt

-- The areas of a machine that is ready stand, and so do the disks, with their sizes.
pub place_stands : {V O C P D W G A T : Type 0} (content : A → Option (List ℕ)) (spawned : P → Option (List Act)) (disks : Disks) (folder : List ℕ) (h : Header) (m : ℕ)
    (lent held : Option (List Lending)) (r : Result (OwnGround V O C P D W G A × T) NoPlace) → PreludeAll (HasSize disks folder) h.disks
    → IfOk r (λ own. IsOwnGround content spawned disks folder h m lent held own.0) → OnOk r (IsPlaceOf disks folder h)
place_stands content spawned disks folder h m lent held (Ok own) sizes is =
    record { sizes = sizes; areas = areas_stand content disks folder h m h.disks own.0.ready.parts.delta.items lent is.had.delta_lent is.had.delta }
place_stands content spawned disks folder h m lent held (Err e) sizes is = tt

-- ---- faults before

pub rose_since : (first faults later : ℕ) → first ≤ faults → Rose faults later → Rose first later
rose_since first faults later le rose = omega (arith, le, rose)

-- Faults of the source that were counted since were counted since before.
script_since : (scope : Scope) (keeps : Bool) (left after : Option (List ℕ)) (first faults later : ℕ) (h : Header) (given : List LiveLine) (end : Option ScriptEnd) → first ≤ faults
    → ReadsScriptBy scope keeps left after faults later h given end → ReadsScriptBy scope keeps left after first later h given end
script_since scope keeps left after first faults later h given end le r =
    record {
      read = r.read;
      ended = r.ended;
      reads = r.reads;
      at_end = r.at_end;
      told = r.told;
      given_are = r.given_are;
      plain = r.plain;
      says = r.says;
      to_end = r.to_end;
      fault = λ e. (let f = r.fault e in (rose_since first faults later le f.0, f.1));
      unread = r.unread;
    }

reads_since : (w : OwnManner) (left after : Option (List ℕ)) (first faults later : ℕ) (h : Header) (given : List LiveLine) (end : Option ScriptEnd) → first ≤ faults
    → ReadsOwn w left after faults later h given end → ReadsOwn w left after first later h given end
reads_since w left after first faults later h given end le reads = script_since _ w.keeps left after first faults later h given end le reads

due_since : {D A P : Type 0} (stands : D → Setting → Trace → Type 0) (commands : Header → List (Form Command)) (t : Tellers A P) (disks : Disks) (folder : List ℕ) (w : OwnManner) (left after : Option (List ℕ))
    (first faults later device_faults device_later : ℕ) (lent back : Option (List Lending)) (text : List ℕ) (whole : Lived) → first ≤ faults
    → OwnDue stands commands t disks folder w left after faults later device_faults device_later lent back text whole
    → OwnDue stands commands t disks folder w left after first later device_faults device_later lent back text whole
due_since stands commands t disks folder w left after first faults later device_faults device_later lent back text whole le (Ends h given hist pieces reads may lives woven) =
    Ends h given hist pieces (reads_since w left after first faults later h given _ le reads) may lives woven
due_since stands commands t disks folder w left after first faults later device_faults device_later lent back text whole le (Stops_early r number why stops) = Stops_early r number why stops
due_since stands commands t disks folder w left after first faults later device_faults device_later lent back text whole le (Stops_header r h why begins is) = Stops_header r h why begins is
due_since stands commands t disks folder w left after first faults later device_faults device_later lent back text whole le (Stops h given hist pieces number why reads may lives woven) =
    Stops h given hist pieces number why (reads_since w left after first faults later h given _ le reads) may lives woven
due_since stands commands t disks folder w left after first faults later device_faults device_later lent back text whole le (Breaks_early breaks rose) = Breaks_early breaks (rose_since first faults later le rose)
due_since stands commands t disks folder w left after first faults later device_faults device_later lent back text whole le (Breaks h given hist pieces reads may lives woven) =
    Breaks h given hist pieces (reads_since w left after first faults later h given _ le reads) may lives woven
due_since stands commands t disks folder w left after first faults later device_faults device_later lent back text whole le (Is_barred r h why begins bars) = Is_barred r h why begins bars
due_since stands commands t disks folder w left after first faults later device_faults device_later lent back text whole le (Parts h given end before d reads may case_of) =
    Parts h given end before d (reads_since w left after first faults later h given end le reads) may case_of

pub owes_since : {D A P : Type 0} (stands : D → Setting → Trace → Type 0) (commands : Header → List (Form Command)) (t : Tellers A P) (disks : Disks) (folder : List ℕ) (w : OwnManner) (left after taken now : Option (List ℕ))
    (first faults later sink_faults sink_later device_faults device_later : ℕ) (lent back : Option (List Lending)) (s : Lived) → first ≤ faults
    → OwesOwn stands commands t disks folder w left after taken now faults later sink_faults sink_later device_faults device_later lent back s
    → OwesOwn stands commands t disks folder w left after taken now first later sink_faults sink_later device_faults device_later lent back s
owes_since stands commands t disks folder w left after taken now first faults later sink_faults sink_later device_faults device_later lent back s le (Of text whole x due puts) =
    Of text whole s (due_since stands commands t disks folder w left after first faults later device_faults device_later lent back text whole le due) puts
owes_since stands commands t disks folder w left after taken now first faults later sink_faults sink_later device_faults device_later lent back s le (Lacks part nothing) = Lacks part nothing

-- .. and of the devices.
pub bars_since : (disks : Disks) (folder : List ℕ) (h : Header) (machine first faults later : ℕ) (why : NoPlace) → first ≤ faults → Bars disks folder h machine faults later why
    → Bars disks folder h machine first later why
bars_since disks folder h machine first faults later why le (Folder_bars rose) = Folder_bars (rose_since first faults later le rose)
bars_since disks folder h machine first faults later why le (Machine_bars rose) = Machine_bars (rose_since first faults later le rose)
bars_since disks folder h machine first faults later why le (Size_bars y differs) = Size_bars why differs
bars_since disks folder h machine first faults later why le (Area_bars y not) = Area_bars why (not_lent_on disks folder h Delta faults later first later why (rose_since first faults later le) not)

-- Why areas can't be had of disks that are as before bars the machine.
pub bars_area : {T : Type 0} (r : Result T NoPlace) (disks now : Disks) (folder : List ℕ) (h : Header) (machine first faults later : ℕ) → now ≡ disks → first ≤ faults
    → IfErr r (NotLent now folder h Delta faults later) → IfErr r (Bars disks folder h machine first later)
bars_area (Ok t) disks now folder h machine first faults later same le not = tt
bars_area (Err e) disks now folder h machine first faults later same le not =
    Area_bars e
    (not_lent_on disks folder h Delta faults later first later e (rose_since first faults later le) (subst (λ (x : Disks). NotLent x folder h Delta faults later e) same not))

due_devices : {D A P : Type 0} (stands : D → Setting → Trace → Type 0) (commands : Header → List (Form Command)) (t : Tellers A P) (disks : Disks) (folder : List ℕ) (w : OwnManner) (left after : Option (List ℕ))
    (faults later first device_faults device_later : ℕ) (lent back : Option (List Lending)) (text : List ℕ) (whole : Lived) → first ≤ device_faults
    → OwnDue stands commands t disks folder w left after faults later device_faults device_later lent back text whole
    → OwnDue stands commands t disks folder w left after faults later first device_later lent back text whole
due_devices stands commands t disks folder w left after faults later first device_faults device_later lent back text whole le (Ends h given hist pieces reads may lives woven) = Ends h given hist pieces reads may lives woven
due_devices stands commands t disks folder w left after faults later first device_faults device_later lent back text whole le (Stops_early r number why stops) = Stops_early r number why stops
due_devices stands commands t disks folder w left after faults later first device_faults device_later lent back text whole le (Stops_header r h why begins is) = Stops_header r h why begins is
due_devices stands commands t disks folder w left after faults later first device_faults device_later lent back text whole le (Stops h given hist pieces number why reads may lives woven) = Stops h given hist pieces number why reads may lives woven
due_devices stands commands t disks folder w left after faults later first device_faults device_later lent back text whole le (Breaks_early breaks rose) = Breaks_early breaks rose
due_devices stands commands t disks folder w left after faults later first device_faults device_later lent back text whole le (Breaks h given hist pieces reads may lives woven) = Breaks h given hist pieces reads may lives woven
due_devices stands commands t disks folder w left after faults later first device_faults device_later lent back text whole le (Is_barred r h why begins bars) =
    Is_barred r h why begins (bars_since disks folder h w.machine first device_faults device_later why le bars)
due_devices stands commands t disks folder w left after faults later first device_faults device_later lent back text whole le (Parts h given end before d reads may case_of) = Parts h given end before d reads may case_of

pub owes_devices : {D A P : Type 0} (stands : D → Setting → Trace → Type 0) (commands : Header → List (Form Command)) (t : Tellers A P) (disks : Disks) (folder : List ℕ) (w : OwnManner) (left after taken now : Option (List ℕ))
    (faults later sink_faults sink_later first device_faults device_later : ℕ) (lent back : Option (List Lending)) (s : Lived) → first ≤ device_faults
    → OwesOwn stands commands t disks folder w left after taken now faults later sink_faults sink_later device_faults device_later lent back s
    → OwesOwn stands commands t disks folder w left after taken now faults later sink_faults sink_later first device_later lent back s
owes_devices stands commands t disks folder w left after taken now faults later sink_faults sink_later first device_faults device_later lent back s le (Of text whole x due puts) =
    Of text whole s (due_devices stands commands t disks folder w left after faults later first device_faults device_later lent back text whole le due) puts
owes_devices stands commands t disks folder w left after taken now faults later sink_faults sink_later first device_faults device_later lent back s le (Lacks part nothing) = Lacks part nothing

-- ---- the header

-- Nothing was put out.
pub none_put : (taken : Option (List ℕ)) → Appends taken taken []
none_put None = tt
none_put (Some xs) = sym (append-nil xs)

pub owes_nothing : {D A P : Type 0} (stands : D → Setting → Trace → Type 0) (commands : Header → List (Form Command)) (t : Tellers A P) (disks : Disks) (folder : List ℕ) (w : OwnManner) (left after taken : Option (List ℕ))
    (faults later sink_faults device_faults device_later : ℕ) (lent back : Option (List Lending))
    → OwesOwn stands commands t disks folder w left after taken taken faults later sink_faults sink_faults device_faults device_later lent back NoMemory
owes_nothing stands commands t disks folder w left after taken faults later sink_faults device_faults device_later lent back = Lacks [] (none_put taken)

-- A read failed within it.
pub owes_break : {D A P : Type 0} (stands : D → Setting → Trace → Type 0) (commands : Header → List (Form Command)) (t : Tellers A P) (disks : Disks) (folder : List ℕ) (w : OwnManner) (left after taken : Option (List ℕ))
    (faults later sink_faults device_faults device_later : ℕ) (lent back : Option (List Lending)) → HeaderBreaks left after → Rose faults later
    → OwesOwn stands commands t disks folder w left after taken taken faults later sink_faults sink_faults device_faults device_later lent back ReadFault
owes_break stands commands t disks folder w left after taken faults later sink_faults device_faults device_later lent back breaks rose =
    Of [] ReadFault ReadFault (Breaks_early breaks rose) (All (none_put taken))

-- A line of it is refused.
pub owes_refusal : {D A P : Type 0} (stands : D → Setting → Trace → Type 0) (commands : Header → List (Form Command)) (t : Tellers A P) (disks : Disks) (folder : List ℕ) (w : OwnManner) (left after taken now : Option (List ℕ))
    (faults later sink_faults sink_later device_faults device_later : ℕ) (lent back : Option (List Lending)) (r : ReaderState) (number : ℕ) (why : Refusal) (s : Lived) → HeaderStops left after r number why
    → Puts taken now sink_faults sink_later (as_bytes (refusal_line number why ∷ [])) Refused s
    → OwesOwn stands commands t disks folder w left after taken now faults later sink_faults sink_later device_faults device_later lent back s
owes_refusal stands commands t disks folder w left after taken now faults later sink_faults sink_later device_faults device_later lent back r number why s stops puts =
    Of _ Refused s (Stops_early r number why stops) puts

-- Its last line.
pub owes_header : {D A P : Type 0} (stands : D → Setting → Trace → Type 0) (commands : Header → List (Form Command)) (t : Tellers A P) (disks : Disks) (folder : List ℕ) (w : OwnManner) (left after taken now : Option (List ℕ))
    (faults later sink_faults sink_later device_faults device_later : ℕ) (lent back : Option (List Lending)) (r : ReaderState) (h : Header) (number : ℕ) (why : Refusal) (s : Lived) → HeaderBegins left after r h
    → header_refusal h w.machine ≡ Some why → number ≡ r.number → Puts taken now sink_faults sink_later (as_bytes (refusal_line number why ∷ [])) Refused s
    → OwesOwn stands commands t disks folder w left after taken now faults later sink_faults sink_later device_faults device_later lent back s
owes_header stands commands t disks folder w left after taken now faults later sink_faults sink_later device_faults device_later lent back r h number why s begins is same puts =
    Of _ Refused s (Stops_header r h why begins is) (subst (λ (n : ℕ). Puts taken now sink_faults sink_later (as_bytes (refusal_line n why ∷ [])) Refused s) same puts)
