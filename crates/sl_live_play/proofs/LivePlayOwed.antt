-- What is owed of a play, from what came of its parts.
use Rattle.sl_reader.specs.declared.live_lines.LiveLine.{LiveLine}
use Rattle.sl_live_play.specs.LiveOwed.{All, Beginnings, Breaks, Breaks_early, Disk_there, Due, Ends, Faults, Front, In_use, IsWoven, Lacks, Lives, Of, Owes, Part, Parts, Puts, PutsEnded, PutsPart, PutsNoEntry, PutsNoGround, PutsStop, Stops, Stops_early, Tellers, area_fault_text, disk_there_text, in_use_text}
use Rattle.sl_live_play.specs.declared.play.Lived.TheVariants.{AreaFault, Differs, Done, NoMemory, ReadFault, Refused, WriteFault}
use Rattle.sl_live_play.specs.declared.play.Lived.{Lived}
use Rattle.sl_live_play.specs.declared.play.Manner.{Manner}
use Rattle.sl_reader.specs.ScriptReading.{ReadsScript}
use Rattle.sl_reader.specs.declared.script_reading.ScriptEnd.TheVariants as script
use Rattle.sl_reader.specs.declared.script_reading.ScriptEnd.{ScriptEnd}
use Rattle.sl_live_run.specs.Causes.{Explains}
use Rattle.sl_live_run.specs.Folders.{Asked, Bars, IsVacant}
use Rattle.sl_live_run.specs.Lent.{AreAllBack, AreAllHad}
use Rattle.sl_live_run.specs.declared.folder.NoEntry.TheVariants as no_entry
use Rattle.sl_live_run.specs.declared.folder.NoEntry.{NoEntry}
use Rattle.sl_live_run.specs.declared.ground.NoGround.TheVariants as no_ground
use Rattle.sl_live_run.specs.declared.ground.NoGround.{NoGround}
use Rattle.sl_live_run.specs.Runs.{Both, HasToldAll, IsLiveStop, Leavings, replies_of}
use Rattle.sl_outside.specs.Lendings.{Lending}
use Rattle.sl_outside.specs.declared.act.Act.{Act}
use Rattle.sl_output.specs.Outputs.{IsCut}
use Rattle.sl_output.specs.Pieces.{Piece, text_of}
use Rattle.std.proofs.KnownBytes.{Appends-trans}
use Rattle.sl_live_run.specs.declared.compare.LiveStop.TheVariants as stop
use Rattle.sl_live_run.specs.declared.compare.LiveStop.{LiveStop}
use Rattle.sl_report.specs.OwedReports.{HeadersAreGood, IsFrontOf}
use Rattle.sl_report.specs.Languages.{whole_language}
use Rattle.sl_report.specs.RefusalLines.{refusal_line}
use Rattle.sl_run.specs.Headers.{IsHeader}
use Rattle.sl_run.specs.declared.event.Refusal.{Refusal}
use Rattle.sl_run.specs.declared.header.Header.{Header}
use Rattle.sl_reader.specs.HeaderBegins.{HeaderBegins, HeaderBreaks, HeaderStops, lines_left}
use Rattle.sl_reader.specs.LineReads.{ReaderState}
use Rattle.sl_text.specs.Forms.{Form, as_bytes}
use Rattle.sl_trace.specs.Traces.{Setting, Trace}
use Rattle.sl_trace.specs.declared.command.Command.{Command}
use Rattle.sl_trace.specs.declared.effects.Entry.{Entry}
use Rattle.sl_io.specs.FaultCauses.{Rose}
use Rattle.std.proofs.Common.{Bool, ap, Err, List, None, Ok, Option, Result, Some, [], append-nil, append_assoc, arith, drop, length, refl, subst, sym, take, ℕ, ◌++◌, ◌≡◌, ◌≤◌, ◌∙◌, ◌∷◌}
use Rattle.std.proofs.lemmas.List.{take-append-drop}
use Rattle.std.specs.Io.KnownBytes.{Appends}
use Rattle.std.specs.Prelude.{IfErr, IfOk, OnOk}

-- For want of memory a part may have been put out.
lacks : {D A P : Type 0} (stands : D → Setting → Trace → Type 0) (commands : Header → List (Form Command)) (t : Tellers A P) (f : Asked) (w : Manner) (left after taken now : Option (List ℕ))
    (faults later sink_faults sink_later device_faults device_later : ℕ) (lent back : Option (List Lending)) (s : Lived) → s ≡ NoMemory → PutsPart taken now
    → Owes stands commands t f w left after taken now faults later sink_faults sink_later device_faults device_later lent back s
lacks stands commands t f w left after taken now faults later sink_faults sink_later device_faults device_later lent back s is part =
    subst (Owes stands commands t f w left after taken now faults later sink_faults sink_later device_faults device_later lent back) (sym is) (Lacks part.0 part.1)

-- .. or nothing.
lacks_all : {D A P : Type 0} (stands : D → Setting → Trace → Type 0) (commands : Header → List (Form Command)) (t : Tellers A P) (f : Asked) (w : Manner) (left after taken now : Option (List ℕ))
    (faults later sink_faults sink_later device_faults device_later : ℕ) (lent back : Option (List Lending)) (s : Lived) → s ≡ NoMemory → Appends taken now []
    → Owes stands commands t f w left after taken now faults later sink_faults sink_later device_faults device_later lent back s
lacks_all stands commands t f w left after taken now faults later sink_faults sink_later device_faults device_later lent back s is nothing =
    lacks stands commands t f w left after taken now faults later sink_faults sink_later device_faults device_later lent back s is ([], nothing)

-- The histories of machines, by how their script ended.
owes_ended : {D A P : Type 0} (stands : D → Setting → Trace → Type 0) (commands : Header → List (Form Command)) (t : Tellers A P) (f : Asked) (w : Manner) (left after taken now : Option (List ℕ))
    (faults later sink_faults sink_later device_faults device_later : ℕ) (lent back : Option (List Lending)) (h : Header) (given : List LiveLine) (hs : List (List Entry)) (pieces : List Piece) (end : Option ScriptEnd) (s : Lived)
    → ReadsScript w.keeps left after faults later h given end → (l : Lives stands commands t f.path lent back h given hs) → IsWoven w.events l.begun.header l.begun.sites given hs pieces
    → IsVacant f h → PutsEnded taken now sink_faults sink_later pieces (length hs) (replies_of l.begun.header l.begun.sites hs) end s
    → Owes stands commands t f w left after taken now faults later sink_faults sink_later device_faults device_later lent back s
owes_ended stands commands t f w left after taken now faults later sink_faults sink_later device_faults device_later lent back h given hs pieces (Some script.End) s reads lives woven vacant puts =
    Of _ Done s (Ends h given hs pieces reads lives woven vacant) puts
owes_ended stands commands t f w left after taken now faults later sink_faults sink_later device_faults device_later lent back h given hs pieces (Some (script.Refused number why)) s reads lives woven vacant puts =
    Of _ Refused s (Stops h given hs pieces number why reads lives woven vacant) puts
owes_ended stands commands t f w left after taken now faults later sink_faults sink_later device_faults device_later lent back h given hs pieces (Some script.ReadFault) s reads lives woven vacant puts =
    Of _ ReadFault s (Breaks h given hs pieces reads lives woven vacant) puts
owes_ended stands commands t f w left after taken now faults later sink_faults sink_later device_faults device_later lent back h given hs pieces (Some script.NoMemory) s reads lives woven vacant puts =
    lacks stands commands t f w left after taken now faults later sink_faults sink_later device_faults device_later lent back s puts.0 puts.1
owes_ended stands commands t f w left after taken now faults later sink_faults sink_later device_faults device_later lent back h given hs pieces None s reads lives woven vacant puts =
    lacks stands commands t f w left after taken now faults later sink_faults sink_later device_faults device_later lent back s puts.0 puts.1

-- ---- what was told of all machines

woven : {D A P : Type 0} (content : A → Option (List ℕ)) (area_faults : A → ℕ) (spawned : P → Option (List Act)) (stands : D → Setting → Trace → Type 0) (commands : Header → List (Form Command)) (h : Header)
    (begun : Beginnings h) (events : Bool) (disks : List (Both A)) (was is : List LiveLine → Type 0) (pieces : List Piece) (machines replies : ℕ) (remains : List (Leavings A P))
    → (told : HasToldAll content area_faults spawned events stands commands begun.header begun.sites disks was is pieces machines replies remains)
    → IsWoven events begun.header begun.sites told.lines told.histories pieces
woven content area_faults spawned stands commands h begun events disks was is pieces machines replies remains told = record { below = told.below; each = told.texts; refused = told.refused }

-- What devices handed out to machines that have begun so, and what came back of what they left.
pub record IsLendingOf {A P : Type 0} {h : Header} (t : Tellers A P) (folder : List ℕ) (lent back : Option (List Lending)) (begun : Beginnings h) (disks : List (Both A)) (remains : List (Leavings A P)) : Type 0 where
  pub counted : length disks ≡ length begun.sites
  pub between : Option (List Lending)
  pub had : AreAllHad t.content folder begun.header 1 disks lent between
  pub returned : AreAllBack t.content t.faults t.acts remains between back

-- What came of a run, of a script that has given nothing before, and of whose source the lines that it has given are read now.
pub owes_run : {D A P : Type 0} (stands : D → Setting → Trace → Type 0) (commands : Header → List (Form Command)) (t : Tellers A P) (f : Asked) (w : Manner) (left after taken now : Option (List ℕ))
    (faults later sink_faults sink_later device_faults device_later : ℕ) (lent back : Option (List Lending)) (h : Header) (begun : Beginnings h) (disks : List (Both A)) (was is : List LiveLine → Type 0) (pieces : List Piece) (machines : ℕ)
    (remains : List (Leavings A P)) (replies : Result ℕ LiveStop) (end : Option ScriptEnd) (s : Lived) → IsLendingOf t f.path lent back begun disks remains → was [] → ((given : List LiveLine) → is given → ReadsScript w.keeps left after faults later h given end) → IsVacant f h
    → IfOk replies (λ n. HasToldAll t.content t.faults t.acts w.events stands commands begun.header begun.sites disks was is pieces machines n remains)
    → IfErr replies (IsLiveStop stands commands begun.header begun.sites was is)
    → IfOk replies (λ n. PutsEnded taken now sink_faults sink_later pieces machines n end s)
    → IfErr replies (λ e. PutsStop taken now sink_faults sink_later pieces e s)
    → Owes stands commands t f w left after taken now faults later sink_faults sink_later device_faults device_later lent back s
owes_run stands commands t f w left after taken now faults later sink_faults sink_later device_faults device_later lent back h begun disks was is pieces machines remains (Ok n) end s had none reads vacant ok err puts stops =
    let hs = ok.histories in
    let here : PutsEnded taken now sink_faults sink_later pieces (length hs) n end s = subst (λ (m : ℕ). PutsEnded taken now sink_faults sink_later pieces m n end s) ok.machines_are puts in
    owes_ended stands commands t f w left after taken now faults later sink_faults sink_later device_faults device_later lent back h ok.lines hs pieces end s (reads ok.lines (ok.gave [] none))
    (record { begun = begun; histories = ok.live; served = record { disks = disks; counted = had.counted; between = had.between; had = had.had; left = remains; served = ok.served; returned = had.returned } })
    (woven t.content t.faults t.acts stands commands h begun w.events disks was is pieces machines n remains ok) vacant
    (subst (λ (k : ℕ). PutsEnded taken now sink_faults sink_later pieces (length hs) k end s) ok.count here)
owes_run stands commands t f w left after taken now faults later sink_faults sink_later device_faults device_later lent back h begun disks was is pieces machines remains (Err (stop.Differ machine d)) end s had none reads vacant ok err puts stops =
    Of _ Differs s (Parts h err.0 end (text_of pieces) machine d (reads err.0 (err.1 [] none)) (record { begun = begun; differs = err.2 }) vacant) stops
owes_run stands commands t f w left after taken now faults later sink_faults sink_later device_faults device_later lent back h begun disks was is pieces machines remains (Err stop.NoMemory) end s had none reads vacant ok err puts stops =
    lacks stands commands t f w left after taken now faults later sink_faults sink_later device_faults device_later lent back s stops.0 stops.1

-- A run that can't begin.
pub owes_no_ground : {D A P : Type 0} (stands : D → Setting → Trace → Type 0) (commands : Header → List (Form Command)) (t : Tellers A P) (f : Asked) (w : Manner) (left after taken now : Option (List ℕ))
    (faults later sink_faults sink_later device_faults device_later : ℕ) (lent back : Option (List Lending)) (why : NoGround) (s : Lived) → Explains device_faults device_later why
    → PutsNoGround taken now sink_faults sink_later why s
    → Owes stands commands t f w left after taken now faults later sink_faults sink_later device_faults device_later lent back s
owes_no_ground stands commands t f w left after taken now faults later sink_faults sink_later device_faults device_later lent back no_ground.AreaFault s rose puts =
    Of area_fault_text AreaFault s (Faults rose) puts
owes_no_ground stands commands t f w left after taken now faults later sink_faults sink_later device_faults device_later lent back no_ground.NoMemory s rose puts =
    lacks_all stands commands t f w left after taken now faults later sink_faults sink_later device_faults device_later lent back s puts.0 puts.1

-- A folder that can't be entered.
pub owes_no_entry : {D A P : Type 0} (stands : D → Setting → Trace → Type 0) (commands : Header → List (Form Command)) (t : Tellers A P) (f : Asked) (w : Manner) (left after taken now : Option (List ℕ))
    (faults later sink_faults sink_later device_faults device_later : ℕ) (lent back : Option (List Lending)) (h : Header) (r : ReaderState) (why : NoEntry) (s : Lived) → HeaderBegins left after r h
    → Bars f.anew h device_faults device_later why → PutsNoEntry taken now sink_faults sink_later why s
    → Owes stands commands t f w left after taken now faults later sink_faults sink_later device_faults device_later lent back s
owes_no_entry stands commands t f w left after taken now faults later sink_faults sink_later device_faults device_later lent back h r no_entry.AreaFault s begins rose puts =
    Of area_fault_text AreaFault s (Faults rose) puts
owes_no_entry stands commands t f w left after taken now faults later sink_faults sink_later device_faults device_later lent back h r no_entry.InUse s begins rose puts =
    Of in_use_text AreaFault s (In_use rose) puts
owes_no_entry stands commands t f w left after taken now faults later sink_faults sink_later device_faults device_later lent back h r (no_entry.DiskThere path) s begins bars puts =
    Of (disk_there_text path) AreaFault s (Disk_there r h path begins bars.0 bars.1) puts
owes_no_entry stands commands t f w left after taken now faults later sink_faults sink_later device_faults device_later lent back h r no_entry.NoMemory s begins none puts =
    lacks_all stands commands t f w left after taken now faults later sink_faults sink_later device_faults device_later lent back s puts.0 puts.1

-- ---- faults before

rose_since : (first faults later : ℕ) → first ≤ faults → Rose faults later → Rose first later
rose_since first faults later le rose = omega (arith, le, rose)

-- Faults of the source that were counted since were counted since before.
script_since : (keeps : Bool) (left after : Option (List ℕ)) (first faults later : ℕ) (h : Header) (given : List LiveLine) (end : Option ScriptEnd) → first ≤ faults
    → ReadsScript keeps left after faults later h given end → ReadsScript keeps left after first later h given end
script_since keeps left after first faults later h given end le r =
    record {
      read = r.read;
      ended = r.ended;
      reads = r.reads;
      at_end = r.at_end;
      told = r.told;
      given_are = r.given_are;
      plain = r.plain;
      says = r.says;
      to_end = r.to_end;
      fault = λ e. (let f = r.fault e in (rose_since first faults later le f.0, f.1));
      unread = r.unread;
    }

due_since : {D A P : Type 0} (stands : D → Setting → Trace → Type 0) (commands : Header → List (Form Command)) (t : Tellers A P) (f : Asked) (w : Manner) (left after : Option (List ℕ))
    (first faults later device_faults device_later : ℕ) (lent back : Option (List Lending)) (text : List ℕ) (whole : Lived) → first ≤ faults
    → Due stands commands t f w left after faults later device_faults device_later lent back text whole → Due stands commands t f w left after first later device_faults device_later lent back text whole
due_since stands commands t f w left after first faults later device_faults device_later lent back text whole le (Ends h given hs pieces reads lives woven vacant) =
    Ends h given hs pieces (script_since w.keeps left after first faults later h given _ le reads) lives woven vacant
due_since stands commands t f w left after first faults later device_faults device_later lent back text whole le (Stops_early r number why stops) = Stops_early r number why stops
due_since stands commands t f w left after first faults later device_faults device_later lent back text whole le (Stops h given hs pieces number why reads lives woven vacant) =
    Stops h given hs pieces number why (script_since w.keeps left after first faults later h given _ le reads) lives woven vacant
due_since stands commands t f w left after first faults later device_faults device_later lent back text whole le (Breaks_early breaks rose) =
    Breaks_early breaks (rose_since first faults later le rose)
due_since stands commands t f w left after first faults later device_faults device_later lent back text whole le (Breaks h given hs pieces reads lives woven vacant) =
    Breaks h given hs pieces (script_since w.keeps left after first faults later h given _ le reads) lives woven vacant
due_since stands commands t f w left after first faults later device_faults device_later lent back text whole le (Faults rose) = Faults rose
due_since stands commands t f w left after first faults later device_faults device_later lent back text whole le (In_use rose) = In_use rose
due_since stands commands t f w left after first faults later device_faults device_later lent back text whole le (Disk_there r h path begins there rose) =
    Disk_there r h path begins there rose
due_since stands commands t f w left after first faults later device_faults device_later lent back text whole le (Parts h given end before machine d reads case_of vacant) =
    Parts h given end before machine d (script_since w.keeps left after first faults later h given end le reads) case_of vacant

pub owes_since : {D A P : Type 0} (stands : D → Setting → Trace → Type 0) (commands : Header → List (Form Command)) (t : Tellers A P) (f : Asked) (w : Manner) (left after taken now : Option (List ℕ))
    (first faults later sink_faults sink_later device_faults device_later : ℕ) (lent back : Option (List Lending)) (s : Lived) → first ≤ faults
    → Owes stands commands t f w left after taken now faults later sink_faults sink_later device_faults device_later lent back s
    → Owes stands commands t f w left after taken now first later sink_faults sink_later device_faults device_later lent back s
owes_since stands commands t f w left after taken now first faults later sink_faults sink_later device_faults device_later lent back s le (Of text whole it due puts) =
    Of text whole s (due_since stands commands t f w left after first faults later device_faults device_later lent back text whole le due) puts
owes_since stands commands t f w left after taken now first faults later sink_faults sink_later device_faults device_later lent back s le (Lacks part nothing) = Lacks part nothing

-- .. and of the devices.
due_devices : {D A P : Type 0} (stands : D → Setting → Trace → Type 0) (commands : Header → List (Form Command)) (t : Tellers A P) (f : Asked) (w : Manner) (left after : Option (List ℕ))
    (faults later first device_faults device_later : ℕ) (lent back : Option (List Lending)) (text : List ℕ) (whole : Lived) → first ≤ device_faults
    → Due stands commands t f w left after faults later device_faults device_later lent back text whole → Due stands commands t f w left after faults later first device_later lent back text whole
due_devices stands commands t f w left after faults later first device_faults device_later lent back text whole le (Ends h given hs pieces reads lives woven vacant) = Ends h given hs pieces reads lives woven vacant
due_devices stands commands t f w left after faults later first device_faults device_later lent back text whole le (Stops_early r number why stops) = Stops_early r number why stops
due_devices stands commands t f w left after faults later first device_faults device_later lent back text whole le (Stops h given hs pieces number why reads lives woven vacant) = Stops h given hs pieces number why reads lives woven vacant
due_devices stands commands t f w left after faults later first device_faults device_later lent back text whole le (Breaks_early breaks rose) = Breaks_early breaks rose
due_devices stands commands t f w left after faults later first device_faults device_later lent back text whole le (Breaks h given hs pieces reads lives woven vacant) = Breaks h given hs pieces reads lives woven vacant
due_devices stands commands t f w left after faults later first device_faults device_later lent back text whole le (Faults rose) = Faults (rose_since first device_faults device_later le rose)
due_devices stands commands t f w left after faults later first device_faults device_later lent back text whole le (In_use rose) = In_use (rose_since first device_faults device_later le rose)
due_devices stands commands t f w left after faults later first device_faults device_later lent back text whole le (Disk_there r h path begins there rose) =
    Disk_there r h path begins there (rose_since first device_faults device_later le rose)
due_devices stands commands t f w left after faults later first device_faults device_later lent back text whole le (Parts h given end before machine d reads case_of vacant) = Parts h given end before machine d reads case_of vacant

pub owes_devices : {D A P : Type 0} (stands : D → Setting → Trace → Type 0) (commands : Header → List (Form Command)) (t : Tellers A P) (f : Asked) (w : Manner) (left after taken now : Option (List ℕ))
    (faults later sink_faults sink_later first device_faults device_later : ℕ) (lent back : Option (List Lending)) (s : Lived) → first ≤ device_faults
    → Owes stands commands t f w left after taken now faults later sink_faults sink_later device_faults device_later lent back s
    → Owes stands commands t f w left after taken now faults later sink_faults sink_later first device_later lent back s
owes_devices stands commands t f w left after taken now faults later sink_faults sink_later first device_faults device_later lent back s le (Of text whole it due puts) =
    Of text whole s (due_devices stands commands t f w left after faults later first device_faults device_later lent back text whole le due) puts
owes_devices stands commands t f w left after taken now faults later sink_faults sink_later first device_faults device_later lent back s le (Lacks part nothing) = Lacks part nothing

-- What was handed out before is the same at an earlier moment.
pub owes_lent : {D A P : Type 0} (stands : D → Setting → Trace → Type 0) (commands : Header → List (Form Command)) (t : Tellers A P) (f : Asked) (w : Manner) (left after taken now : Option (List ℕ))
    (faults later sink_faults sink_later device_faults device_later : ℕ) (was lent back : Option (List Lending)) (s : Lived) → was ≡ lent
    → Owes stands commands t f w left after taken now faults later sink_faults sink_later device_faults device_later was back s
    → Owes stands commands t f w left after taken now faults later sink_faults sink_later device_faults device_later lent back s
owes_lent stands commands t f w left after taken now faults later sink_faults sink_later device_faults device_later was lent back s same owes =
    subst (λ x. Owes stands commands t f w left after taken now faults later sink_faults sink_later device_faults device_later x back s) same owes

-- ---- the header

-- Nothing was put out.
none_put : (taken : Option (List ℕ)) → Appends taken taken []
none_put None = tt
none_put (Some xs) = sym (append-nil xs)

pub owes_nothing : {D A P : Type 0} (stands : D → Setting → Trace → Type 0) (commands : Header → List (Form Command)) (t : Tellers A P) (f : Asked) (w : Manner) (left after taken : Option (List ℕ))
    (faults later sink_faults device_faults device_later : ℕ) (lent back : Option (List Lending))
    → Owes stands commands t f w left after taken taken faults later sink_faults sink_faults device_faults device_later lent back NoMemory
owes_nothing stands commands t f w left after taken faults later sink_faults device_faults device_later lent back = Lacks [] (none_put taken)

-- A read failed within it.
pub owes_break : {D A P : Type 0} (stands : D → Setting → Trace → Type 0) (commands : Header → List (Form Command)) (t : Tellers A P) (f : Asked) (w : Manner) (left after taken : Option (List ℕ))
    (faults later sink_faults device_faults device_later : ℕ) (lent back : Option (List Lending)) → HeaderBreaks left after → Rose faults later
    → Owes stands commands t f w left after taken taken faults later sink_faults sink_faults device_faults device_later lent back ReadFault
owes_break stands commands t f w left after taken faults later sink_faults device_faults device_later lent back breaks rose =
    Of [] ReadFault ReadFault (Breaks_early breaks rose) (All (none_put taken))

-- A line of it is refused.
pub owes_refusal : {D A P : Type 0} (stands : D → Setting → Trace → Type 0) (commands : Header → List (Form Command)) (t : Tellers A P) (f : Asked) (w : Manner) (left after taken now : Option (List ℕ))
    (faults later sink_faults sink_later device_faults device_later : ℕ) (lent back : Option (List Lending)) (r : ReaderState) (number : ℕ) (why : Refusal) (s : Lived) → HeaderStops left after r number why
    → Puts taken now sink_faults sink_later (as_bytes (refusal_line number why ∷ [])) Refused s
    → Owes stands commands t f w left after taken now faults later sink_faults sink_later device_faults device_later lent back s
owes_refusal stands commands t f w left after taken now faults later sink_faults sink_later device_faults device_later lent back r number why s stops puts =
    Of _ Refused s (Stops_early r number why stops) puts

-- ---- a text that is put out

on_ok : {A E : Type 0} (r : Result A E) (a : A) (P : Type 0) → r ≡ Ok a → OnOk r P → P
on_ok (Ok x) a P is p = p
on_ok (Err e) a P is p = absurd cc

pub put_all : {A E : Type 0} (pushed : Result A E) (u : A) (a b : Option (List ℕ)) (f g : ℕ) (text all : List ℕ) (whole : Lived) → pushed ≡ Ok u → OnOk pushed (text ≡ all) → Appends a b text
    → Puts a b f g all whole whole
put_all pushed u a b f g text all whole is told appends = All (subst (Appends a b) (on_ok pushed u (text ≡ all) is told) appends)

front_of : (text all : List ℕ) (n : ℕ) → text ≡ all → IsFrontOf (take n text) all
front_of text all n is = (drop n text, sym is ∙ sym (take-append-drop n text))

pub put_part : {A E : Type 0} (pushed : Result A E) (u : A) (a b : Option (List ℕ)) (f g : ℕ) (text all : List ℕ) (whole : Lived) → pushed ≡ Ok u → OnOk pushed (text ≡ all)
    → ((n : ℕ) × (n ≤ length text) × Appends a b (take n text)) → Rose f g → Puts a b f g all whole WriteFault
put_part pushed u a b f g text all whole is told front rose =
    Part (take front.0 text) front.2 (front_of text all front.0 (on_ok pushed u (text ≡ all) is told)) rose

pub put_none : (a : Option (List ℕ)) (f g : ℕ) (all : List ℕ) (whole : Lived) → Puts a a f g all whole NoMemory
put_none a f g all whole = Front [] (none_put a) (all, refl)

-- The header that was read is one that a world may begin with.
pub good_header : (h : Header) (first left : Option (List ℕ)) (r : ReaderState) → HeadersAreGood whole_language → HeaderBegins first left r h → IsHeader h
good_header h first left r good b = good (b.consumed ++ []) h (lines_left b.consumed [] r) (b.reads [] (λ e. refl))

-- ---- a text behind pieces

-- A write had failed: nothing more is put out.
pub behind_cut : (taken now : Option (List ℕ)) (faults later : ℕ) (pieces : List Piece) (all : List ℕ) (whole : Lived) → IsCut taken now faults later pieces
    → Puts taken now faults later (text_of pieces ++ all) whole WriteFault
behind_cut taken now faults later pieces all whole cut =
    let rest = cut.begins in
    Part cut.part cut.took (rest.0 ++ all, ap (λ (l : List ℕ). l ++ all) (sym rest.1) ∙ append_assoc cut.part rest.0 all) cut.rose

-- What is put out of a text, behind all pieces.
pub behind : (taken now then : Option (List ℕ)) (faults later last : ℕ) (pieces : List Piece) (all : List ℕ) (whole s : Lived) → faults ≤ later → Appends taken now (text_of pieces)
    → Puts now then later last all whole s → Puts taken then faults last (text_of pieces ++ all) whole s
behind taken now then faults later last pieces all whole s le took (All appends) = All (Appends-trans taken now then (text_of pieces) all took appends)
behind taken now then faults later last pieces all whole s le took (Part front appends begins rose) =
    Part (text_of pieces ++ front) (Appends-trans taken now then (text_of pieces) front took appends)
    (begins.0, ap (λ (l : List ℕ). text_of pieces ++ l) begins.1 ∙ sym (append_assoc (text_of pieces) front begins.0)) (rose_since faults later last le rose)
behind taken now then faults later last pieces all whole s le took (Front front appends begins) =
    Front (text_of pieces ++ front) (Appends-trans taken now then (text_of pieces) front took appends)
    (begins.0, ap (λ (l : List ℕ). text_of pieces ++ l) begins.1 ∙ sym (append_assoc (text_of pieces) front begins.0))
