-- What a live script owes that is played: what is read and put out, by how it ends.
use Rattle.sl_world_state.specs.declared.daemon.Site.{Site}
use Rattle.sl_world_state.specs.FirstKept.{session_of}
use Rattle.sl_live_run.specs.Folders.{Asked, IsDiskThere, IsVacant}
use Rattle.sl_live_run.specs.Grounds.{IsSiteOf}
use Rattle.sl_live_run.specs.Lent.{AreAllBack, AreAllHad}
use Rattle.sl_live_run.specs.declared.folder.NoEntry.TheVariants as no_entry
use Rattle.sl_live_run.specs.declared.folder.NoEntry.{NoEntry}
use Rattle.sl_live_run.specs.declared.ground.NoGround.TheVariants as no_ground
use Rattle.sl_live_run.specs.declared.ground.NoGround.{NoGround}
use Rattle.sl_reader.specs.declared.live_lines.LiveLine.{LiveLine}
use Rattle.sl_live_play.specs.DifferenceLines.{differ_text}
use Rattle.sl_live_play.specs.declared.play.Lived.TheVariants.{AreaFault, Differs, Done, NoMemory, ReadFault, Refused, WriteFault}
use Rattle.sl_live_play.specs.declared.play.Lived.{Lived}
use Rattle.sl_live_play.specs.declared.play.Manner.{Manner}
use Rattle.sl_reader.specs.ScriptReading.{ReadsScript}
use Rattle.sl_reader.specs.declared.script_reading.ScriptEnd.TheVariants as script
use Rattle.sl_reader.specs.declared.script_reading.ScriptEnd.{ScriptEnd}
use Rattle.sl_book.specs.Closings.{AreBelow}
use Rattle.sl_live_lines.specs.LiveTexts.{history_text, last_text}
use Rattle.sl_live_lines.specs.declared.live_texts.Ending.{Ending}
use Rattle.sl_outside.specs.Lendings.{Lending}
use Rattle.sl_outside.specs.declared.act.Act.{Act}
use Rattle.sl_output.specs.Pieces.{Piece, text_by, text_of}
use Rattle.sl_live_lines.specs.declared.live_texts.Ending.TheVariants as ending
use Rattle.sl_live_run.specs.Runs.{AreAllServed, AreLiveHistories, Both, Leavings, LiveCaseOf, begun_on, begun_telling, refusals_text, replies_of}
use Rattle.sl_live_run.specs.declared.compare.LiveDiffer.{LiveDiffer}
use Rattle.sl_live_run.specs.declared.compare.LiveStop.TheVariants as stop
use Rattle.sl_live_run.specs.declared.compare.LiveStop.{LiveStop}
use Rattle.sl_report.specs.OwedReports.{IsFrontOf}
use Rattle.sl_report.specs.RefusalLines.{refusal_line}
use Rattle.sl_run.specs.Headers.{IsHeader}
use Rattle.sl_run.specs.declared.event.Refusal.{Refusal}
use Rattle.sl_run.specs.declared.header.Header.{Header}
use Rattle.sl_reader.specs.HeaderBegins.{HeaderBegins, HeaderBreaks, HeaderStops}
use Rattle.sl_reader.specs.LineReads.{ReaderState}
use Rattle.sl_text.specs.Forms.{Form, as_bytes}
use Rattle.sl_trace.specs.Traces.{Setting, Trace}
use Rattle.sl_trace.specs.declared.command.Command.{Command}
use Rattle.sl_trace.specs.declared.effects.Entry.{Entry}
use Rattle.sl_io.specs.FaultCauses.{Rose}
use Rattle.std.specs.Io.KnownBytes.{Appends}
use Rattle.std.specs.Prelude.{Bool, List, None, Option, Some, codes, length, slice_get, [], ℕ, ◌++◌, ◌+◌, ◌∷◌, ◌≡◌}

-- ---- what the machines did

-- What the machines of a header began with: its clocks' readings in place of the `clock` lines, and for each machine the site that the header
-- gives it.
pub record Beginnings (h : Header) : Type 0 where
  pub header : Header
  pub lawful : IsHeader header
  pub same : header ≡ record h { clocks = header.clocks }
  pub sites : List Site
  pub counted : length sites ≡ h.machines
  pub begun : (place : ℕ) (s : Site) → slice_get sites place ≡ Some s → IsSiteOf header (place + 1) (session_of header (place + 1)) s

-- What areas tell of themselves: what they have, and the faults that they counted; and spawners: what they were asked for. `None` is told where nothing is.
pub record Tellers (A P : Type 0) : Type 0 where
  pub content : A → Option (List ℕ)
  pub faults : A → ℕ
  pub acts : P → Option (List Act)

-- Devices handed out areas and a spawner to each machine of these sites, in this folder, and they were served by just these histories: the areas that the
-- machines left were made of those by just the calls of these histories, and the spawners that they left were asked for just the signals and the starts of these,
-- beside the kills that are told with them. All that was left came back to the devices, as it was then; and nothing else was handed out, and nothing else came back.
pub record Served {A P : Type 0} (t : Tellers A P) (commands : Header → List (Form Command)) (folder : List ℕ) (lent back : Option (List Lending)) (header : Header) (sites : List Site)
    (hs : List (List Entry)) : Type 0 where
  pub disks : List (Both A)
  pub counted : length disks ≡ length sites
  pub between : Option (List Lending)
  pub had : AreAllHad t.content folder header 1 disks lent between
  pub left : List (Leavings A P)
  pub served : AreAllServed t.content t.faults t.acts commands header sites hs disks left
  pub returned : AreAllBack t.content t.faults t.acts left between back

-- These are their histories, where the script gave these lines; and what they say of disks, of signals and of starts was done.
pub record Lives {D A P : Type 0} (stands : D → Setting → Trace → Type 0) (commands : Header → List (Form Command)) (t : Tellers A P) (folder : List ℕ)
    (lent back : Option (List Lending)) (h : Header) (given : List LiveLine) (hs : List (List Entry)) : Type 0 where
  pub begun : Beginnings h
  pub histories : AreLiveHistories stands commands begun.header begun.sites given hs
  pub served : Served t commands folder lent back begun.header begun.sites hs

-- Machines of these sites, with these histories, put out these pieces, signed by their places: each what is told of its own, in order; and the script, signed
-- by their number, the lines that it gave as refused.
pub record IsWoven (events : Bool) (header : Header) (sites : List Site) (given : List LiveLine) (hs : List (List Entry)) (pieces : List Piece) : Type 0 where
  pub below : AreBelow (length hs + 1) pieces
  pub each : (place : ℕ) (site : Site) (h : List Entry) → slice_get sites place ≡ Some site → slice_get hs place ≡ Some h
      → text_by place pieces ≡ history_text (place + 1) (begun_telling events header site) (begun_on header site) h
  pub refused : text_by (length hs) pieces ≡ refusals_text given

-- What is put out of such histories: these pieces, and how the script ended.
abbrev pub told_text : Header → List Site → List (List Entry) → List Piece → Ending → List ℕ
told_text header sites hs pieces e = text_of pieces ++ last_text (length hs) (replies_of header sites hs) e

-- A case holds of this machine, in which its threads, its history and the script differ.
pub record Differing {D : Type 0} (stands : D → Setting → Trace → Type 0) (commands : Header → List (Form Command)) (h : Header) (given : List LiveLine)
    (machine : ℕ) (d : LiveDiffer) : Type 0 where
  pub begun : Beginnings h
  pub differs : LiveCaseOf stands commands begun.header begun.sites given machine d

-- ---- what is due

-- The line of devices that failed.
abbrev pub area_fault_text : List ℕ
area_fault_text = codes "area fault" ++ 10 ∷ []

-- The line of a folder that another program has.
abbrev pub in_use_text : List ℕ
in_use_text = codes "folder in use" ++ 10 ∷ []

-- The line of a disk that stands already.
abbrev pub disk_there_text : List ℕ → List ℕ
disk_there_text path = codes "disk there " ++ path ++ 10 ∷ []

-- What is to be put out, and how the play then ended, by what was read of the source; and, where machines ran, what devices handed out for them and what came
-- back. Machines run where no disk is told to stand, or where
-- disks are to be made anew.
pub data Due {D A P : Type 0} (stands : D → Setting → Trace → Type 0) (commands : Header → List (Form Command)) (t : Tellers A P) (f : Asked) (w : Manner) (left after : Option (List ℕ))
    (faults later device_faults device_later : ℕ) (lent back : Option (List Lending)) : List ℕ → Lived → Type 0 where
  -- the script was read to its end
  Ends : (h : Header) (given : List LiveLine) (hs : List (List Entry)) (pieces : List Piece) → ReadsScript w.keeps left after faults later h given (Some script.End)
      → (l : Lives stands commands t f.path lent back h given hs) → IsWoven w.events l.begun.header l.begun.sites given hs pieces → IsVacant f h
      → Due stands commands t f w left after faults later device_faults device_later lent back (told_text l.begun.header l.begun.sites hs pieces ending.Whole) Done
  -- a line of its header is refused
  Stops_early : (r : ReaderState) (number : ℕ) (why : Refusal) → HeaderStops left after r number why
      → Due stands commands t f w left after faults later device_faults device_later lent back (as_bytes (refusal_line number why ∷ [])) Refused
  -- .. or a line behind it, at which it ends
  Stops : (h : Header) (given : List LiveLine) (hs : List (List Entry)) (pieces : List Piece) (number : ℕ) (why : Refusal)
      → ReadsScript w.keeps left after faults later h given (Some (script.Refused number why)) → (l : Lives stands commands t f.path lent back h given hs) → IsWoven w.events l.begun.header l.begun.sites given hs pieces → IsVacant f h
      → Due stands commands t f w left after faults later device_faults device_later lent back (told_text l.begun.header l.begun.sites hs pieces (ending.Refused number why)) Refused
  -- a read failed within the header
  Breaks_early : HeaderBreaks left after → Rose faults later
      → Due stands commands t f w left after faults later device_faults device_later lent back [] ReadFault
  -- .. or behind it: what the machines did is put out
  Breaks : (h : Header) (given : List LiveLine) (hs : List (List Entry)) (pieces : List Piece) → ReadsScript w.keeps left after faults later h given (Some script.ReadFault)
      → (l : Lives stands commands t f.path lent back h given hs) → IsWoven w.events l.begun.header l.begun.sites given hs pieces → IsVacant f h
      → Due stands commands t f w left after faults later device_faults device_later lent back (told_text l.begun.header l.begun.sites hs pieces ending.Cut) ReadFault
  -- a disk can't be made, or a sector of an area can't be written before the threads begin
  Faults : Rose device_faults device_later
      → Due stands commands t f w left after faults later device_faults device_later lent back area_fault_text AreaFault
  -- another program has the folder
  In_use : Rose device_faults device_later
      → Due stands commands t f w left after faults later device_faults device_later lent back in_use_text AreaFault
  -- a disk of the header stands there
  Disk_there : (r : ReaderState) (h : Header) (path : List ℕ) → HeaderBegins left after r h → IsDiskThere f.anew h path → Rose device_faults device_later
      → Due stands commands t f w left after faults later device_faults device_later lent back (disk_there_text path) AreaFault
  -- records of a machine differ, where the script gave these lines, however it ended: the case stands behind what was put out before
  Parts : (h : Header) (given : List LiveLine) (end : Option ScriptEnd) (before : List ℕ) (machine : ℕ) (d : LiveDiffer)
      → ReadsScript w.keeps left after faults later h given end → Differing stands commands h given machine d → IsVacant f h
      → Due stands commands t f w left after faults later device_faults device_later lent back (before ++ differ_text machine d) Differs

-- What was put out of a text, and how the play ended: all of it, or a front of it, after a fault of the sink or for want of memory.
pub data Puts (taken now : Option (List ℕ)) (faults later : ℕ) (text : List ℕ) (whole : Lived) : Lived → Type 0 where
  All : Appends taken now text → Puts taken now faults later text whole whole
  Part : (front : List ℕ) → Appends taken now front → IsFrontOf front text → Rose faults later → Puts taken now faults later text whole WriteFault
  Front : (front : List ℕ) → Appends taken now front → IsFrontOf front text → Puts taken now faults later text whole NoMemory

-- What is owed: of what is due what was put out; or want of memory, where what machines replied before stays put out.
pub data Owes {D A P : Type 0} (stands : D → Setting → Trace → Type 0) (commands : Header → List (Form Command)) (t : Tellers A P) (f : Asked) (w : Manner) (left after taken now : Option (List ℕ))
    (faults later sink_faults sink_later device_faults device_later : ℕ) (lent back : Option (List Lending)) : Lived → Type 0 where
  Of : (text : List ℕ) (whole s : Lived) → Due stands commands t f w left after faults later device_faults device_later lent back text whole
      → Puts taken now sink_faults sink_later text whole s
      → Owes stands commands t f w left after taken now faults later sink_faults sink_later device_faults device_later lent back s
  Lacks : (part : List ℕ) → Appends taken now part → Owes stands commands t f w left after taken now faults later sink_faults sink_later device_faults device_later lent back NoMemory

-- ---- step by step

-- Something was put out.
abbrev pub PutsPart : Option (List ℕ) → Option (List ℕ) → Type 0
PutsPart taken now = (part : List ℕ) × Appends taken now part

-- What was put out of so many machines behind these pieces, which have so many replies, whose script ended so; and how the play then ended.
abbrev pub PutsEnded : Option (List ℕ) → Option (List ℕ) → ℕ → ℕ → List Piece → ℕ → ℕ → Option ScriptEnd → Lived → Type 0
PutsEnded taken now faults later ps machines replies (Some script.End) s = Puts taken now faults later (text_of ps ++ last_text machines replies ending.Whole) Done s
PutsEnded taken now faults later ps machines replies (Some (script.Refused number why)) s =
    Puts taken now faults later (text_of ps ++ last_text machines replies (ending.Refused number why)) Refused s
PutsEnded taken now faults later ps machines replies (Some script.ReadFault) s = Puts taken now faults later (text_of ps ++ last_text machines replies ending.Cut) ReadFault s
PutsEnded taken now faults later ps machines replies (Some script.NoMemory) s = (s ≡ NoMemory) × PutsPart taken now
PutsEnded taken now faults later ps machines replies None s = (s ≡ NoMemory) × PutsPart taken now

-- .. of why there are no histories.
abbrev pub PutsStop : Option (List ℕ) → Option (List ℕ) → ℕ → ℕ → List Piece → LiveStop → Lived → Type 0
PutsStop taken now faults later ps (stop.Differ machine d) s = Puts taken now faults later (text_of ps ++ differ_text machine d) Differs s
PutsStop taken now faults later ps stop.NoMemory s = (s ≡ NoMemory) × PutsPart taken now

-- .. where a run can't begin.
abbrev pub PutsNoGround : Option (List ℕ) → Option (List ℕ) → ℕ → ℕ → NoGround → Lived → Type 0
PutsNoGround taken now faults later no_ground.AreaFault s = Puts taken now faults later area_fault_text AreaFault s
PutsNoGround taken now faults later no_ground.NoMemory s = (s ≡ NoMemory) × Appends taken now []

-- .. where a folder can't be entered.
abbrev pub PutsNoEntry : Option (List ℕ) → Option (List ℕ) → ℕ → ℕ → NoEntry → Lived → Type 0
PutsNoEntry taken now faults later no_entry.AreaFault s = Puts taken now faults later area_fault_text AreaFault s
PutsNoEntry taken now faults later no_entry.InUse s = Puts taken now faults later in_use_text AreaFault s
PutsNoEntry taken now faults later (no_entry.DiskThere path) s = Puts taken now faults later (disk_there_text path) AreaFault s
PutsNoEntry taken now faults later no_entry.NoMemory s = (s ≡ NoMemory) × Appends taken now []
