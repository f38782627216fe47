-- What a script for one machine owes that is played: what is read and put out, by how it ends.
use Rattle.sl_book.specs.Closings.{AreBelow}
use Rattle.sl_live_lines.specs.LiveTexts.{count_replies, history_text, last_text}
use Rattle.sl_live_lines.specs.declared.live_texts.Ending.TheVariants as ending
use Rattle.sl_live_lines.specs.declared.live_texts.Ending.{Ending}
use Rattle.sl_live_play.specs.DifferenceLines.{differ_text}
use Rattle.sl_live_play.specs.LiveOwed.{Puts, Tellers}
use Rattle.sl_live_play.specs.declared.play.Lived.TheVariants.{AreaFault, Differs, Done, NoMemory, ReadFault, Refused}
use Rattle.sl_live_play.specs.declared.play.Lived.{Lived}
use Rattle.sl_live_run.specs.Grounds.{IsSiteOf}
use Rattle.sl_live_run.specs.Lent.{IsBack}
use Rattle.sl_live_run.specs.Runs.{AreServed, Both, IsLiveCase, IsLiveHistory, Leavings, begun_on, begun_telling, lines_for, refusals_text}
use Rattle.sl_live_run.specs.declared.compare.LiveDiffer.{LiveDiffer}
use Rattle.sl_outside.specs.Disks.{Disks}
use Rattle.sl_outside.specs.Lendings.{Lending}
use Rattle.sl_output.specs.Pieces.{Piece, text_by, text_of}
use Rattle.sl_own.specs.OwnGrounds.{Bars, HadOwn, IsPlaceOf}
use Rattle.sl_own.specs.OwnTexts.{no_place_text}
use Rattle.sl_own.specs.declared.no_place.NoPlace.TheVariants.{NotStanding}
use Rattle.sl_own.specs.declared.no_place.NoPlace.{NoPlace}
use Rattle.sl_own.specs.declared.play.OwnManner.{OwnManner}
use Rattle.sl_reader.specs.HeaderBegins.{HeaderBegins, HeaderBreaks, HeaderStops}
use Rattle.sl_reader.specs.LineReads.{ReaderState}
use Rattle.sl_reader.specs.Scopes.{own_scope}
use Rattle.sl_reader.specs.ScriptReading.{ReadsScriptBy}
use Rattle.sl_reader.specs.declared.live_lines.LiveLine.{LiveLine}
use Rattle.sl_reader.specs.declared.script_reading.ScriptEnd.TheVariants as script
use Rattle.sl_reader.specs.declared.script_reading.ScriptEnd.{ScriptEnd}
use Rattle.sl_report.specs.RefusalLines.{refusal_line}
use Rattle.sl_run.specs.Headers.{IsHeader}
use Rattle.sl_run.specs.declared.event.Refusal.TheVariants.{MissingMachine, Syntax}
use Rattle.sl_run.specs.declared.event.Refusal.{Refusal}
use Rattle.sl_run.specs.declared.header.Header.{Header}
use Rattle.sl_standing.specs.declared.not_standing.NotStanding.TheVariants.{NoMemory as NoMemoryStanding}
use Rattle.sl_text.specs.Forms.{Form, as_bytes}
use Rattle.sl_trace.specs.Traces.{Setting, Trace}
use Rattle.sl_trace.specs.declared.command.Command.{Command}
use Rattle.sl_trace.specs.declared.effects.Entry.{Entry}
use Rattle.sl_world_state.specs.Daemons.{begun_with}
use Rattle.sl_world_state.specs.FirstKept.{session_of}
use Rattle.sl_world_state.specs.declared.daemon.Site.{Site}
use Rattle.sl_io.specs.FaultCauses.{Rose}
use Rattle.std.specs.Io.KnownBytes.{Appends}
use Rattle.std.specs.Prelude.{Bool, IfSome, List, None, Option, Some, if◌then◌else◌, length, nat_lt, option_map, true, [], ℕ, ◌++◌, ◌+◌, ◌<◌, ◌==◌, ◌∷◌, ◌≡◌, ◌≢◌, ◌⊎◌}

-- ---- what the machine did

-- Why a header is none for the machine of this number: it has no such machine, or sessions that would be joined at moment 0.
abbrev pub header_refusal : Header → ℕ → Option Refusal
header_refusal h m = if nat_lt h.machines m then Some MissingMachine else if length h.sessions == 0 then None else Some Syntax

-- What the machine of this number of a header began with: its clock's reading in place of the `clock` lines, and the site that the header gives it.
pub record OwnBeginning (h : Header) (m : ℕ) : Type 0 where
  pub header : Header
  pub lawful : IsHeader header
  pub same : header ≡ record h { clocks = header.clocks }
  pub place : ℕ
  pub numbered : m ≡ place + 1
  pub site : Site
  pub begun : IsSiteOf header m (session_of header m) site

-- This is its history, where the script gave these lines. From the areas that devices handed out for it those that it left came by the calls of this history, and
-- by no others; and the spawners that it left were asked for just the history's signals and its starts, beside kills that are told. What it left came back to the
-- devices, as it was then; and nothing else was handed out, and nothing else came back.
pub record LivesOwn {D A P : Type 0} (stands : D → Setting → Trace → Type 0) (commands : Header → List (Form Command)) (t : Tellers A P) (disks : Disks) (folder : List ℕ)
    (lent back : Option (List Lending)) (h : Header) (m : ℕ) (given : List LiveLine) (hist : List Entry) : Type 0 where
  pub begun : OwnBeginning h m
  pub history : IsLiveHistory stands (begun_with commands begun.header begun.site) (begun_on begun.header begun.site) (lines_for m given) hist
  pub areas : Both A
  pub between : Option (List Lending)
  pub had : HadOwn t.content disks folder h m areas lent between
  pub left : Leavings A P
  pub served : AreServed t.content t.faults t.acts begun.header.geometry.sector (begun_with commands begun.header begun.site) hist areas left
  pub returned : IsBack t.content t.faults t.acts left between back

-- The machine, with this history, put out these pieces, signed by its place: what is told of it; and the script, signed by the machine's number, the lines
-- that it gave as refused. Nothing else was put out.
pub record IsWovenOwn (events : Bool) (header : Header) (place : ℕ) (site : Site) (given : List LiveLine) (hist : List Entry) (pieces : List Piece) : Type 0 where
  pub below : AreBelow (place + 2) pieces
  pub text : text_by place pieces ≡ history_text (place + 1) (begun_telling events header site) (begun_on header site) hist
  pub refused : text_by (place + 1) pieces ≡ refusals_text given
  pub others : (other : ℕ) → other < place → text_by other pieces ≡ []

-- What is put out of such a history: these pieces, and how the script ended.
abbrev pub own_text : Header → Site → List Entry → List Piece → Ending → List ℕ
own_text header site hist pieces e = text_of pieces ++ last_text 1 (count_replies (begun_on header site) hist) e

-- A case holds of the machine.
pub record DifferingOwn {D : Type 0} (stands : D → Setting → Trace → Type 0) (commands : Header → List (Form Command)) (h : Header) (m : ℕ) (given : List LiveLine)
    (d : LiveDiffer) : Type 0 where
  pub begun : OwnBeginning h m
  pub differs : IsLiveCase stands (begun_with commands begun.header begun.site) (begun_on begun.header begun.site) (lines_for m given) d

-- ---- what is due

-- The machine of this number may run: its header is not refused, and what the header says of disks and areas stood when the machine was to begin.
pub record MayRun (disks : Disks) (folder : List ℕ) (h : Header) (m : ℕ) : Type 0 where
  pub header : header_refusal h m ≡ None
  pub place : IsPlaceOf disks folder h

-- The script was read to where it ended so.
abbrev pub ReadsOwn : OwnManner → Option (List ℕ) → Option (List ℕ) → ℕ → ℕ → Header → List LiveLine → Option ScriptEnd → Type 0
ReadsOwn w left after faults later h given end = ReadsScriptBy (own_scope h w.machine) w.keeps left after faults later h given end

-- What is to be put out, and how the play then ended, by what was read of the source.
pub data OwnDue {D A P : Type 0} (stands : D → Setting → Trace → Type 0) (commands : Header → List (Form Command)) (t : Tellers A P) (disks : Disks) (folder : List ℕ) (w : OwnManner)
    (left after : Option (List ℕ)) (faults later device_faults device_later : ℕ) (lent back : Option (List Lending)) : List ℕ → Lived → Type 0 where
  -- the script was read to its end
  Ends : (h : Header) (given : List LiveLine) (hist : List Entry) (pieces : List Piece) → ReadsOwn w left after faults later h given (Some script.End) → MayRun disks folder h w.machine
      → (l : LivesOwn stands commands t disks folder lent back h w.machine given hist) → IsWovenOwn w.events l.begun.header l.begun.place l.begun.site given hist pieces
      → OwnDue stands commands t disks folder w left after faults later device_faults device_later lent back (own_text l.begun.header l.begun.site hist pieces ending.Whole) Done
  -- a line of its header is refused; or the last one, since the header is none for this machine
  Stops_early : (r : ReaderState) (number : ℕ) (why : Refusal) → HeaderStops left after r number why
      → OwnDue stands commands t disks folder w left after faults later device_faults device_later lent back (as_bytes (refusal_line number why ∷ [])) Refused
  Stops_header : (r : ReaderState) (h : Header) (why : Refusal) → HeaderBegins left after r h → header_refusal h w.machine ≡ Some why
      → OwnDue stands commands t disks folder w left after faults later device_faults device_later lent back (as_bytes (refusal_line r.number why ∷ [])) Refused
  -- .. or a line behind it, at which it ends
  Stops : (h : Header) (given : List LiveLine) (hist : List Entry) (pieces : List Piece) (number : ℕ) (why : Refusal)
      → ReadsOwn w left after faults later h given (Some (script.Refused number why)) → MayRun disks folder h w.machine
      → (l : LivesOwn stands commands t disks folder lent back h w.machine given hist)
      → IsWovenOwn w.events l.begun.header l.begun.place l.begun.site given hist pieces
      → OwnDue stands commands t disks folder w left after faults later device_faults device_later lent back (own_text l.begun.header l.begun.site hist pieces (ending.Refused number why)) Refused
  -- a read failed within the header
  Breaks_early : HeaderBreaks left after → Rose faults later → OwnDue stands commands t disks folder w left after faults later device_faults device_later lent back [] ReadFault
  -- .. or behind it: what the machine did is put out
  Breaks : (h : Header) (given : List LiveLine) (hist : List Entry) (pieces : List Piece) → ReadsOwn w left after faults later h given (Some script.ReadFault) → MayRun disks folder h w.machine
      → (l : LivesOwn stands commands t disks folder lent back h w.machine given hist) → IsWovenOwn w.events l.begun.header l.begun.place l.begun.site given hist pieces
      → OwnDue stands commands t disks folder w left after faults later device_faults device_later lent back (own_text l.begun.header l.begun.site hist pieces ending.Cut) ReadFault
  -- the machine can't run there
  Is_barred : (r : ReaderState) (h : Header) (why : NoPlace) → HeaderBegins left after r h → Bars disks folder h w.machine device_faults device_later why
      → OwnDue stands commands t disks folder w left after faults later device_faults device_later lent back (no_place_text why) AreaFault
  -- records of it differ, where the script gave these lines, however it ended: the case stands behind what was put out before
  Parts : (h : Header) (given : List LiveLine) (end : Option ScriptEnd) (before : List ℕ) (d : LiveDiffer) → ReadsOwn w left after faults later h given end
      → MayRun disks folder h w.machine → DifferingOwn stands commands h w.machine given d
      → OwnDue stands commands t disks folder w left after faults later device_faults device_later lent back (before ++ differ_text w.machine d) Differs

-- What is owed: of what is due what was put out; or want of memory, where what the machine replied before stays put out.
pub data OwesOwn {D A P : Type 0} (stands : D → Setting → Trace → Type 0) (commands : Header → List (Form Command)) (t : Tellers A P) (disks : Disks) (folder : List ℕ) (w : OwnManner)
    (left after taken now : Option (List ℕ)) (faults later sink_faults sink_later device_faults device_later : ℕ) (lent back : Option (List Lending)) : Lived → Type 0 where
  Of : (text : List ℕ) (whole s : Lived) → OwnDue stands commands t disks folder w left after faults later device_faults device_later lent back text whole
      → Puts taken now sink_faults sink_later text whole s
      → OwesOwn stands commands t disks folder w left after taken now faults later sink_faults sink_later device_faults device_later lent back s
  Lacks : (part : List ℕ) → Appends taken now part
      → OwesOwn stands commands t disks folder w left after taken now faults later sink_faults sink_later device_faults device_later lent back NoMemory

-- ---- the watchdog device

-- The machine has run and ended in order: it has a history, and all that devices had handed out for it came back.
pub record HasLived {D A P : Type 0} (stands : D → Setting → Trace → Type 0) (commands : Header → List (Form Command)) (t : Tellers A P) (disks : Disks) (folder : List ℕ)
    (lent back : Option (List Lending)) (m : ℕ) : Type 0 where
  pub header : Header
  pub may : MayRun disks folder header m
  pub given : List LiveLine
  pub history : List Entry
  pub lives : LivesOwn stands commands t disks folder lent back header m given history

-- What becomes of the device of the system: it is the one that was asked for; it was told to rest only where the machine has lived; and where the whole
-- script was played, one that was asked for is there, and was told so.
pub record RestsOwn {W : Type 0} (path : W → List ℕ) (rested : W → Bool) (asked : Option (List ℕ)) (Lives : Type 0) (w : Option W) (s : Lived) : Type 0 where
  pub asked_for : IfSome w (λ d. asked ≡ Some (path d))
  pub in_order : IfSome w (λ d. rested d ≡ true → Lives)
  pub whole : s ≡ Done → (option_map path w ≡ asked) × IfSome w (λ d. rested d ≡ true)

-- ---- step by step

-- What is put out of why a machine can't run.
abbrev pub PutsNoPlace : Option (List ℕ) → Option (List ℕ) → ℕ → ℕ → NoPlace → Lived → Type 0
PutsNoPlace taken now faults later why s = ((s ≡ NoMemory) × Appends taken now []) ⊎ Puts taken now faults later (no_place_text why) AreaFault s
