-- What a live run leaves: histories that daemons stood for, whose lines are the script's; or a case that holds of a machine.
use Rattle.sl_book.specs.Logs.{entries, given_by as given_in}
use Rattle.sl_book.specs.Mails.{LedgerState}
use Rattle.sl_book.specs.Seats.{IsMine, SeatState}
use Rattle.sl_cell.specs.declared.part.Part.TheVariants.{Delta, Resource}
use Rattle.sl_live.specs.CarriedOut.{HasSignalled}
use Rattle.sl_live.specs.declared.disks.Disk.{Disk}
use Rattle.sl_live_lines.specs.AuditedHistory.{AreLines, IsAnswered, IsLeft, KeepsAsks, LineDiffers, lines_along}
use Rattle.sl_book.specs.Closings.{AreBelow}
use Rattle.sl_live_lines.specs.EventTexts.{Telling, first_telling}
use Rattle.sl_live_lines.specs.LiveTexts.{count_replies, history_text}
use Rattle.sl_live_machine.specs.MachineEnds.{HasRun, IsWhole}
use Rattle.sl_live_machine.specs.Printing.{lines_read}
use Rattle.sl_live_machine.specs.ServedActs.{ServedStarts}
use Rattle.sl_live_machine.specs.ServedDisks.{ServedDisks}
use Rattle.sl_live_machine.specs.declared.machine.Spawners.{Spawners}
use Rattle.sl_live_machine.specs.declared.machine.Parts.{Parts}
use Rattle.sl_live_machine.specs.ThreadSeats.{IsCaseOfRun}
use Rattle.sl_live_run.specs.declared.machine_runs.Work.{Work}
use Rattle.sl_live_run.specs.declared.run.Remains.{Remains}
use Rattle.sl_live_run.specs.declared.run.LiveRun.{LiveRun}
use Rattle.sl_outside.specs.Acts.{Tells}
use Rattle.sl_outside.specs.declared.act.Act.{Act}
use Rattle.sl_output.specs.Outputs.{IsPut}
use Rattle.sl_output.specs.Pieces.{Piece, text_by}
use Rattle.sl_world_state.specs.Daemons.{begun_with}
use Rattle.sl_world_state.specs.declared.daemon.Site.{Site}
use Rattle.sl_live_lines.specs.declared.audit.Left.TheVariants.{Call as CallLeft, Start as StartLeft}
use Rattle.sl_live_lines.specs.declared.audit.Left.{Left as LeftOf}
use Rattle.sl_reader.specs.declared.live_lines.LiveLine.TheVariants.{Command as CommandLine, Exits, Locks as LocksLine, Post, Refused}
use Rattle.sl_reader.specs.declared.live_lines.LiveLine.{LiveLine}
use Rattle.sl_live_lines.specs.LocksAlong.{AlongState, begun_along}
use Rattle.sl_live_lines.specs.declared.given_lines.GivenLine.TheVariants.{ForHost, ForLocks}
use Rattle.sl_live_lines.specs.declared.given_lines.GivenLine.{GivenLine}
use Rattle.sl_live_run.specs.declared.compare.LiveDiffer.TheVariants.{Cell, Left, Line, Untold}
use Rattle.sl_live_run.specs.declared.compare.LiveDiffer.{LiveDiffer}
use Rattle.sl_live_run.specs.declared.compare.LiveStop.TheVariants.{Differ, NoMemory}
use Rattle.sl_live_run.specs.declared.compare.LiveStop.{LiveStop}
use Rattle.sl_live_run.specs.declared.machine_runs.Machine.{Machine}
use Rattle.sl_report.specs.RefusalLines.{refusal_line}
use Rattle.sl_run.specs.Headers.{IsHeader}
use Rattle.sl_run.specs.Lawful.{IsSetting}
use Rattle.sl_run.specs.declared.header.Header.{Header}
use Rattle.sl_text.specs.Forms.{Form, as_bytes}
use Rattle.sl_trace.specs.Traces.{Setting, Trace}
use Rattle.sl_trace.specs.declared.command.Command.{Command}
use Rattle.sl_trace.specs.declared.effects.Entry.{Entry}
use Rattle.std.specs.List.{concat, flat_map}
use Rattle.std.specs.Prelude.{Bool, IfErr, IfOk, IfSome, List, None, OnOk, Option, Result, Some, if◌then◌else◌, length, map, option_map, slice_get, [], ℕ, ◌++◌, ◌+◌, ◌<◌, ◌==◌, ◌∷◌, ◌≡◌}
use mathlib.Core.List.{IsPrefix}

-- ---- what the script gives

-- What a line of the script gives, and to which machine, if it gives anything.
abbrev pub given_by : LiveLine → Option (ℕ × GivenLine)
given_by (CommandLine machine text) = Some (machine, ForHost text)
given_by (Post machine text) = Some (machine, ForHost text)
given_by (LocksLine machine line) = Some (machine, ForLocks line)
given_by (Exits machine process) = None
given_by (Refused number why) = None

-- What is told of it itself: that it is refused.
abbrev pub refusal_text : LiveLine → List ℕ
refusal_text (CommandLine machine text) = []
refusal_text (Post machine text) = []
refusal_text (LocksLine machine line) = []
refusal_text (Exits machine process) = []
refusal_text (Refused number why) = as_bytes (refusal_line number why ∷ [])

-- .. of these lines, one behind the other.
abbrev pub refusals_text : List LiveLine → List ℕ
refusals_text ls = flat_map refusal_text ls

-- The line that it gives to this machine.
abbrev pub line_for : ℕ → LiveLine → List GivenLine
line_for m l = elim (given_by l) [ None ↦ [] | Some g ↦ if g.0 == m then g.1 ∷ [] else [] ]

-- .. that lines give, in order.
abbrev pub lines_for : ℕ → List LiveLine → List GivenLine
lines_for m ls = flat_map (line_for m) ls

-- So many machines were given just what these lines give them.
pub record AreGiven (l : LedgerState GivenLine) (machines : ℕ) (ls : List LiveLine) : Type 0 where
  pub counted : l.places ≡ machines
  pub each : (place : ℕ) → place < machines → entries (given_in place l.front) ≡ lines_for (place + 1) ls

-- .. or the first ones of them.
pub record AreFirst (l : LedgerState GivenLine) (machines : ℕ) (ls : List LiveLine) : Type 0 where
  pub counted : l.places ≡ machines
  pub each : (place : ℕ) → place < machines → IsPrefix (entries (given_in place l.front)) (lines_for (place + 1) ls)

-- Where a script may have given such lines, it may now have given these behind them.
abbrev pub Gave : (List LiveLine → Type 0) → (List LiveLine → Type 0) → List LiveLine → Type 0
Gave before after lines = (given : List LiveLine) → before given → after (given ++ lines)

-- The pieces that this one put out are this text.
pub record HasPutOut (w : SeatState (List ℕ)) (text : List ℕ) : Type 0 where
  pub texts : List (List ℕ)
  pub mine : IsMine w texts
  pub text_is : concat texts ≡ text

-- The script gave some lines: what is noted are the first ones of those that they give; where it ended well, all of them, and which of them are refused
-- was put out.
pub record HasTold {A E : Type 0} (machines : ℕ) (before after : List LiveLine → Type 0) (l : LedgerState GivenLine) (w : SeatState (List ℕ)) (result : Result A E) : Type 0 where
  pub lines : List LiveLine
  pub gave : Gave before after lines
  pub first : AreFirst l machines lines
  pub texts : OnOk result (AreGiven l machines lines)
  pub refused : OnOk result (HasPutOut w (refusals_text lines))

-- ---- a machine's run

-- The site of a machine that is to run.
abbrev pub site_of : {C P V A O T : Type 0} → Machine C P V A O T → Option Site
site_of m = option_map (λ w. w.site) m.work

-- The disks of both workers of a machine: of the one whose part the delta leases are, and of the other.
abbrev pub Both : Type 0 → Type 0
Both A = List (Disk A) × List (Disk A)

-- .. among what it runs on.
abbrev pub disks_in : {C P V A : Type 0} → Parts C P V A → Both A
disks_in p = (p.delta.items, p.resource.items)

-- .. of a machine that is to run.
abbrev pub disks_of : {C P V A O T : Type 0} → Machine C P V A O T → Option (Both A)
disks_of m = option_map (λ w. disks_in w.parts) m.work

-- What a machine leaves: the disks of its workers, which are given back, and its spawners.
abbrev pub Leavings : Type 0 → Type 0 → Type 0
Leavings A P = Both A × Spawners P

abbrev pub remains_of : {A P : Type 0} → Remains A P → Leavings A P
remains_of d = ((d.delta.items, d.resource.items), d.spawners)

-- Its printer has read nothing and put out nothing.
pub record IsFresh {C P V A O T : Type 0} (w : Work C P V A O T) : Type 0 where
  pub unread : lines_read w.reader ≡ []
  pub writer : w.writer.by ≡ w.reader.by
  pub none : w.writer.count ≡ 0

-- The spawner of a machine that is to run.
abbrev pub spawner_of : {C P V A O T : Type 0} → Machine C P V A O T → Option P
spawner_of m = option_map (λ w. w.parts.spawner) m.work

-- A machine that is to run has a setting, of this header, and is fresh; and its spawner was asked for nothing.
abbrev pub CanRun : {C P V A O T : Type 0} → (P → Option (List Act)) → (Header → List (Form Command)) → Header → Machine C P V A O T → Type 0
CanRun spawned commands h m = IsHeader h × IfSome m.work (λ w. IsSetting (begun_with commands h w.site) × IsFresh w × Tells (spawned w.parts.spawner) [])

-- The machines' readers and writers have their places as numbers.
abbrev pub AreFresh : {C P V A O T : Type 0} → List (Machine C P V A O T) → Type 0
AreFresh {C} {P} {V} {A} {O} {T} ms =
    (place : ℕ) (m : Machine C P V A O T) → slice_get ms place ≡ Some m → IfSome m.work (λ w. (w.reader.by ≡ place) × IsFresh w)

-- With what lvmlockd's locks begin on a machine of this site.
abbrev pub begun_on : Header → Site → AlongState
begun_on header site = begun_along header site.first.job

-- With what it begins that is told of events, if they are told.
abbrev pub begun_telling : Bool → Header → Site → Telling
begun_telling events header site = first_telling events header.timing site.given

-- It has run, on the disks that it had.
abbrev pub Runs : {D C P V A O T : Type 0} → (A → Option (List ℕ)) → (A → ℕ) → (P → Option (List Act)) → Bool → (Header → List (Form Command)) → (D → Setting → Trace → Type 0) → Header
    → Machine C P V A O T → Machine C P V A O T → Type 0
Runs content area_faults spawned events commands stands h before after =
    IfSome before.work (λ w. IfSome after.ran (λ r. HasRun content area_faults spawned h.geometry.sector stands (begun_with commands h w.site) (begun_telling events h w.site) (begun_on h w.site)
    w.parts.delta.items w.parts.resource.items r × (r.reader.by ≡ w.reader.by)))

-- ---- a whole run

-- The history of a live machine: a daemon of this setting stood for it, its entries are exactly what the machine's threads applied, its lines
-- are these, each for lvmlockd with its asks as locks that begin so make them due, and no call and no start of it is unanswered.
pub record IsLiveHistory {D : Type 0} (stands : D → Setting → Trace → Type 0) (st : Setting) (a : AlongState) (given : List GivenLine) (h : List Entry) : Type 0 where
  pub whole : IsWhole stands st h
  pub lines : AreLines a h given
  pub answered : IsAnswered h

-- One for each site, in order, with those of the script's lines that it gave that machine.
pub record AreLiveHistories {D : Type 0} (stands : D → Setting → Trace → Type 0) (commands : Header → List (Form Command)) (header : Header) (sites : List Site)
    (lines : List LiveLine) (hs : List (List Entry)) : Type 0 where
  pub counted : length hs ≡ length sites
  pub each : (place : ℕ) (site : Site) (h : List Entry) → slice_get sites place ≡ Some site → slice_get hs place ≡ Some h
      → IsLiveHistory stands (begun_with commands header site) (begun_on header site) (lines_for (place + 1) lines) h

-- The lines of a history are these, each for lvmlockd with its asks, and this is left at its end.
pub record LeavesOpen (a : AlongState) (h : List Entry) (given : List GivenLine) (l : LeftOf) : Type 0 where
  pub lines : lines_along a h ≡ given
  pub asks : KeepsAsks a h
  pub left : IsLeft a h l

-- A case holds of a machine of this setting, to which the script gave these lines. Where a call or a start is left unanswered, its history has just
-- these lines.
abbrev pub IsLiveCase : {D : Type 0} → (D → Setting → Trace → Type 0) → Setting → AlongState → List GivenLine → LiveDiffer → Type 0
IsLiveCase stands st a given (Cell d) = IsCaseOfRun st d
IsLiveCase stands st a given (Line number) = (h : List Entry) × IsWhole stands st h × LineDiffers a h given number
IsLiveCase stands st a given (Left number call) = (h : List Entry) × IsWhole stands st h × LeavesOpen a h given (CallLeft number call)
IsLiveCase stands st a given (Untold number process) = (h : List Entry) × IsWhole stands st h × LeavesOpen a h given (StartLeft number process)

-- .. of the machine of this number, counted from 1, which the stop names, where the script gave these lines.
pub record LiveCaseOf {D : Type 0} (stands : D → Setting → Trace → Type 0) (commands : Header → List (Form Command)) (header : Header) (sites : List Site)
    (lines : List LiveLine) (machine : ℕ) (d : LiveDiffer) : Type 0 where
  pub place : ℕ
  pub site : Site
  pub numbered : machine ≡ place + 1
  pub there : slice_get sites place ≡ Some site
  pub case_of : IsLiveCase stands (begun_with commands header site) (begun_on header site) (lines_for machine lines) d

-- Why there are no histories: such a case, for lines that the script gave in this run, or want of memory, of which nothing is said.
abbrev pub IsLiveStop : {D : Type 0} → (D → Setting → Trace → Type 0) → (Header → List (Form Command)) → Header → List Site → (List LiveLine → Type 0) → (List LiveLine → Type 0) → LiveStop → Type 0
IsLiveStop stands commands header sites before after (Differ machine d) = (lines : List LiveLine) × Gave before after lines × LiveCaseOf stands commands header sites lines machine d
IsLiveStop stands commands header sites before after NoMemory = Unit {0}

-- The pieces of a place are what is told of this history.
abbrev pub IsTold : Telling → AlongState → ℕ → List Entry → List Piece → Type 0
IsTold t a place h pieces = text_by place pieces ≡ history_text (place + 1) t a h

-- The disks of a machine's workers went from these to those by just the calls of its history, each worker's by those of its part; and its spawners were asked,
-- where they tell what they were asked for, for just the history's signals and its starts, beside the kills of which it is said that there were some.
pub record AreServed {A P : Type 0} (content : A → Option (List ℕ)) (area_faults : A → ℕ) (spawned : P → Option (List Act)) (sector : ℕ) (st : Setting) (h : List Entry) (disks : Both A) (left : Leavings A P) : Type 0 where
  pub delta : ServedDisks content area_faults sector st Delta h disks.0 left.0.0
  pub resource : ServedDisks content area_faults sector st Resource h disks.1 left.0.1
  pub signals : HasSignalled h left.1.killed (spawned left.1.signals)
  pub starts : ServedStarts st h left.1.killed (spawned left.1.starts)

-- .. each machine's by those of its own, by its place.
pub record AreAllServed {A P : Type 0} (content : A → Option (List ℕ)) (area_faults : A → ℕ) (spawned : P → Option (List Act)) (commands : Header → List (Form Command)) (header : Header) (sites : List Site)
    (hs : List (List Entry)) (disks : List (Both A)) (left : List (Leavings A P)) : Type 0 where
  pub counted : length left ≡ length hs
  pub each : (place : ℕ) (site : Site) (h : List Entry) (d : Both A) (l : Leavings A P) → slice_get sites place ≡ Some site → slice_get hs place ≡ Some h → slice_get disks place ≡ Some d
      → slice_get left place ≡ Some l → AreServed content area_faults spawned header.geometry.sector (begun_with commands header site) h d l

-- How many replies these histories have, of machines with these sites.
abbrev pub replies_of : Header → List Site → List (List Entry) → ℕ
replies_of header [] hs = 0
replies_of header (s ∷ ss) [] = 0
replies_of header (s ∷ ss) (h ∷ hs) = count_replies (begun_on header s) h + replies_of header ss hs

-- All machines have such histories, for the lines that the script gave in this run, with so many replies; and these pieces are what is told of them, with
-- their events or without, and of which lines are refused. The disks that are left are made of those that the machines had, by the calls of these histories,
-- and the spawners that are left were asked for their signals and their starts.
pub record HasToldAll {D A P : Type 0} (content : A → Option (List ℕ)) (area_faults : A → ℕ) (spawned : P → Option (List Act)) (events : Bool) (stands : D → Setting → Trace → Type 0)
    (commands : Header → List (Form Command)) (header : Header) (sites : List Site) (disks : List (Both A)) (before after : List LiveLine → Type 0) (pieces : List Piece)
    (machines replies : ℕ) (left : List (Leavings A P)) : Type 0 where
  pub lines : List LiveLine
  pub gave : Gave before after lines
  pub histories : List (List Entry)
  pub live : AreLiveHistories stands commands header sites lines histories
  pub texts : (place : ℕ) (site : Site) (h : List Entry) → slice_get sites place ≡ Some site → slice_get histories place ≡ Some h
      → IsTold (begun_telling events header site) (begun_on header site) place h pieces
  pub refused : text_by (length histories) pieces ≡ refusals_text lines
  pub below : AreBelow (length histories + 1) pieces
  pub machines_are : machines ≡ length histories
  pub count : replies ≡ replies_of header sites histories
  pub served : AreAllServed content area_faults spawned commands header sites histories disks left

-- What a run leaves: such histories, or why there are none; and a sink that has taken pieces behind what it had, or a front of them after a fault.
pub record HasRunAll {D K A P : Type 0} (content : A → Option (List ℕ)) (area_faults : A → ℕ) (spawned : P → Option (List Act)) (events : Bool) (stands : D → Setting → Trace → Type 0)
    (commands : Header → List (Form Command)) (header : Header) (sites : List Site) (disks : List (Both A)) (before after : List LiveLine → Type 0)
    (taken now : Option (List ℕ)) (faults later : ℕ) (r : LiveRun K A P) : Type 0 where
  pub pieces : List Piece
  pub put : IsPut taken now faults later pieces r.cut
  pub ok : IfOk r.replies (λ n. HasToldAll content area_faults spawned events stands commands header sites disks before after pieces r.machines n (map remains_of r.remains.items))
  pub stop : IfErr r.replies (IsLiveStop stands commands header sites before after)
