-- How a machine's run ends.
use Rattle.sl_book.specs.Logs.{entries}
use Rattle.sl_book.specs.Mails.{ReaderState}
use Rattle.sl_book.specs.Seats.{IsMine, SeatState}
use Rattle.sl_cell.specs.declared.part.Part.TheVariants.{Delta, Resource}
use Rattle.sl_live.specs.CarriedOut.{HasSignalled}
use Rattle.sl_live.specs.declared.disks.Disk.{Disk}
use Rattle.sl_live_lines.specs.AuditedHistory.{AreLines, IsAnswered, IsLeft, KeepsAsks, lines_along}
use Rattle.sl_live_lines.specs.EventTexts.{Telling}
use Rattle.sl_live_lines.specs.LiveTexts.{count_replies, history_text}
use Rattle.sl_live_lines.specs.LocksAlong.{AlongState}
use Rattle.sl_live_lines.specs.declared.given_lines.GivenLine.{GivenLine}
use Rattle.sl_live_machine.specs.Printing.{IsWrong, lines_read}
use Rattle.sl_live_machine.specs.declared.printer.Printer.{Printer}
use Rattle.sl_live_machine.specs.ServedActs.{ServedStarts}
use Rattle.sl_live_machine.specs.ServedDisks.{ServedDisks}
use Rattle.sl_live_machine.specs.ThreadSeats.{IsCaseOfRun, IsRun}
use Rattle.sl_live_machine.specs.declared.machine.CloseError.TheVariants as close
use Rattle.sl_live_machine.specs.declared.machine.CloseError.{CloseError}
use Rattle.sl_live_machine.specs.declared.machine.Ran.{Ran}
use Rattle.std.specs.List.{concat}
use Rattle.sl_outside.specs.declared.act.Act.{Act}
use Rattle.sl_trace.specs.Traces.{Setting, Trace}
use Rattle.sl_trace.specs.declared.effects.Entry.{Entry}
use Rattle.sl_world_state.specs.Daemons.{Stood}
use Rattle.std.specs.Prelude.{Err, List, Ok, Option, Result, length, reverse, ℕ, ◌+◌, ◌≡◌}

-- What a printer found along the history, where the script's lines that it met are these: nothing, or a case.
abbrev pub Finds : AlongState → List Entry → List GivenLine → Result Unit CloseError → Type 0
Finds a h read (Ok u) = AreLines a h read × IsAnswered h
Finds a h read (Err (close.Line number)) = IsWrong a h read number
Finds a h read (Err (close.Left left)) = (lines_along a h ≡ read) × KeepsAsks a h × IsLeft a h left
Finds a h read (Err (close.Differ d)) = ⊥
Finds a h read (Err close.NoMemory) = ⊥

abbrev pub Checks : {J O T : Type 0} → AlongState → List Entry → Printer J O T → Result Unit CloseError → Type 0
Checks a h p end = Finds a h (lines_read p.reader) end

-- A whole history of a daemon of this setting.
pub record IsWhole {D : Type 0} (stands : D → Setting → Trace → Type 0) (st : Setting) (h : List Entry) : Type 0 where
  pub stood : Stood stands st (reverse h)
  pub run : IsRun st h

-- A case of a cell, or want of memory, of which nothing is said.
abbrev pub EndsEarly : Setting → CloseError → Type 0
EndsEarly st (close.Differ d) = IsCaseOfRun st d
EndsEarly st (close.Line number) = ⊥
EndsEarly st (close.Left left) = ⊥
EndsEarly st close.NoMemory = Unit {0}

-- How a machine ends whose history is this, if it is whole.
abbrev pub EndsWith : {D : Type 0} → (D → Setting → Trace → Type 0) → Setting → AlongState → List Entry → List GivenLine → Result Unit CloseError → Type 0
EndsWith stands st a h read (Ok u) = IsWhole stands st h × Finds a h read (Ok u)
EndsWith stands st a h read (Err (close.Line number)) = IsWhole stands st h × Finds a h read (Err (close.Line number))
EndsWith stands st a h read (Err (close.Left left)) = IsWhole stands st h × Finds a h read (Err (close.Left left))
EndsWith stands st a h read (Err (close.Differ d)) = IsCaseOfRun st d
EndsWith stands st a h read (Err close.NoMemory) = Unit {0}

abbrev pub EndsSo : {D J O T : Type 0} → (D → Setting → Trace → Type 0) → Setting → AlongState → Printer J O T → Result Unit CloseError → Type 0
EndsSo stands st a p end = EndsWith stands st a (entries p.mine) (lines_read p.reader) end

-- The pieces of the writer are what is told of the history, which has so many replies.
pub record HasTold (t : Telling) (a : AlongState) (h : List Entry) (reader : ReaderState GivenLine) (writer : SeatState (List ℕ)) (replies : ℕ) : Type 0 where
  pub texts : List (List ℕ)
  pub mine : IsMine writer texts
  pub text : concat texts ≡ history_text (reader.by + 1) t a h
  pub count : replies ≡ count_replies a h

abbrev pub Told : Telling → AlongState → List Entry → ReaderState GivenLine → SeatState (List ℕ) → ℕ → Result Unit CloseError → Type 0
Told t a h reader writer replies (Ok u) = HasTold t a h reader writer replies
Told t a h reader writer replies (Err e) = Unit {0}

-- It has so many entries.
abbrev pub Counts : List Entry → ℕ → Result Unit CloseError → Type 0
Counts h entries (Ok u) = entries ≡ length h
Counts h entries (Err (close.Line number)) = entries ≡ length h
Counts h entries (Err (close.Left left)) = entries ≡ length h
Counts h entries (Err (close.Differ d)) = Unit {0}
Counts h entries (Err close.NoMemory) = Unit {0}

-- This is so where the history is whole.
abbrev pub OnWhole : Result Unit CloseError → Type 0 → Type 0
OnWhole (Ok u) Holds = Holds
OnWhole (Err (close.Line number)) Holds = Holds
OnWhole (Err (close.Left left)) Holds = Holds
OnWhole (Err (close.Differ d)) Holds = Unit {0}
OnWhole (Err close.NoMemory) Holds = Unit {0}

-- How a machine ends that ended so, where its children don't follow its history: what its cell tells stays.
abbrev pub broken_end : Result Unit CloseError → Result Unit CloseError
broken_end (Err (close.Differ d)) = Err (close.Differ d)
broken_end (Err (close.Line number)) = Err close.NoMemory
broken_end (Err (close.Left left)) = Err close.NoMemory
broken_end (Err close.NoMemory) = Err close.NoMemory
broken_end (Ok u) = Err close.NoMemory

-- A machine has run, whose workers had these disks: with a whole history of which all is told; or a case that holds of it, or want of memory. Where the
-- history is whole, the disks that are left are made of those by its calls, and the spawners were asked for its signals and its starts.
pub record HasRun {D O T A P : Type 0} (content : A → Option (List ℕ)) (faults : A → ℕ) (spawned : P → Option (List Act)) (sector : ℕ) (stands : D → Setting → Trace → Type 0) (st : Setting)
    (t : Telling) (a : AlongState) (delta_disks resource_disks : List (Disk A)) (r : Ran O T A P) : Type 0 where
  pub by : r.writer.by ≡ r.reader.by
  pub history : List Entry
  pub ends : EndsWith stands st a history (lines_read r.reader) r.end
  pub told : Told t a history r.reader r.writer r.replies r.end
  pub counted : Counts history r.entries r.end
  pub delta : OnWhole r.end (ServedDisks content faults sector st Delta history delta_disks r.delta.items)
  pub resource : OnWhole r.end (ServedDisks content faults sector st Resource history resource_disks r.resource.items)
  pub signals : OnWhole r.end (HasSignalled history r.spawners.killed (spawned r.spawners.signals))
  pub starts : OnWhole r.end (ServedStarts st history r.spawners.killed (spawned r.spawners.starts))
