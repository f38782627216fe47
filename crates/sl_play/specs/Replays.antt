-- What a replay reads and writes, by how it ends.
use Rattle.sl_world_state.specs.Daemons.{program_of}
use Rattle.sl_world_state.specs.SaneWorlds.{ReadsCommands}
use Rattle.sl_play.specs.RunEndings.{LeadsBack}
use Rattle.sl_play.specs.PlayIsOwed.{EachStood}
use Rattle.sl_play.specs.Plays.{PlayState, PlaysOn}
use Rattle.sl_play.specs.declared.replay.Played.TheVariants.{Done, NoMemory, ReadFault, Refused, WriteFault}
use Rattle.sl_play.specs.declared.replay.Played.{Played}
use Rattle.sl_report.specs.OwedReports.{FrontOf, HeadersAreGood, IsFrontOf, MayHaveBeen, Promise, ReplayOf, ReplayOwed}
use Rattle.sl_report.specs.Languages.{Language, language_of}
use Rattle.sl_report.specs.Reports.{Counts, end_line, no_counts}
use Rattle.sl_report.specs.HeaderLines.{HeaderLine}
use Rattle.sl_report.specs.Schedules.{Header_read, NumberedLine, event_lines_of, numbered_lines, read_header}
use Rattle.sl_run.specs.Headers.{IsHeader}
use Rattle.sl_run.specs.Worlds.{World, world_with}
use Rattle.sl_run.specs.declared.header.Header.{Header}
use Rattle.sl_reader.specs.HeaderBegins.{AreWholeLines, HasRead, HeaderGoesOn, lines_left}
use Rattle.sl_reader.specs.LineReads.{Gives, MayFollow, ReaderState}
use Rattle.sl_sound.specs.MadeRuns.{MadeRun}
use Rattle.sl_text.specs.Forms.{Form, as_bytes, is_free_of}
use Rattle.sl_trace.specs.Traces.{Setting, Trace}
use Rattle.sl_trace.specs.declared.command.Command.{Command}
use Rattle.sl_io.specs.FaultCauses.{Rose}
use Rattle.std.specs.Io.KnownBytes.{Appends, Consumes, IsAtEnd}
use Rattle.std.specs.Prelude.{Bool, IsTrue, List, Option, true, [], ℕ, ◌++◌, ◌∷◌, ◌≡◌}

-- ---- the language

-- The whole language, with the commands of these daemons.
abbrev pub played_language : (Header → List (Form Command)) → Language
played_language commands = language_of (program_of commands)

-- Each header that is read is one that a world may begin with, and the commands of these daemons are then commands of its layout.
pub record MayPlay (commands : Header → List (Form Command)) : Type 0 where
  pub headers : HeadersAreGood (played_language commands)
  pub reads : (h : Header) → IsHeader h → ReadsCommands commands h

-- ---- what was read and written

pub record Moved (left after taken now : Option (List ℕ)) : Type 0 where
  pub read : List ℕ
  -- whether the source ended with them
  pub ended : Bool
  pub written : List ℕ
  pub reads : Consumes left after read
  pub at_end : IsTrue ended → IsAtEnd after
  pub writes : Appends taken now written

-- It is all of the report of each source that may have been.
abbrev pub ReportsAll : {D : Type 0} → (Header → List (Form Command)) → (D → Setting → Trace → Type 0) → Bool → List ℕ → List ℕ → ℕ → Type 0
ReportsAll commands stands ended read written status =
    (source : List ℕ) → MayHaveBeen ended read source → ReplayOf (λ p h xs. MadeRun stands p h xs) (played_language commands) source written status

-- It begins the report of each.
abbrev pub ReportsFront : {D : Type 0} → (Header → List (Form Command)) → (D → Setting → Trace → Type 0) → Bool → List ℕ → List ℕ → Type 0
ReportsFront commands stands ended read written =
    (source : List ℕ) → MayHaveBeen ended read source → FrontOf (λ p h xs. MadeRun stands p h xs) (played_language commands) source written

-- It is the report of these lines and no more: with a last line behind it, it is all of the report of a source that ends with them; or they are
-- lines of a header that isn't whole, and nothing is written.
pub data ReportsLines (promised : Promise) (lang : Language) (lines written : List ℕ) : Type 0 where
  Of_events : (k : Counts) → ReplayOf promised lang lines (written ++ as_bytes (end_line k ∷ [])) 0 → ReportsLines promised lang lines written
  Of_header : (ls : List HeaderLine) (r : ReaderState) → HeaderGoesOn lines ls r → written ≡ [] → ReportsLines promised lang lines written

-- So of the complete lines of what was read: all up to the last line feed.
pub record ReportsComplete (promised : Promise) (lang : Language) (read written : List ℕ) : Type 0 where
  pub complete : List ℕ
  pub partial : List ℕ
  pub cut : read ≡ complete ++ partial
  pub whole : AreWholeLines complete
  pub free : IsTrue (is_free_of 10 partial)
  pub report : ReportsLines promised lang complete written

-- ---- by the status

pub data Replays {D : Type 0} (commands : Header → List (Form Command)) (stands : D → Setting → Trace → Type 0) (left after taken now : Option (List ℕ))
    (faults later sink_faults sink_later : ℕ) : Played → Type 0 where
  -- the source was read to its end, and the report is whole
  Ends : (x : Moved left after taken now) → x.ended ≡ true → ReportsAll commands stands x.ended x.read x.written 0
      → Replays commands stands left after taken now faults later sink_faults sink_later Done
  -- a line is refused, and the report is whole, whatever is left of the source
  Stops : (x : Moved left after taken now) → ReportsAll commands stands x.ended x.read x.written 1
      → Replays commands stands left after taken now faults later sink_faults sink_later Refused
  -- a read failed, and the report of the complete lines is written
  Breaks : (x : Moved left after taken now) → Rose faults later → ReportsComplete (λ p h xs. MadeRun stands p h xs) (played_language commands) x.read x.written → ReportsFront commands stands x.ended x.read x.written
      → Replays commands stands left after taken now faults later sink_faults sink_later ReadFault
  -- a write failed, or there was no memory: what is written begins the report
  Chokes : (x : Moved left after taken now) → Rose sink_faults sink_later → ReportsFront commands stands x.ended x.read x.written
      → Replays commands stands left after taken now faults later sink_faults sink_later WriteFault
  Lacks : (x : Moved left after taken now) → ReportsFront commands stands x.ended x.read x.written
      → Replays commands stands left after taken now faults later sink_faults sink_later NoMemory

-- The number of a status.
abbrev pub code : Played → ℕ
code Done = 0
code Refused = 1
code ReadFault = 3
code WriteFault = 4
code NoMemory = 5

-- What is owed of it.
pub record IsOwed {D : Type 0} (commands : Header → List (Form Command)) (stands : D → Setting → Trace → Type 0) (left after taken now : Option (List ℕ))
    (faults later sink_faults sink_later : ℕ) (s : Played) : Type 0 where
  pub moved : Moved left after taken now
  pub owed : ReplayOwed (λ p h xs. MadeRun stands p h xs) (played_language commands) moved.ended moved.read moved.written (code s)
  pub read_fault : s ≡ ReadFault → Rose faults later
  pub write_fault : s ≡ WriteFault → Rose sink_faults sink_later
  -- at status 0 the source was read to its end; at 3 the complete lines' report stands written, and no more
  pub to_end : s ≡ Done → moved.ended ≡ true
  pub complete : s ≡ ReadFault → ReportsComplete (λ p h xs. MadeRun stands p h xs) (played_language commands) moved.read moved.written

abbrev pub ReplaysAreOwed : {D : Type 0} → (Header → List (Form Command)) → (D → Setting → Trace → Type 0) → Type 0
ReplaysAreOwed {D} commands stands =
    (left after taken now : Option (List ℕ)) (faults later sink_faults sink_later : ℕ) (s : Played)
    → Replays commands stands left after taken now faults later sink_faults sink_later s → IsOwed commands stands left after taken now faults later sink_faults sink_later s

-- ---- within the events

-- From the header's world on, of this source, what is left behind these lines is left before the first.
pub record LeadsFrom {D : Type 0} (commands : Header → List (Form Command)) (stands : D → Setting → Trace → Type 0) (h : Header) (source : List ℕ) (w : World) (k : Counts)
    (ls : List NumberedLine) (written : List ℕ) : Type 0 where
  pub behind : List NumberedLine
  pub header : read_header (played_language commands) [] 1 (numbered_lines source) ≡ Header_read h behind
  pub leads : LeadsBack (EachStood stands) (played_language commands) (world_with (program_of commands) h) no_counts (event_lines_of (played_language commands) h behind) []
      w k (event_lines_of (played_language commands) h ls) written

-- These lines were read and played, and their report is written.
pub record Running {D : Type 0} (commands : Header → List (Form Command)) (stands : D → Setting → Trace → Type 0) (h : Header) (first left taken now : Option (List ℕ)) (r : ReaderState)
    (p : PlayState D) : Type 0 where
  pub consumed : List ℕ
  pub written : List ℕ
  pub gives : Gives first left [] (consumed ++ r.left)
  pub has_read : HasRead consumed r
  pub writes : Appends taken now written
  pub world : World
  pub plays : PlaysOn commands stands p world
  pub header : p.kept.header ≡ h
  pub leads : (rest : List ℕ) → MayFollow r.ended rest → LeadsFrom commands stands h (consumed ++ rest) world p.counts (lines_left consumed rest r) written

-- ---- a text that is put out

-- All of it, or a front of it after a fault, or nothing where there was no memory.
pub data Puts (taken now : Option (List ℕ)) (faults later : ℕ) (text : List ℕ) (whole : Played) : Played → Type 0 where
  All : Appends taken now text → Puts taken now faults later text whole whole
  Part : (front : List ℕ) → Appends taken now front → IsFrontOf front text → Rose faults later → Puts taken now faults later text whole WriteFault
  Nothing : Appends taken now [] → Puts taken now faults later text whole NoMemory
