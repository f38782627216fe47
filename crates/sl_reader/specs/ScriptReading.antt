-- What reading a live script from a source gives.
use Rattle.sl_reader.specs.LiveLines.{live_line}
use Rattle.sl_reader.specs.Scopes.{scope_of}
use Rattle.sl_reader.specs.declared.live_lines.LiveLine.TheVariants.{Refused as RefusedLine}
use Rattle.sl_reader.specs.declared.live_lines.LiveLine.{LiveLine}
use Rattle.sl_reader.specs.declared.live_lines.NoLine.TheVariants as no_line_for
use Rattle.sl_reader.specs.declared.live_lines.NoLine.{NoLine}
use Rattle.sl_reader.specs.declared.scope.Scope.{Scope}
use Rattle.sl_reader.specs.declared.script_reading.Came.TheVariants as came
use Rattle.sl_reader.specs.declared.script_reading.Came.{Came}
use Rattle.sl_reader.specs.declared.script_reading.ScriptEnd.TheVariants.{End, NoMemory, ReadFault, Refused}
use Rattle.sl_reader.specs.declared.script_reading.ScriptEnd.{ScriptEnd}
use Rattle.sl_report.specs.Languages.{whole_language}
use Rattle.sl_report.specs.Schedules.{Header_read, NumberedLine, numbered_from, numbered_lines, read_header}
use Rattle.sl_run.specs.declared.event.Refusal.{Refusal}
use Rattle.sl_run.specs.declared.header.Header.{Header}
use Rattle.sl_reader.specs.HeaderBegins.{AreWholeLines}
use Rattle.sl_reader.specs.LineReads.{EndStands, Gives, MayFollow, ReaderState, RefusesLine}
use Rattle.sl_reader.specs.declared.reader.ReadError.TheVariants as read_error
use Rattle.sl_reader.specs.declared.reader.ReadError.{ReadError}
use Rattle.sl_text.specs.Forms.{is_free_of, lines_of}
use Rattle.sl_io.specs.FaultCauses.{Rose}
use Rattle.std.specs.Io.KnownBytes.{Consumes, IsAtEnd}
use Rattle.std.specs.Prelude.{All, Bool, Err, IsTrue, List, None, Ok, Option, Result, Some, false, filter_map, length, map, true, [], ℕ, ◌++◌, ◌+◌, ◌∷◌, ◌≡◌, ◌≤◌}

-- ---- what lines say

-- What a line behind the header says: its number, and a live line, or why it is refused.
abbrev pub ScriptLine : Type 0
ScriptLine = ℕ × Result LiveLine Refusal

-- What lines say, in their order; empty ones and comments say nothing.
abbrev pub script_lines : Scope → List NumberedLine → List ScriptLine
script_lines s ls = filter_map (live_line s) ls

-- What is given of what a line says: the live line, or that the line is refused.
abbrev pub line_of : ScriptLine → LiveLine
line_of (number, Ok l) = l
line_of (number, Err why) = RefusedLine number why

-- The line is not refused.
abbrev pub IsPlain : ScriptLine → Type 0
IsPlain (number, Ok l) = Unit {0}
IsPlain (number, Err why) = ⊥

-- .. as none of those is that a script gives which does not go on behind a refused line.
abbrev pub ArePlain : Bool → List ScriptLine → Type 0
ArePlain keeps told = keeps ≡ false → All IsPlain told

-- What a source says that has this header, by these names: these, and then others.
pub record Says (s : Scope) (h : Header) (source : List ℕ) (told others : List ScriptLine) : Type 0 where
  pub behind : List NumberedLine
  pub header : read_header whole_language [] 1 (numbered_lines source) ≡ Header_read h behind
  pub lines : script_lines s behind ≡ told ++ others

-- ---- what was read

-- What the lines that were given leave, where the script ended so: at the end nothing, and at a refused line that line first.
abbrev pub Leaves : Option ScriptEnd → List ScriptLine → Type 0
Leaves (Some End) others = others ≡ []
Leaves (Some (Refused number why)) others = (more : List ScriptLine) × (others ≡ (number, Err why) ∷ more)
Leaves end others = Unit {0}

-- The lines that were given are all that the complete lines of what was read say, up to the last line feed.
pub record SaysComplete (s : Scope) (h : Header) (read : List ℕ) (told : List ScriptLine) : Type 0 where
  pub complete : List ℕ
  pub partial : List ℕ
  pub cut : read ≡ complete ++ partial
  pub whole : AreWholeLines complete
  pub free : IsTrue (is_free_of 10 partial)
  pub says : Says s h complete told []

-- The line that begins behind so many bytes is refused before it is read, whatever follows: these bytes end within it.
pub record IsUnread (start : ℕ) (bytes : List ℕ) (why : Refusal) : Type 0 where
  pub before : List ℕ
  pub line : List ℕ
  pub cut : bytes ≡ before ++ line
  pub refuses : RefusesLine (start + length before) line why

-- A script that goes on behind a refused line is ended by one only where that is refused before it is read.
abbrev pub EndsUnread : Bool → Option ScriptEnd → ℕ → List ℕ → Type 0
EndsUnread keeps end start bytes = keeps ≡ true → (number : ℕ) (why : Refusal) → end ≡ Some (Refused number why) → IsUnread start bytes why

-- A script was read so far, or to where it ended: one that goes on behind a refused line, or does not. The k-th line that was given is what the
-- k-th line that says something says, whatever follows what was read.
pub record ReadsScriptBy (s : Scope) (keeps : Bool) (first now : Option (List ℕ)) (faults later : ℕ) (h : Header) (given : List LiveLine) (end : Option ScriptEnd) : Type 0 where
  pub read : List ℕ
  -- whether the source ended with them
  pub ended : Bool
  pub reads : Consumes first now read
  pub at_end : IsTrue ended → IsAtEnd now
  -- what the lines say that were given, with their numbers
  pub told : List ScriptLine
  pub given_are : given ≡ map line_of told
  pub plain : ArePlain keeps told
  pub says : (rest : List ℕ) → MayFollow ended rest → (others : List ScriptLine) × Says s h (read ++ rest) told others × Leaves end others
  -- at its end the source was read to its end; a read fault was counted, and no complete line was kept back
  pub to_end : end ≡ Some End → ended ≡ true
  pub fault : end ≡ Some ReadFault → Rose faults later × SaysComplete s h read told
  pub unread : EndsUnread keeps end 0 read

-- .. where all machines of the header run.
abbrev pub ReadsScript : Bool → Option (List ℕ) → Option (List ℕ) → ℕ → ℕ → Header → List LiveLine → Option ScriptEnd → Type 0
ReadsScript keeps first now faults later h given end = ReadsScriptBy (scope_of h) keeps first now faults later h given end

-- ---- behind the header

-- The lines behind those that a reader has read, where these bytes follow.
abbrev pub following : ReaderState → List ℕ → List NumberedLine
following r bytes = numbered_from (r.behind + length bytes) r.behind (r.number + 1) (lines_of bytes)

-- Whole lines were read, and this is what they say, whatever follows.
pub record Passes (s : Scope) (first now : Option (List ℕ)) (began r : ReaderState) (told : List ScriptLine) : Type 0 where
  pub consumed : List ℕ
  pub gives : Gives first now began.left (consumed ++ r.left)
  pub behind : r.behind ≡ began.behind + length consumed
  pub still : r.ended ≡ false → (began.ended ≡ false) × AreWholeLines consumed
  pub follows : (rest : List ℕ) → MayFollow r.ended rest → MayFollow began.ended (consumed ++ rest)
  pub says : (rest : List ℕ) → MayFollow r.ended rest → script_lines s (following began (consumed ++ rest)) ≡ told ++ script_lines s (following r rest)

-- These bytes were read, and say these and then others, whatever follows.
pub record Tells (s : Scope) (first now : Option (List ℕ)) (began : ReaderState) (ended : Bool) (told : List ScriptLine) (Then : List ScriptLine → Type 0) : Type 0 where
  pub bytes : List ℕ
  pub gives : Gives first now began.left bytes
  pub at_end : IsTrue ended → IsAtEnd now
  pub follows : (rest : List ℕ) → MayFollow ended rest → MayFollow began.ended (bytes ++ rest)
  pub says : (rest : List ℕ) → MayFollow ended rest → (others : List ScriptLine) × (script_lines s (following began (bytes ++ rest)) ≡ told ++ others) × Then others

-- The complete ones among these lines say these, and no more.
pub record TellsComplete (s : Scope) (began : ReaderState) (bytes : List ℕ) (told : List ScriptLine) : Type 0 where
  pub complete : List ℕ
  pub partial : List ℕ
  pub cut : bytes ≡ complete ++ partial
  pub open_still : began.ended ≡ false
  pub whole : AreWholeLines complete
  pub free : IsTrue (is_free_of 10 partial)
  pub says : script_lines s (following began complete) ≡ told

-- Reading has ended so behind these, in a script that goes on behind a refused line, or does not.
pub record Ends (keeps : Bool) (s : Scope) (first now : Option (List ℕ)) (faults later : ℕ) (began : ReaderState) (told : List ScriptLine) (end : ScriptEnd) : Type 0 where
  pub ended : Bool
  pub tells : Tells s first now began ended told (Leaves (Some end))
  pub to_end : end ≡ End → ended ≡ true
  pub fault : end ≡ ReadFault → Rose faults later × TellsComplete s began tells.bytes told
  pub unread : EndsUnread keeps (Some end) began.behind tells.bytes

-- What a line says, as what came next.
abbrev pub came_of : ScriptLine → Came
came_of (number, said) = came.Says number said

-- What came next. Where reading has ended by a refused line, that is refused before it is read.
abbrev pub Comes : Scope → Option (List ℕ) → Option (List ℕ) → ℕ → ℕ → ReaderState → ReaderState → List ScriptLine → Result Came ReadError → Type 0
Comes s first now faults later began r told (Ok (came.Says number said)) = Passes s first now began r (told ++ (number, said) ∷ [])
Comes s first now faults later began r told (Ok came.End) = Ends true s first now faults later began told End
Comes s first now faults later began r told (Ok (came.Refused number why)) = Ends true s first now faults later began told (Refused number why)
Comes s first now faults later began r told (Err read_error.Failed) = Ends true s first now faults later began told ReadFault
Comes s first now faults later began r told (Err read_error.NoMemory) = Ends true s first now faults later began told NoMemory

-- What is answered where the line of this number is refused for what it says, and why the script ended, if it did.
abbrev pub AnswersRefused : Bool → ℕ → Refusal → Result (Option LiveLine) NoLine → Option ScriptEnd → Type 0
AnswersRefused true number why answer end = (answer ≡ Ok (Some (RefusedLine number why))) × (end ≡ None)
AnswersRefused false number why answer end = (answer ≡ Err no_line_for.Refused) × (end ≡ Some (Refused number why))

-- What is answered when this came, and why the script ended, if it did.
abbrev pub Answers : Bool → Result Came ReadError → Result (Option LiveLine) NoLine → Option ScriptEnd → Type 0
Answers keeps (Ok (came.Says number (Ok l))) answer end = (answer ≡ Ok (Some l)) × (end ≡ None)
Answers keeps (Ok (came.Says number (Err why))) answer end = AnswersRefused keeps number why answer end
Answers keeps (Ok came.End) answer end = (answer ≡ Ok None) × (end ≡ Some End)
Answers keeps (Ok (came.Refused number why)) answer end = (answer ≡ Err no_line_for.Refused) × (end ≡ Some (Refused number why))
Answers keeps (Err read_error.Failed) answer end = (answer ≡ Err no_line_for.ReadFault) × (end ≡ Some ReadFault)
Answers keeps (Err read_error.NoMemory) answer end = (answer ≡ Err no_line_for.NoMemory) × (end ≡ Some NoMemory)

-- ---- a script that is being read

-- What is left of its source, how many of its reads have failed, what is read ahead of it, by which names lines are read, whether it goes on behind
-- a refused line, and why it ended, if it did.
pub record ScriptState : Type 0 where
  pub left : Option (List ℕ)
  pub faults : ℕ
  pub reader : ReaderState
  pub scope : Scope
  pub keeps : Bool
  pub end : Option ScriptEnd

-- No fault is forgotten; and while it goes on, its reader may be at its source's end only if that is there.
pub record IsAhead (before : ℕ) (now : Option (List ℕ)) (faults : ℕ) (r : ReaderState) (end : Option ScriptEnd) : Type 0 where
  pub more : before ≤ faults
  pub stands : end ≡ None → EndStands now r

-- How far it is read.
abbrev pub Stands : Bool → Scope → Option (List ℕ) → Option (List ℕ) → ℕ → ℕ → ReaderState → ReaderState → List ScriptLine → Option ScriptEnd → Type 0
Stands keeps s first now faults later began r told None = Passes s first now began r told × EndStands now r
Stands keeps s first now faults later began r told (Some end) = Ends keeps s first now faults later began told end

-- It has given these lines since its reader began with this source.
pub record IsScript (keeps : Bool) (first : Option (List ℕ)) (faults : ℕ) (began : ReaderState) (scope : Scope) (s : ScriptState) (given : List LiveLine) : Type 0 where
  pub scope_is : s.scope ≡ scope
  pub keeps_is : s.keeps ≡ keeps
  pub more : faults ≤ s.faults
  pub told : List ScriptLine
  pub given_are : given ≡ map line_of told
  pub plain : ArePlain keeps told
  pub stands : Stands keeps scope first s.left faults s.faults began s.reader told s.end
