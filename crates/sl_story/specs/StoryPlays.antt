-- A story while it is told: what stands, and what each step makes of it.
use Rattle.sl_io.specs.FaultCauses.{Rose}
use Rattle.sl_play.specs.Plays.{PlayState, PlaysOn}
use Rattle.sl_play.specs.Replays.{LeadsFrom}
use Rattle.sl_report.specs.OwedReports.{IsFrontOf}
use Rattle.sl_report.specs.Languages.{whole_language}
use Rattle.sl_report.specs.Schedules.{NumberedLine, event_line, greatest_source, numbered_from}
use Rattle.sl_run.specs.Refusals.{may_happen}
use Rattle.sl_run.specs.Worlds.{World}
use Rattle.sl_run.specs.declared.event.Event.{Event}
use Rattle.sl_run.specs.declared.header.Header.{Header}
use Rattle.sl_story.specs.StoryHeaders.{story_header, story_lines}
use Rattle.sl_story.specs.ToldSchedules.{ToldBy, says}
use Rattle.sl_story.specs.declared.header.Opening.{Opening}
use Rattle.sl_story.specs.declared.place.Place.{Place}
use Rattle.sl_story.specs.declared.story.One.TheVariants as one
use Rattle.sl_story.specs.declared.story.One.{One}
use Rattle.sl_story.specs.declared.story.Left.{Left}
use Rattle.sl_story.specs.declared.story.Taken.{Taken}
use Rattle.sl_story.specs.declared.story.Told.TheVariants as told
use Rattle.sl_story.specs.declared.story.Told.{Told}
use Rattle.sl_text.specs.Forms.{Form, as_bytes, lines_of}
use Rattle.sl_trace.specs.Traces.{Setting, Trace}
use Rattle.sl_trace.specs.declared.command.Command.{Command}
use Rattle.std.specs.Io.KnownBytes.{Appends}
use Rattle.std.specs.List.{list_all}
use Rattle.std.specs.Prelude.{Bool, Err, List, None, Ok, Option, Result, Some, false, length, string_bytes, true, [], ℕ, ◌*◌, ◌++◌, ◌+◌, ◌-◌, ◌<◌, ◌∷◌, ◌≡◌, ◌≤◌}

-- The first lines, and what they are read as.
pub record Opens (hosts : ℕ) (paired : Bool) (o : Opening) : Type 0 where
  pub hosts_are : (1 ≤ hosts) × (hosts ≤ 16)
  pub text_is : o.text.items ≡ as_bytes (story_lines hosts paired)
  pub header_is : o.header ≡ story_header hosts paired
  pub lines_are : o.place.lines ≡ 17 + 2 * hosts
  pub bytes_are : o.place.bytes ≡ length o.text.items

-- A line with its line feed.
abbrev pub fed : List ℕ → List ℕ
fed line = line ++ 10 ∷ []

-- So many lines were told behind the first ones, and what stands is this text, of so many lines and bytes: each has been read and played, so whatever
-- is left behind it is left behind the first lines.
pub record IsTelling {D : Type 0} (commands : Header → List (Form Command)) (stands : D → Setting → Trace → Type 0) (hosts : ℕ) (paired : Bool) (told number bytes : ℕ) (text : List ℕ)
    (p : PlayState D) : Type 0 where
  pub lines : List (List ℕ)
  pub counted : length lines ≡ told
  pub saying : list_all says lines ≡ true
  pub text_is : text ≡ as_bytes (story_lines hosts paired ++ lines)
  pub long : bytes ≡ length text
  pub report : List ℕ
  pub world : World
  pub plays : PlaysOn commands stands p world
  pub header : p.kept.header ≡ story_header hosts paired
  pub leads : (rest : List ℕ)
      → LeadsFrom commands stands (story_header hosts paired) (text ++ rest) world p.counts (numbered_from (length (text ++ rest)) bytes (number + 1) (lines_of rest)) report

-- Whatever stood, it stands with this line behind it.
abbrev pub TellsOn : {D : Type 0} → (Header → List (Form Command)) → (D → Setting → Trace → Type 0) → Place → List ℕ → PlayState D → Place → PlayState D → Type 0
TellsOn commands stands a line p b n =
    (hosts : ℕ) (paired : Bool) (told : ℕ) (text : List ℕ) → IsTelling commands stands hosts paired told a.lines a.bytes text p
    → IsTelling commands stands hosts paired (told + 1) b.lines b.bytes (text ++ fed line) n

-- The text is a line that was taken; or nothing has changed.
abbrev pub TakesText : {D : Type 0} → (Header → List (Form Command)) → (D → Setting → Trace → Type 0) → Place → List ℕ → PlayState D → PlayState D → Option Place → Type 0
TakesText commands stands a line p n None = n ≡ p
TakesText commands stands a line p n (Some b) = TellsOn commands stands a line p b n

-- A line of a schedule at a place.
abbrev pub line_at : ℕ → ℕ → List ℕ → NumberedLine
line_at number start line = record { number = number; start = start; text = line; is_past = false }

-- The line says something, there is room for it, and its event may happen.
pub record MayStand (h : Header) (w : World) (a : Place) (line : List ℕ) : Type 0 where
  pub saying : says line ≡ true
  pub room : a.bytes + length line < greatest_source
  pub event : Event
  pub read : event_line whole_language h (line_at (a.lines + 1) a.bytes line) ≡ Some (a.lines + 1, Ok event)
  pub may : may_happen w event ≡ true

-- One of several.
abbrev pub TakesFirst : {D : Type 0} → (Header → List (Form Command)) → (D → Setting → Trace → Type 0) → Place → PlayState D → PlayState D → Option Taken → Type 0
TakesFirst commands stands a p n None = n ≡ p
TakesFirst commands stands a p n (Some t) = TellsOn commands stands a (string_bytes t.line) p t.place n

-- A line is put out, whole or in part, or not at all.
pub data PutsLine (line : List ℕ) (place : Place) (taken now : Option (List ℕ)) (faults later : ℕ) : One → Type 0 where
  Whole : Appends taken now (fed line) → PutsLine line place taken now faults later (one.Line place)
  Part : (front : List ℕ) → Appends taken now front → IsFrontOf front (fed line) → Rose faults later → PutsLine line place taken now faults later one.WriteFault
  Unput : Appends taken now [] → PutsLine line place taken now faults later one.NoMemory

-- What an act comes to.
pub data TellsOne {D : Type 0} (commands : Header → List (Form Command)) (stands : D → Setting → Trace → Type 0) (a : Place) (taken now : Option (List ℕ)) (faults later : ℕ)
    (p n : PlayState D) : One → Type 0 where
  One_line : (line : List ℕ) (b : Place) → Appends taken now (fed line) → TellsOn commands stands a line p b n → TellsOne commands stands a taken now faults later p n (one.Line b)
  No_line : Appends taken now [] → n ≡ p → TellsOne commands stands a taken now faults later p n one.Nothing
  In_part : (line front : List ℕ) (b : Place) → Appends taken now front → IsFrontOf front (fed line) → Rose faults later → TellsOn commands stands a line p b n
      → TellsOne commands stands a taken now faults later p n one.WriteFault
  No_room : Appends taken now [] → n ≡ p → greatest_source < a.bytes + 10 → TellsOne commands stands a taken now faults later p n one.Full
  No_memory : Appends taken now [] → TellsOne commands stands a taken now faults later p n one.NoMemory

-- This holds where the story goes on.
abbrev pub GoesOn : One → Type 0 → Type 0
GoesOn (one.Line b) P = P
GoesOn one.Nothing P = P
GoesOn o P = Unit {0}

-- Nothing is told only where acts are left.
abbrev pub MovesOn : ℕ → One → Type 0
MovesOn acts one.Nothing = 0 < acts
MovesOn acts o = Unit {0}

-- What is left behind an act.
abbrev pub left_behind : Left → One → Result Left Told
left_behind a (one.Line b) = Ok (record { lines = a.lines - 1; acts = a.acts - 1; place = b })
left_behind a one.Nothing = Ok (record { lines = a.lines; acts = a.acts - 1; place = a.place })
left_behind a one.Full = Err told.Short
left_behind a one.WriteFault = Err told.WriteFault
left_behind a one.NoMemory = Err told.NoMemory
