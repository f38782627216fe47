-- What is owed of a story: it is a schedule that is accepted to its end, with so many events, or as many as a schedule has room for.
use Rattle.sl_io.specs.FaultCauses.{Rose}
use Rattle.sl_play.specs.Replays.{played_language}
use Rattle.sl_report.specs.Languages.{Language, is_skipped}
use Rattle.sl_report.specs.OwedReports.{IsFrontOf, Promise, ReplayOf}
use Rattle.sl_report.specs.Schedules.{greatest_source}
use Rattle.sl_run.specs.declared.header.Header.{Header}
use Rattle.sl_sound.specs.MadeRuns.{MadeRun}
use Rattle.sl_story.specs.StoryHeaders.{story_lines}
use Rattle.sl_story.specs.declared.story.Told.TheVariants.{Done, NoMemory, Short, WriteFault}
use Rattle.sl_story.specs.declared.story.Told.{Told}
use Rattle.sl_text.specs.Forms.{Form, as_bytes, is_free_of}
use Rattle.sl_trace.specs.Traces.{Setting, Trace}
use Rattle.sl_trace.specs.declared.command.Command.{Command}
use Rattle.std.specs.Io.KnownBytes.{Appends}
use Rattle.std.specs.List.{list_all}
use Rattle.std.specs.Prelude.{Bool, List, Option, length, not, true, [], ℕ, ◌&&◌, ◌++◌, ◌+◌, ◌<◌, ◌≡◌, ◌≤◌}

-- ---- lines

-- A line that says something: it is neither empty nor a comment, and has no line feed.
abbrev pub says : List ℕ → Bool
says line = not (is_skipped line) && is_free_of 10 line

-- ---- what is written

-- These bytes are a header and so many lines behind it, each of which says something; and the whole report of this source ends with status 0.
pub record IsTold (promised : Promise) (lang : Language) (hosts : ℕ) (paired : Bool) (told : ℕ) (text : List ℕ) : Type 0 where
  pub lines : List (List ℕ)
  pub counted : length lines ≡ told
  pub saying : list_all says lines ≡ true
  pub text_is : text ≡ as_bytes (story_lines hosts paired ++ lines)
  pub report : List ℕ
  pub accepted : ReplayOf promised lang text report 0

abbrev pub ToldBy : {D : Type 0} → (Header → List (Form Command)) → (D → Setting → Trace → Type 0) → ℕ → Bool → ℕ → List ℕ → Type 0
ToldBy commands stands hosts paired told text = IsTold (λ p h xs. MadeRun stands p h xs) (played_language commands) hosts paired told text

-- What is owed, by how it ended.
pub data Tells {D : Type 0} (commands : Header → List (Form Command)) (stands : D → Setting → Trace → Type 0) (hosts events : ℕ) (paired : Bool) (taken now : Option (List ℕ))
    (faults later : ℕ) : Told → Type 0 where
  -- so many events are told
  All : (text : List ℕ) → Appends taken now text → ToldBy commands stands hosts paired events text → Tells commands stands hosts events paired taken now faults later Done
  -- fewer are: of the bytes that a schedule may have, fewer than ten are left behind them
  Fewer : (told : ℕ) (text : List ℕ) → told < events → greatest_source < length text + 10 → Appends taken now text → ToldBy commands stands hosts paired told text
      → Tells commands stands hosts events paired taken now faults later Short
  -- a write failed, and a front of such a schedule is written
  Part : (told : ℕ) (text whole : List ℕ) → told ≤ events → Appends taken now text → IsFrontOf text whole → ToldBy commands stands hosts paired told whole → Rose faults later
      → Tells commands stands hosts events paired taken now faults later WriteFault
  -- there was no memory: nothing is written, or fewer events are told
  Nothing : Appends taken now [] → Tells commands stands hosts events paired taken now faults later NoMemory
  Lacks : (told : ℕ) (text : List ℕ) → told < events → Appends taken now text → ToldBy commands stands hosts paired told text
      → Tells commands stands hosts events paired taken now faults later NoMemory
