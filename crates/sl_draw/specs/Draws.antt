-- What a drawing reads and writes, by how it ends.
use Rattle.sl_draw.specs.Captions.{comments_of}
use Rattle.sl_draw.specs.Drawings.{AreTold, BeginsPicture, PictureOf, PictureOwed, Step, drawn, lines_of_steps, told_of_steps}
use Rattle.sl_io.specs.FaultCauses.{Rose}
use Rattle.sl_picture.specs.Kept.{Kept}
use Rattle.sl_picture.specs.declared.kept.Part.{Part}
use Rattle.sl_play.specs.Plays.{PlayState}
use Rattle.sl_play.specs.Replays.{Moved, Running, code, played_language}
use Rattle.sl_play.specs.declared.replay.Played.TheVariants.{Done, NoMemory, ReadFault, Refused, WriteFault}
use Rattle.sl_play.specs.declared.replay.Played.{Played}
use Rattle.sl_reader.specs.HeaderBegins.{lines_left}
use Rattle.sl_reader.specs.LineReads.{MayFollow, ReaderState}
use Rattle.sl_report.specs.OwedReports.{MayHaveBeen}
use Rattle.sl_report.specs.Schedules.{Header_read, NumberedLine, numbered_lines, read_header}
use Rattle.sl_run.specs.declared.header.Header.{Header}
use Rattle.sl_sound.specs.MadeRuns.{MadeRun}
use Rattle.sl_text.specs.Forms.{Form}
use Rattle.sl_trace.specs.Traces.{Setting, Trace}
use Rattle.sl_trace.specs.declared.command.Command.{Command}
use Rattle.std.specs.Prelude.{Bool, List, Option, Some, true, [], ℕ, ◌++◌, ◌≡◌}

-- It is the picture of each source that may have been.
abbrev pub DrawsAll : {D : Type 0} → (Header → List (Form Command)) → (D → Setting → Trace → Type 0) → Part → Bool → List ℕ → List ℕ → ℕ → Type 0
DrawsAll commands stands part ended read written status =
    (source : List ℕ) → MayHaveBeen ended read source → PictureOf (λ p h xs. MadeRun stands p h xs) (played_language commands) part source written status

-- ---- by how it ended

pub data Draws {D : Type 0} (commands : Header → List (Form Command)) (stands : D → Setting → Trace → Type 0) (part : Part) (left after taken now : Option (List ℕ))
    (faults later sink_faults sink_later : ℕ) : Played → Type 0 where
  -- the source was read to its end, and the picture is whole
  Ends : (x : Moved left after taken now) → x.ended ≡ true → DrawsAll commands stands part x.ended x.read x.written 0
      → Draws commands stands part left after taken now faults later sink_faults sink_later Done
  -- a line is refused, and the picture up to there is whole
  Stops : (x : Moved left after taken now) → DrawsAll commands stands part x.ended x.read x.written 1
      → Draws commands stands part left after taken now faults later sink_faults sink_later Refused
  -- a read failed, and nothing is written
  Breaks : (x : Moved left after taken now) → Rose faults later → x.written ≡ [] → Draws commands stands part left after taken now faults later sink_faults sink_later ReadFault
  -- a write failed, and what is written begins the picture
  Chokes : (x : Moved left after taken now) → Rose sink_faults sink_later
      → BeginsPicture (λ p h xs. MadeRun stands p h xs) (played_language commands) part x.ended x.read x.written
      → Draws commands stands part left after taken now faults later sink_faults sink_later WriteFault
  -- there was no memory, and nothing is written
  Lacks : (x : Moved left after taken now) → x.written ≡ [] → Draws commands stands part left after taken now faults later sink_faults sink_later NoMemory

-- ---- within the events

-- These lines were read and played, and each was taken into the picture, whose caption was read above them.
pub record Drawing {D : Type 0} (commands : Header → List (Form Command)) (stands : D → Setting → Trace → Type 0) (part : Part) (h : Header) (first left : Option (List ℕ)) (r : ReaderState)
    (p : PlayState D) (caption : List (List ℕ)) (k : Kept) : Type 0 where
  pub above : List NumberedLine
  pub steps : List Step
  pub runs : Running commands stands h first left (Some []) (Some (told_of_steps steps)) r p
  pub comments : caption ≡ comments_of above
  pub kept : k ≡ drawn part h steps
  pub all_lines : (rest : List ℕ) → MayFollow r.ended rest → numbered_lines (runs.consumed ++ rest) ≡ above ++ (lines_of_steps steps ++ lines_left runs.consumed rest r)
  pub lines : (rest : List ℕ) → MayFollow r.ended rest
      → read_header (played_language commands) [] 1 (numbered_lines (runs.consumed ++ rest)) ≡ Header_read h (lines_of_steps steps ++ lines_left runs.consumed rest r)
  pub told : AreTold (λ q header xs. MadeRun stands q header xs) (played_language commands) runs.consumed h steps

-- What is owed of it.
pub record IsDrawn {D : Type 0} (commands : Header → List (Form Command)) (stands : D → Setting → Trace → Type 0) (part : Part) (left after taken now : Option (List ℕ))
    (faults later sink_faults sink_later : ℕ) (s : Played) : Type 0 where
  pub moved : Moved left after taken now
  pub owed : PictureOwed (λ p h xs. MadeRun stands p h xs) (played_language commands) part moved.ended moved.read moved.written (code s)
  pub read_fault : s ≡ ReadFault → Rose faults later
  pub write_fault : s ≡ WriteFault → Rose sink_faults sink_later
  -- at status 0 the source was read to its end
  pub to_end : s ≡ Done → moved.ended ≡ true

abbrev pub DrawingsAreOwed : {D : Type 0} → (Header → List (Form Command)) → (D → Setting → Trace → Type 0) → Type 0
DrawingsAreOwed {D} commands stands =
    (part : Part) (left after taken now : Option (List ℕ)) (faults later sink_faults sink_later : ℕ) (s : Played)
    → Draws commands stands part left after taken now faults later sink_faults sink_later s → IsDrawn commands stands part left after taken now faults later sink_faults sink_later s
