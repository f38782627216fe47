-- The picture of a source: that of its lines, each with what the report tells of it, below the comments of its header.
use Rattle.sl_draw.specs.Captions.{comments_of}
use Rattle.sl_picture.specs.Kept.{Kept, first_kept}
use Rattle.sl_picture.specs.Page.{picture_of}
use Rattle.sl_picture.specs.Tells.{taken}
use Rattle.sl_picture.specs.declared.kept.Part.{Part}
use Rattle.sl_report.specs.Languages.{Language}
use Rattle.sl_report.specs.OwedReports.{IsFrontOf, MayHaveBeen, Promise, ReplayOf, is_whole_status}
use Rattle.sl_report.specs.RefusalLines.{refusal_line}
use Rattle.sl_report.specs.Reports.{Counts, end_line}
use Rattle.sl_report.specs.Schedules.{Header_read, Header_refused, NumberedLine, numbered_lines, read_header}
use Rattle.sl_run.specs.declared.event.Refusal.{Refusal}
use Rattle.sl_run.specs.declared.header.Header.{Header}
use Rattle.sl_text.specs.Forms.{as_bytes}
use Rattle.std.specs.Int.{is_in_range}
use Rattle.std.specs.Prelude.{Bool, IsTrue, List, MatchBool, [], ℕ, ◌++◌, ◌==◌, ◌∷◌, ◌≡◌}

-- A line behind a header, with what the report tells of it: the lines of its event and of the asks behind that.
pub record Step : Type 0 where
  pub line : NumberedLine
  pub told : List ℕ

-- Steps stand newest first.

abbrev pub lines_of_steps : List Step → List NumberedLine
lines_of_steps [] = []
lines_of_steps (s ∷ ss) = lines_of_steps ss ++ s.line ∷ []

abbrev pub told_of_steps : List Step → List ℕ
told_of_steps [] = []
told_of_steps (s ∷ ss) = told_of_steps ss ++ s.told

-- What is kept behind them.
abbrev pub drawn : Part → Header → List Step → Kept
drawn part h [] = first_kept part h
drawn part h (s ∷ ss) = taken s.line.number s.line.text s.told (drawn part h ss)

-- What is told of these steps is all that the report tells of a front of the source that has just their lines, but for its last line.
pub record IsTold (promised : Promise) (lang : Language) (source : List ℕ) (h : Header) (steps : List Step) : Type 0 where
  pub front : List ℕ
  pub begins : IsFrontOf front source
  pub header : read_header lang [] 1 (numbered_lines front) ≡ Header_read h (lines_of_steps steps)
  pub counts : Counts
  pub report : ReplayOf promised lang front (told_of_steps steps ++ as_bytes (end_line counts ∷ [])) 0

-- So of the first steps, however many: so each is told what its own line adds to the report.
abbrev pub AreTold : Promise → Language → List ℕ → Header → List Step → Type 0
AreTold promised lang source h [] = IsTold promised lang source h []
AreTold promised lang source h (s ∷ ss) = IsTold promised lang source h (s ∷ ss) × AreTold promised lang source h ss

-- The last line of the report, where no line is left, or where the next one is refused.
pub data IsLast (lines : List NumberedLine) : List ℕ → ℕ → Type 0 where
  Ends : (k : Counts) → lines ≡ [] → IsLast lines (as_bytes (end_line k ∷ [])) 0
  Stops : (l : NumberedLine) (more : List NumberedLine) (why : Refusal) → lines ≡ l ∷ more → IsLast lines (as_bytes (refusal_line l.number why ∷ [])) 1

-- The picture of a part of a source, with the status that goes with it; of the run that it shows this is promised. Its caption has the comments
-- of the lines above the first that is played, each a line of its own, and nothing else. Where a line of the header is refused, the picture is
-- the line that says so.
pub data PictureOf (promised : Promise) (lang : Language) (part : Part) (source : List ℕ) : List ℕ → ℕ → Type 0 where
  In_header : (number : ℕ) (why : Refusal) → read_header lang [] 1 (numbered_lines source) ≡ Header_refused number why →
      PictureOf promised lang part source (as_bytes (refusal_line number (lang.told why) ∷ [])) 1
  In_events : {status : ℕ} → (h : Header) (above : List NumberedLine) (steps : List Step) (rest : List NumberedLine) (last : List ℕ) →
      numbered_lines source ≡ above ++ (lines_of_steps steps ++ rest) → read_header lang [] 1 (numbered_lines source) ≡ Header_read h (lines_of_steps steps ++ rest) →
      AreTold promised lang source h steps → IsLast rest last status → ReplayOf promised lang source (told_of_steps steps ++ last) status →
      PictureOf promised lang part source (picture_of (comments_of above) (drawn part h steps) last) status

-- What is written begins the picture of each source that may have been.
pub record BeginsPicture (promised : Promise) (lang : Language) (part : Part) (ended : Bool) (read written : List ℕ) : Type 0 where
  pub picture : List ℕ
  pub status : ℕ
  pub begins : IsFrontOf written picture
  pub owed : (source : List ℕ) → MayHaveBeen ended read source → PictureOf promised lang part source picture status

-- What is owed for the bytes that were read, whether the source ended with them, the bytes that were written, and the status: with 0 or 1 the
-- whole picture, whatever the rest of the source; with 4 a front of it; with 3 and 5 nothing.
abbrev pub PictureOwed : Promise → Language → Part → Bool → List ℕ → List ℕ → ℕ → Type 0
PictureOwed promised lang part ended read written status =
    MatchBool (is_whole_status status) ((source : List ℕ) → MayHaveBeen ended read source → PictureOf promised lang part source written status)
    (IsTrue (is_in_range 3 5 status) × MatchBool (status == 4) (BeginsPicture promised lang part ended read written) (written ≡ []))
