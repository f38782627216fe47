-- What is owed of a source whose lines were followed from the header's world on.
use Rattle.sl_world_state.specs.Daemons.{Stood}
use Rattle.sl_play.specs.RunEndings.{BreaksOff, Finishes}
use Rattle.sl_report.specs.OwedReports.{FrontOf, ReplayOf}
use Rattle.sl_report.specs.Languages.{Language}
use Rattle.sl_report.specs.Reports.{no_counts}
use Rattle.sl_report.specs.Schedules.{Ending, Header_read, NumberedLine, event_lines_of, numbered_lines, read_header, status_of}
use Rattle.sl_run.specs.Runs.{EachDaemon}
use Rattle.sl_run.specs.Worlds.{World, world_with}
use Rattle.sl_run.specs.declared.header.Header.{Header}
use Rattle.sl_sound.specs.MadeRuns.{MadeRun}
use Rattle.sl_trace.specs.Traces.{Setting, Trace}
use Rattle.std.specs.Prelude.{List, [], ℕ, ◌≡◌}

-- A daemon of this kind stood for each trace of the world.
abbrev pub EachStood : {D : Type 0} → (D → Setting → Trace → Type 0) → World → Type 0
EachStood stands w = EachDaemon (Stood stands) w

-- What finishes is the report of a made run, and what breaks off a front of one's.
pub record PlayIsOwed {D : Type 0} (stands : D → Setting → Trace → Type 0) : Type 0 where
  pub whole : (lang : Language) (source : List ℕ) (h : Header) (rest : List NumberedLine) (written : List ℕ) (end : Ending)
      → read_header lang [] 1 (numbered_lines source) ≡ Header_read h rest
      → Finishes (EachStood stands) lang (world_with lang.program h) no_counts (event_lines_of lang h rest) [] written end
      → ReplayOf (λ p header xs. MadeRun stands p header xs) lang source written (status_of end)
  pub front : (lang : Language) (source : List ℕ) (h : Header) (rest : List NumberedLine) (written : List ℕ)
      → read_header lang [] 1 (numbered_lines source) ≡ Header_read h rest
      → BreaksOff (EachStood stands) (world_with lang.program h) (event_lines_of lang h rest) [] written
      → FrontOf (λ p header xs. MadeRun stands p header xs) lang source written
