-- What is promised of the run that a schedule tells.
use Rattle.sl_report.specs.OwedReports.{GoodRun, HeadersAreGood, Headline, ReplayHeadline, ReplayOf, ReplayOwed, SoundRun}
use Rattle.sl_report.specs.Languages.{Language}
use Rattle.sl_report.specs.Reports.{Counts, run_counts, run_lines}
use Rattle.sl_report.specs.Schedules.{EventLine, Follows, Header_read, Header_refused, NoAsk, event_lines_of, last_lines, numbered_lines, read_header, replay_from, replay_lines, status_of}
use Rattle.sl_run.specs.Runs.{IsRun}
use Rattle.sl_run.specs.Worlds.{World, world_with}
use Rattle.sl_sound.specs.Reports.EventsAskFew.{IsFair}
use Rattle.sl_sound.specs.Reports.FollowedSchedules.{DoesWhatIsDue, IsAccepted, followed_end, followed_run}
use Rattle.sl_text.specs.Forms.{as_bytes}
use Rattle.std.specs.Prelude.{Bool, List, [], ℕ, ◌++◌, ◌≡◌}

-- What is followed is a run of the schedule's events up to its ending, each with the asks that follow it, in which each daemon does what is due;
-- and the plain program's lines are the report of it.
pub record ReportsAreRuns : Type 0 where
  pub follows : (w : World) (ls : List EventLine) → IsFair w → NoAsk w → Follows w ls (followed_run w ls) (followed_end w ls)
  pub is_run : (w : World) (ls : List EventLine) → IsFair w → NoAsk w → IsRun w (followed_run w ls)
  pub does : (w : World) (ls : List EventLine) → DoesWhatIsDue w (followed_run w ls)
  pub reported : (lang : Language) (w : World) (k : Counts) (ls : List EventLine) →
      replay_from lang w k ls ≡ run_lines w (followed_run w ls) ++ last_lines lang (run_counts w k (followed_run w ls)) (followed_end w ls)

-- The status of a source's report: 0 where all lines are followed to the end, else 1.
abbrev pub replay_status : Language → List ℕ → ℕ
replay_status lang source =
    elim (read_header lang [] 1 (numbered_lines source)) [
      | Header_refused number why ↦ 1
      | Header_read h rest ↦ status_of (followed_end (world_with lang.program h) (event_lines_of lang h rest))
    ]

-- A schedule has status 0 where it is read and allowed to its end, and nowhere else.
pub record AcceptedSchedulesEndWell : Type 0 where
  pub well : (lang : Language) → HeadersAreGood lang → (source : List ℕ) → IsAccepted lang source → replay_status lang source ≡ 0
  pub only : (lang : Language) → HeadersAreGood lang → (source : List ℕ) → replay_status lang source ≡ 0 → IsAccepted lang source

-- In a sound run each daemon does what is due, so whoever reports one gives the schedule's own status, and writes the plain program's report: a
-- source has one of each.
pub record RunsHaveOneReport : Type 0 where
  pub status : (lang : Language) → HeadersAreGood lang → (source written : List ℕ) (status : ℕ) → ReplayOf SoundRun lang source written status →
      status ≡ replay_status lang source
  pub sound : (lang : Language) → HeadersAreGood lang → (source written : List ℕ) (status : ℕ) → ReplayOf SoundRun lang source written status →
      written ≡ as_bytes (replay_lines lang source)
  pub good : (lang : Language) → HeadersAreGood lang → Headline GoodRun lang

-- And whoever reports a front of one writes a front of the plain program's report. So what is owed of sound runs is the headline.
abbrev pub OwedIsHeadline : Type 0
OwedIsHeadline =
    (lang : Language) → HeadersAreGood lang → (ended : Bool) (read written : List ℕ) (status : ℕ) → ReplayOwed SoundRun lang ended read written status
    → ReplayHeadline SoundRun lang ended read written status
