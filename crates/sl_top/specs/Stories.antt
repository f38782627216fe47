-- What is owed where a schedule is told: what is written, and the status.
use Rattle.sl_headline.specs.PromisedRuns.{PromisedRun}
use Rattle.sl_io.specs.FaultCauses.{Rose}
use Rattle.sl_report.specs.Languages.{whole_language}
use Rattle.sl_report.specs.OwedReports.{IsFrontOf}
use Rattle.sl_report.specs.Schedules.{greatest_source}
use Rattle.sl_story.specs.ToldSchedules.{IsTold}
use Rattle.sl_top.specs.declared.status.Status.TheVariants.{Done, NoMemory, WriteFault}
use Rattle.sl_top.specs.declared.status.Status.{Status}
use Rattle.std.specs.Io.KnownBytes.{Appends}
use Rattle.std.specs.Prelude.{Bool, List, Option, length, [], ℕ, ◌+◌, ◌<◌, ◌≡◌, ◌≤◌, ◌⊎◌}

-- These bytes are a header and so many lines behind it, and a replay of them ends with status 0, with the report of a run as it is promised.
abbrev pub IsStory : ℕ → Bool → ℕ → List ℕ → Type 0
IsStory hosts paired told text = IsTold PromisedRun whole_language hosts paired told text

pub record Schedules (hosts events : ℕ) (paired : Bool) (taken now : Option (List ℕ)) (faults later : ℕ) (s : Status) : Type 0 where
  pub written : List ℕ
  pub appends : Appends taken now written
  -- at 0 so many lines are told; or fewer, and of the bytes that a schedule may have fewer than ten are left behind them
  pub told : s ≡ Done → (n : ℕ) × IsStory hosts paired n written × ((n ≡ events) ⊎ ((n < events) × (greatest_source < length written + 10)))
  -- where a write failed, a front of such a schedule is written
  pub part : s ≡ WriteFault → (n : ℕ) × (whole : List ℕ) × (n ≤ events) × IsStory hosts paired n whole × IsFrontOf written whole
  -- .. for want of memory one of fewer lines, or nothing
  pub fewer : s ≡ NoMemory → (written ≡ []) ⊎ ((n : ℕ) × (n < events) × IsStory hosts paired n written)
  pub write_fault : s ≡ WriteFault → Rose faults later
  -- there is no other status
  pub ended : (s ≡ Done) ⊎ (s ≡ WriteFault) ⊎ (s ≡ NoMemory)
