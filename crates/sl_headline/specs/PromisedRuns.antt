-- What is promised of the runs that the program tells.
use Rattle.sl_report.specs.OwedReports.{HeadersAreGood, ReplayHeadline, ReplayOf, ReplayOwed}
use Rattle.sl_report.specs.Host.{DueIsLawful}
use Rattle.sl_report.specs.Languages.{Language}
use Rattle.sl_run.specs.Headers.{IsHeader}
use Rattle.sl_run.specs.Quiet.{QuietIsGranted}
use Rattle.sl_run.specs.LvmPromises.{VolumesAreSafe}
use Rattle.sl_run.specs.Runs.{AfterEachFront, Happening}
use Rattle.sl_run.specs.Worlds.{Program, world_with}
use Rattle.sl_run.specs.declared.header.Header.{Header}
use Rattle.sl_sector.specs.SectorLayouts.{IsDigest}
use Rattle.sl_sound.specs.MadeRuns.{MadeRun, ServedRun}
use Rattle.sl_sound.specs.SoundLaws.{DaemonsDoWhatIsDue}
use Rattle.sl_trace.specs.Traces.{Setting, Trace}
use Rattle.sl_headline.specs.Volumes.FittingRuns.{ReadsAsks}
use Rattle.std.specs.Prelude.{Bool, List, ℕ}

-- A run as it is promised: it is served; each acquire in it that nothing stands in the way of is granted; and lvmlockd's locks keep to what is
-- said of them: a line asks at most once and as often again as the header has it; at each moment each lock that lines tell is held, so that no
-- volume is told active on two machines unless both share it; and where a line tells that a group's value is the one that is known, no other
-- machine's write of it was answered ok since it was told.
pub record PromisedRun (p : Program) (h : Header) (xs : List Happening) : Type 0 where
  pub served : ServedRun p h xs
  pub quiet : QuietIsGranted (world_with p h) xs
  pub locks : AfterEachFront xs (λ now. VolumesAreSafe p h now)

-- The program reads each ask of lvmlockd's locks as the command that it spells.
abbrev pub AsksAreRead : Program → Type 0
AsksAreRead p = (h : Header) → IsHeader h → ReadsAsks p h

-- So is each run made of daemons that do what is due.
abbrev pub MadeRunsArePromised : {D : Type 0} → (D → Setting → Trace → Type 0) → Type 0
MadeRunsArePromised stands =
    DaemonsDoWhatIsDue stands → DueIsLawful → (p : Program) → AsksAreRead p → (h : Header) (xs : List Happening) → IsHeader h → IsDigest p.digest → MadeRun stands p h xs → PromisedRun p h xs

-- What is owed for the bytes that were read and written.
pub record IsPromised (lang : Language) (ended : Bool) (read written : List ℕ) (status : ℕ) : Type 0 where
  -- all of the report of such a run, or, by the status, a front of one
  pub owed : ReplayOwed PromisedRun lang ended read written status
  -- and that report is the plain program's
  pub headline : ReplayHeadline PromisedRun lang ended read written status

-- So much is owed where it is owed of made runs.
abbrev pub MadeReplaysArePromised : {D : Type 0} → (D → Setting → Trace → Type 0) → Type 0
MadeReplaysArePromised stands =
    DaemonsDoWhatIsDue stands → DueIsLawful → (lang : Language) → AsksAreRead lang.program → HeadersAreGood lang → IsDigest lang.program.digest
    → (ended : Bool) (read written : List ℕ) (status : ℕ) → ReplayOwed (λ p h xs. MadeRun stands p h xs) lang ended read written status
    → IsPromised lang ended read written status

abbrev pub MadeReportsArePromised : {D : Type 0} → (D → Setting → Trace → Type 0) → Type 0
MadeReportsArePromised stands =
    DaemonsDoWhatIsDue stands → DueIsLawful → (lang : Language) → AsksAreRead lang.program → HeadersAreGood lang → IsDigest lang.program.digest
    → (source written : List ℕ) (status : ℕ) → ReplayOf (λ p h xs. MadeRun stands p h xs) lang source written status → ReplayOf PromisedRun lang source written status
