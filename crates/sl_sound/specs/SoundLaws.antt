-- What is promised of made runs, once daemons do what is due, and what is due is lawful.
use Rattle.sl_due.specs.Due.{IsHostTrace}
use Rattle.sl_report.specs.OwedReports.{HeadersAreGood, ReplayOwed, SoundRun}
use Rattle.sl_report.specs.Host.{DueIsLawful}
use Rattle.sl_report.specs.Languages.{Language}
use Rattle.sl_report.specs.Reports.{no_counts, run_counts}
use Rattle.sl_run.specs.Headers.{IsHeader}
use Rattle.sl_run.specs.Runs.{Happening, IsRun}
use Rattle.sl_run.specs.Safety.{SafeRun}
use Rattle.sl_run.specs.Worlds.{Program, world_with}
use Rattle.sl_run.specs.declared.header.Header.{Header}
use Rattle.sl_sector.specs.SectorLayouts.{IsDigest}
use Rattle.sl_sound.specs.MadeRuns.{MadeRun, ServedRun}
use Rattle.sl_trace.specs.Traces.{Setting, Trace}
use Rattle.std.specs.Prelude.{Bool, List, ℕ, ◌≡◌}

-- ---- counts

-- The holdings after a grant within a step are among those after the step. So where none conflict after any event, no grant is counted as one
-- that leaves a conflict.
abbrev pub SafeRunsCountNone : Type 0
SafeRunsCountNone =
    (p : Program) (h : Header) (xs : List Happening) → IsRun (world_with p h) xs → SafeRun p h xs → (run_counts (world_with p h) no_counts xs).conflicts ≡ 0

-- ---- soundness: where what is due is lawful, caused, and leaves no job idle

-- Each trace that such a daemon stands for is one of a host that does what is due.
abbrev pub DaemonsDoWhatIsDue : {D : Type 0} → (D → Setting → Trace → Type 0) → Type 0
DaemonsDoWhatIsDue {D} stands = (d : D) (st : Setting) (es : Trace) → stands d st es → IsHostTrace st es

abbrev pub MadeRunsAreSound : {D : Type 0} → (D → Setting → Trace → Type 0) → Type 0
MadeRunsAreSound stands =
    DaemonsDoWhatIsDue stands → DueIsLawful → (p : Program) (h : Header) (xs : List Happening) → IsHeader h → IsDigest p.digest → MadeRun stands p h xs → SoundRun p h xs

-- A sound run is a lawful one, so all that is shown of lawful runs is true of it.
abbrev pub SoundRunsAreServed : Type 0
SoundRunsAreServed = (p : Program) (h : Header) (xs : List Happening) → IsHeader h → IsDigest p.digest → SoundRun p h xs → ServedRun p h xs

-- ---- what is owed

-- So what is owed for bytes read and written of which a made run is promised, is owed of a sound one.
abbrev pub MadeReplaysAreSound : {D : Type 0} → (D → Setting → Trace → Type 0) → Type 0
MadeReplaysAreSound stands =
    DaemonsDoWhatIsDue stands → DueIsLawful → (lang : Language) → HeadersAreGood lang → IsDigest lang.program.digest
    → (ended : Bool) (read written : List ℕ) (status : ℕ) → ReplayOwed (λ p h xs. MadeRun stands p h xs) lang ended read written status
    → ReplayOwed SoundRun lang ended read written status
