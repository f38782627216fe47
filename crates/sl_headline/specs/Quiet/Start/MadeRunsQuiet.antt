-- Quiet acquires of runs that are made of daemons of one kind.
use Rattle.sl_world_state.specs.Daemons.{Stood}
use Rattle.sl_due.specs.Due.{IsHostTrace}
use Rattle.sl_run.specs.Quiet.{QuietIsGranted}
use Rattle.sl_run.specs.Runs.{AfterEachFront, EachDaemon, Happening}
use Rattle.sl_run.specs.Safety.{LawfulRun, world_at}
use Rattle.sl_run.specs.Worlds.{Program, world_with}
use Rattle.sl_run.specs.declared.header.Header.{Header}
use Rattle.sl_trace.specs.Traces.{Setting, Trace}
use Rattle.std.specs.Prelude.{List}

-- Where such daemons do what is due, and one stood for each trace after each front of a lawful run, its quiet acquires are granted.
abbrev pub MadeRunsAreQuiet : {D : Type 0} → (D → Setting → Trace → Type 0) → Type 0
MadeRunsAreQuiet {D} stands =
    ((d : D) (st : Setting) (es : Trace) → stands d st es → IsHostTrace st es) → (p : Program) (h : Header) (xs : List Happening) → LawfulRun p h xs
    → AfterEachFront xs (λ now. EachDaemon (Stood stands) (world_at p h now)) → QuietIsGranted (world_with p h) xs
