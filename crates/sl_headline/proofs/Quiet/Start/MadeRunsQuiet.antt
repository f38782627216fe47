-- A daemon that stood for a trace was made as it should be.
use Rattle.sl_headline.proofs.Quiet.Start.QuietIsGranted.{quiet_acquires_are_granted}
use Rattle.sl_headline.specs.Quiet.Start.MadeRunsQuiet.{MadeRunsAreQuiet}
use Rattle.sl_trace.specs.Traces.{Setting, Trace}

pub made_runs_are_quiet : {D : Type 0} (stands : D → Setting → Trace → Type 0) → MadeRunsAreQuiet stands
made_runs_are_quiet {D} stands does p h xs run stood =
    quiet_acquires_are_granted p h xs run (λ front rest is d has. let s = stood front rest is d has in (s.setting, does s.daemon d.setting d.trace s.stood))
