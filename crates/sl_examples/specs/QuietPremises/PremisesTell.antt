-- For each premise a run in which an acquire has all others and is refused.
use Rattle.sl_examples.specs.CheapDigest.{cheap_program}
use Rattle.sl_examples.specs.QuietSchedules.{asked_area}
use Rattle.sl_examples.specs.QuietPremises.Premises.{GrantedUnder, Premises, PremisesSuffice}
use Rattle.sl_report.specs.DueRuns.{due_run}
use Rattle.sl_run.specs.EventChanges.{happens}
use Rattle.sl_run.specs.Runs.{Happening}
use Rattle.sl_run.specs.Safety.{LawfulRun}
use Rattle.sl_run.specs.declared.event.Event.TheVariants.{AnswerCall, Do, GiveCommand, Land, Pass, Sample, WakeUp}
use Rattle.sl_run.specs.declared.event.Event.{Event}
use Rattle.sl_trace.specs.Traces.{no_effects}
use Rattle.sl_trace.specs.declared.effects.Effects.{Effects}
use Rattle.sl_examples.specs.Witness.QuietRun.{exclusive_text, shared_text}
use Rattle.sl_examples.specs.Witness.Witness.{witness_header, witness_world}
use Rattle.std.specs.List.{range_with_len}
use Rattle.std.specs.Prelude.{List, None, codes, false, map, true, [], ◌++◌, ◌∷◌}

-- The third call of machine 1's acquire is answered after io.
abbrev pub late_events : List Event
late_events = GiveCommand 1 exclusive_text ∷ Do 1 1 ∷ Do 1 2 ∷ Pass 100 None ∷ Do 1 3 ∷ []

-- Machine 2 asks for the resource too: both read the area, then machine 2 writes its block.
abbrev pub rival_events : List Event
rival_events =
    GiveCommand 1 exclusive_text ∷ GiveCommand 2 (codes "acquire -r ls:r:/d:1048576 -p 9") ∷ Sample 1 1 4 ∷ Sample 2 1 4 ∷ AnswerCall 1 1 true
    ∷ AnswerCall 2 1 true ∷ Land 2 2 ∷ Do 1 2 ∷ Do 1 3 ∷ []

-- Machine 2 holds it shared.
abbrev pub sharing_events : List Event
sharing_events = GiveCommand 2 shared_text ∷ Do 2 1 ∷ Do 2 2 ∷ Do 2 3 ∷ Do 2 4 ∷ Do 2 5 ∷ Do 2 6 ∷ Do 2 7 ∷ Do 2 8 ∷ []

-- .. while machine 1 asks for it.
abbrev pub asking_events : List Event
asking_events = GiveCommand 1 exclusive_text ∷ Do 1 1 ∷ Do 1 2 ∷ Do 1 3 ∷ []

-- Machine 1 reads 256 other areas at once, each for an acquire: so many resources are counted until its session ends.
abbrev pub crowd : Effects
crowd = let fx : Effects = no_effects in record fx { calls = map asked_area (range_with_len 1 256) }

-- Then it asks for the resource, and does what is due. (A host asks for so many one after another; but its first step is lawful too.)
abbrev pub crowded_run : List Happening
crowded_run = (WakeUp 1, crowd ∷ []) ∷ due_run (happens witness_world (WakeUp 1) (crowd ∷ [])) (GiveCommand 1 exclusive_text ∷ [])

-- Under these premises the law fails in this run, which is lawful.
pub record FailsIn (asked : Premises) (xs : List Happening) : Type 0 where
  pub lawful : LawfulRun cheap_program witness_header xs
  pub fails : GrantedUnder asked witness_world xs → ⊥

-- .. and each daemon does what is due: so they do not suffice.
pub record AreTooFew (asked : Premises) (xs : List Happening) : Type 0 where
  pub in_run : FailsIn asked xs
  pub too_few : PremisesSuffice asked → ⊥

pub record PremisesTell : Type 0 where
  pub in_time : AreTooFew (record { in_time = false; sole_writer = true; modes_over = true; no_limit = true }) (due_run witness_world late_events)
  pub sole_writer : AreTooFew (record { in_time = true; sole_writer = false; modes_over = true; no_limit = true }) (due_run witness_world rival_events)
  pub modes_over : AreTooFew (record { in_time = true; sole_writer = true; modes_over = false; no_limit = true }) (due_run witness_world (sharing_events ++ asking_events))
  pub no_limit : FailsIn (record { in_time = true; sole_writer = true; modes_over = true; no_limit = false }) crowded_run
