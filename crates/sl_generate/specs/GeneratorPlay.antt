-- A play while it draws, and what is owed of it.
use Rattle.sl_world_state.specs.Daemons.{program_of}
use Rattle.sl_generate.specs.Candidates.{first_allowed}
use Rattle.sl_generate.specs.DrawnRuns.{DrawsBack, IsDrawn}
use Rattle.sl_generate.specs.declared.generator.Generated.TheVariants.{Done, NoMemory, WriteFault}
use Rattle.sl_generate.specs.declared.generator.Generated.{Generated}
use Rattle.sl_world_state.specs.SaneWorlds.{ReadsCommands, WorldStands}
use Rattle.sl_play.specs.PlayIsOwed.{EachStood}
use Rattle.sl_play.specs.Plays.{HasHappened, PlayState, StaysAs}
use Rattle.sl_report.specs.GeneratedSchedules.{IsGenerated, gen_event, gen_header, gen_line}
use Rattle.sl_report.specs.OwedReports.{IsFrontOf, Promise}
use Rattle.sl_report.specs.Reports.{count_event, end_line, no_counts, run_counts}
use Rattle.sl_run.specs.EventChanges.{happens}
use Rattle.sl_run.specs.Refusals.{may_happen}
use Rattle.sl_run.specs.Headers.{IsHeader}
use Rattle.sl_run.specs.Runs.{Happening, HasSteps}
use Rattle.sl_run.specs.Worlds.{Program, World, world_with}
use Rattle.sl_run.specs.declared.event.Event.{Event}
use Rattle.sl_run.specs.declared.header.Header.{Header}
use Rattle.sl_sound.specs.MadeRuns.{MadeRun}
use Rattle.sl_text.specs.Forms.{Form, as_bytes}
use Rattle.sl_generate.specs.TimelyWorlds.{AreTimely}
use Rattle.sl_trace.specs.Traces.{Setting, Trace}
use Rattle.sl_trace.specs.declared.command.Command.{Command}
use Rattle.sl_trace.specs.declared.effects.Effects.{Effects}
use Rattle.sl_io.specs.FaultCauses.{Rose}
use Rattle.std.specs.Io.KnownBytes.{Appends}
use Rattle.std.specs.Prelude.{Bool, List, Option, length, true, [], ℕ, ◌+◌, ◌-◌, ◌∷◌, ◌≡◌}

-- ---- the header

-- A world may begin with the header for so many machines, and the commands of these daemons are then commands of its layout.
pub record MayGenerate (commands : Header → List (Form Command)) (hosts : ℕ) (paired : Bool) : Type 0 where
  pub header : IsHeader (gen_header hosts paired)
  pub reads : ReadsCommands commands (gen_header hosts paired)

-- ---- a world in which is drawn

-- The play stands for it, and time may stand still in it.
pub record DrawsIn {D : Type 0} (commands : Header → List (Form Command)) (stands : D → Setting → Trace → Type 0) (p : PlayState D) (w : World) : Type 0 where
  pub stands_for : WorldStands commands stands p.kept p.hosts w
  pub timely : AreTimely w

-- There is one.
pub record IsDrawing {D : Type 0} (commands : Header → List (Form Command)) (stands : D → Setting → Trace → Type 0) (p : PlayState D) : Type 0 where
  pub world : World
  pub draws : DrawsIn commands stands p world

-- ---- an event

-- The event has come to pass.
pub record HasTaken {D : Type 0} (commands : Header → List (Form Command)) (stands : D → Setting → Trace → Type 0) (w : World) (p : PlayState D) (e : Event) (n : PlayState D) : Type 0 where
  pub effects : Effects
  pub may : may_happen w e ≡ true
  pub steps : HasSteps w e (effects ∷ [])
  pub draws : DrawsIn commands stands n (happens w e (effects ∷ []))
  pub counts : n.counts ≡ count_event w e (effects ∷ []) p.counts

-- The first of these events that what is kept allows has: the play had stayed as it was until then.
pub record TakesFirst {D : Type 0} (commands : Header → List (Form Command)) (stands : D → Setting → Trace → Type 0) (p : PlayState D) (events : List Event) (n : PlayState D) : Type 0 where
  pub still : PlayState D
  pub same : StaysAs p still
  pub before : List ℕ
  pub after : List ℕ
  pub happened : HasHappened commands stands still (first_allowed commands p.kept events) before n after

-- The event that is drawn has.
abbrev pub TakesDrawn : {D : Type 0} → (Header → List (Form Command)) → (D → Setting → Trace → Type 0) → PlayState D → ℕ → ℕ → ℕ → ℕ → PlayState D → Type 0
TakesDrawn commands stands p a b c number n =
    (w : World) → DrawsIn commands stands p w → HasTaken commands stands w p (gen_event w w.header.machines a b c number) n

-- ---- one event after another

-- So many of all events have come to pass, and the play stands for a world with the same header.
pub record HasDrawn {D : Type 0} (commands : Header → List (Form Command)) (stands : D → Setting → Trace → Type 0) (w : World) (p : PlayState D) (seed events number x : ℕ)
    (n : PlayState D) : Type 0 where
  pub world : World
  pub draws : DrawsIn commands stands n world
  pub header : world.header ≡ w.header
  pub leads : DrawsBack (EachStood stands) w.header.machines events 1 w seed p.counts (events - number) (number + 1) world x n.counts

abbrev pub HaveDrawn : {D : Type 0} → (Header → List (Form Command)) → (D → Setting → Trace → Type 0) → PlayState D → ℕ → ℕ → ℕ → ℕ → PlayState D → Type 0
HaveDrawn commands stands p seed events number x n = (w : World) → DrawsIn commands stands p w → HasDrawn commands stands w p seed events number x n

-- All have.
abbrev pub DrawsAll : {D : Type 0} → (Header → List (Form Command)) → (D → Setting → Trace → Type 0) → PlayState D → ℕ → ℕ → PlayState D → Type 0
DrawsAll commands stands p seed events n =
    (w : World) → DrawsIn commands stands p w → IsDrawn (EachStood stands) w.header.machines events 1 w seed p.counts n.counts

-- ---- what is written

-- The run of the seed's schedule, of which so much is promised, and of which the last line is written.
pub record GeneratedOf (promised : Promise) (p : Program) (seed hosts events : ℕ) (paired : Bool) (written : List ℕ) : Type 0 where
  pub run : List Happening
  pub generated : IsGenerated 1 hosts (world_with p (gen_header hosts paired)) seed run
  pub counted : length run ≡ events
  pub promised_is : promised p (gen_header hosts paired) run
  pub printed : written ≡ as_bytes (gen_line seed hosts events paired ∷ end_line (run_counts (world_with p (gen_header hosts paired)) no_counts run) ∷ [])

-- Of runs made of daemons of this kind.
abbrev pub MadeOf : {D : Type 0} → (Header → List (Form Command)) → (D → Setting → Trace → Type 0) → ℕ → ℕ → ℕ → Bool → List ℕ → Type 0
MadeOf commands stands seed hosts events paired written = GeneratedOf (λ p h xs. MadeRun stands p h xs) (program_of commands) seed hosts events paired written

-- What is owed, by how it ended.
pub data Generates {D : Type 0} (commands : Header → List (Form Command)) (stands : D → Setting → Trace → Type 0) (seed hosts events : ℕ) (paired : Bool) (taken now : Option (List ℕ))
    (faults later : ℕ) : Generated → Type 0 where
  -- both lines are written
  All : (written : List ℕ) → Appends taken now written → MadeOf commands stands seed hosts events paired written → Generates commands stands seed hosts events paired taken now faults later Done
  -- a write failed, and a front of them is written
  Part : (written whole : List ℕ) → Appends taken now written → IsFrontOf written whole → MadeOf commands stands seed hosts events paired whole → Rose faults later
      → Generates commands stands seed hosts events paired taken now faults later WriteFault
  -- there was no memory, and nothing is written
  Nothing : Appends taken now [] → Generates commands stands seed hosts events paired taken now faults later NoMemory
