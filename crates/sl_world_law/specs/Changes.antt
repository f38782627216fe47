-- What an event changes before a daemon takes its step, in a world and in what is kept of it.
use Rattle.sl_world_state.specs.Changes.{first_kept}
use Rattle.sl_world_state.specs.KeptWorld.{KeptState}
use Rattle.sl_world_state.specs.SaneWorlds.{IsSane}
use Rattle.sl_world_state.specs.ShownWorlds.{Tells}
use Rattle.sl_run.specs.EventChanges.{first_change}
use Rattle.sl_run.specs.Refusals.{may_happen}
use Rattle.sl_run.specs.Worlds.{World}
use Rattle.sl_run.specs.declared.event.Event.TheVariants.{Crash, Pass, Reset, Restart, StartDaemon, Test}
use Rattle.sl_run.specs.declared.event.Event.{Event}
use Rattle.sl_run.specs.declared.header.Header.{Header}
use Rattle.sl_text.specs.Forms.{Form}
use Rattle.sl_trace.specs.declared.command.Command.{Command}
use Rattle.std.specs.Prelude.{List, Option, true, ℕ, ◌≡◌}

-- What an event changes first is kept.
abbrev pub IsKeptAt : KeptState → World → Event → Type 0
IsKeptAt k w e = Tells (first_kept e k) (first_change e w)

-- Time that passes, tests of the watchdog daemon, and machines that come up, whether they may or not.
pub record TimesAreKept : Type 0 where
  pub passes : (k : KeptState) (w : World) → Tells k w → (d : ℕ) (growths : Option (List ℕ)) → IsKeptAt k w (Pass d growths)
  pub tests : (k : KeptState) (w : World) → Tells k w → (m : ℕ) → IsKeptAt k w (Test m)
  pub restarts : (k : KeptState) (w : World) → Tells k w → (m : ℕ) → IsKeptAt k w (Restart m)

-- Daemons that begin and end, and machines that go down.
pub record LivesAreKept : Type 0 where
  pub starts : (commands : Header → List (Form Command)) (k : KeptState) (w : World) → Tells k w → IsSane commands w → (m : ℕ) (name : List ℕ)
      → may_happen w (StartDaemon m name) ≡ true → IsKeptAt k w (StartDaemon m name)
  pub crashes : (k : KeptState) (w : World) → Tells k w → (m : ℕ) → IsKeptAt k w (Crash m)
  pub resets : (commands : Header → List (Form Command)) (k : KeptState) (w : World) → Tells k w → IsSane commands w → (m : ℕ) → IsKeptAt k w (Reset m)
