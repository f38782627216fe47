-- What an event makes of the daemon that runs on a machine.
use Rattle.sl_run.specs.Inputs.{input_of, machine_of}
use Rattle.sl_run.specs.EventChanges.{with_entry}
use Rattle.sl_run.specs.Runs.{Happening}
use Rattle.sl_run.specs.Safety.{LawfulRun, world_at}
use Rattle.sl_run.specs.Worlds.{Daemon, Machine, Program, Stamp, World, machine_at, reading_now}
use Rattle.sl_run.specs.declared.event.Event.TheVariants.{Crash, Reset}
use Rattle.sl_run.specs.declared.header.Header.{Header}
use Rattle.sl_trace.specs.declared.effects.Effects.{Effects}
use Rattle.sl_trace.specs.declared.input.Input.{Input}
use Rattle.std.specs.Prelude.{Contains, List, None, Some, [], ℕ, ◌++◌, ◌∷◌, ◌≡◌, ◌⊎◌}

-- The daemon after the event: as it was, or with one more entry, at the reading that the machine now has.
pub data RunsOn (w : World) (x : Happening) (m : ℕ) (b : Machine) (d e : Daemon) : Type 0 where
  Rests : e ≡ d → (input_of w x.0 ≡ None) ⊎ (machine_of x.0 ≡ m → ⊥) → RunsOn w x m b d e
  Takes : (i : Input) (fx : Effects) (now : Stamp) → machine_of x.0 ≡ m → input_of w x.0 ≡ Some i → Contains x.1 fx
      → e ≡ with_entry (record { reading = reading_now b; input = i; effects = fx }) now d → RunsOn w x m b d e

-- The machine and its daemon after the event.
pub record RunsAfter (w v : World) (x : Happening) (m : ℕ) (d : Daemon) : Type 0 where
  pub machine : Machine
  pub daemon : Daemon
  pub at : machine_at v m ≡ Some machine
  pub runs : machine.daemon ≡ Some daemon
  pub how : RunsOn w x m machine d daemon

-- A daemon that neither crashes nor is reset runs on.
abbrev pub DaemonsRunOn : Type 0
DaemonsRunOn =
    (p : Program) (h : Header) (now : List Happening) (x : Happening) → LawfulRun p h (now ++ x ∷ []) → (m : ℕ) (a : Machine) (d : Daemon) → machine_at (world_at p h now) m ≡ Some a → a.daemon ≡ Some d
    → (x.0 ≡ Crash m → ⊥) → (x.0 ≡ Reset m → ⊥) → RunsAfter (world_at p h now) (world_at p h (now ++ x ∷ [])) x m d
