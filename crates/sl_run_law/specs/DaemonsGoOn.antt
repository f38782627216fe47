-- How the daemons of a machine go on.
use Rattle.sl_run.specs.EventChanges.{happens}
use Rattle.sl_run.specs.Refusals.{may_happen}
use Rattle.sl_run.specs.Runs.{Happening, IsRun, world_after}
use Rattle.sl_run.specs.Worlds.{Daemon, Machine, World, daemons_on}
use Rattle.sl_run.specs.declared.event.Event.{Event}
use Rattle.sl_run_law.specs.CoursesGoOn.{ListGoes}
use Rattle.sl_run_law.specs.WorldsGoOn.{Grown}
use Rattle.sl_run_law.specs.Machines.{EachMachine}
use Rattle.sl_trace.specs.declared.effects.Effects.{Effects}
use Rattle.std.specs.Prelude.{IsTrue, List, None, false, ℕ, ◌≡◌}

-- A machine that is down, or where none ran since its restart, has no daemon.
pub record IsSettled (a : Machine) : Type 0 where
  pub down : a.up ≡ false → a.daemon ≡ None
  pub unused : a.used ≡ false → a.daemon ≡ None

-- A daemon later: its trace grows in front.
pub record DaemonGoes (d e : Daemon) : Type 0 where
  pub number : e.number ≡ d.number
  pub setting : e.setting ≡ d.setting
  pub begun : e.begun ≡ d.begun
  pub trace : Grown d.trace e.trace
  pub stamps : Grown d.stamps e.stamps

-- A machine later: each of its daemons is there in its place, and newer ones stand in front.
pub record Hosts (a b : Machine) : Type 0 where
  pub settled : IsSettled b
  pub daemons : ListGoes DaemonGoes (daemons_on a) (daemons_on b)

abbrev pub HostsIfSettled : ℕ → Machine → Machine → Type 0
HostsIfSettled m a b = IsSettled a → Hosts a b

-- An event that may happen loses no daemon.
abbrev pub DaemonsGoOn : Type 0
DaemonsGoOn = (w : World) (e : Event) (fxs : List Effects) → IsTrue (may_happen w e) → EachMachine HostsIfSettled w (happens w e fxs)

-- Nor does a run.
abbrev pub DaemonsGoOnInRuns : Type 0
DaemonsGoOnInRuns = (w : World) (xs : List Happening) → IsRun w xs → EachMachine HostsIfSettled w (world_after w xs)
