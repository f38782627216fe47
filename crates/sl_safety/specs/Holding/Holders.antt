-- Whose the holdings of a world are, and whose what lingers is.
use Rattle.sl_run_law.specs.Course.Mirrors.{since_restart}
use Rattle.sl_run.specs.Conflicts.{Holding, conflicts, world_uses}
use Rattle.sl_run.specs.Runs.{Happening}
use Rattle.sl_run.specs.Safety.{Found, HasJoined, IsSession, LawfulRun, SessionId, is_over, trace_of, world_at}
use Rattle.sl_run.specs.Worlds.{Daemon, Lingering, Machine, Program, Stamp, World, machine_at, resets_after}
use Rattle.sl_run.specs.declared.header.Header.{Header}
use Rattle.sl_trace.specs.Sessions.{holdings_of}
use Rattle.sl_trace.specs.Traces.{holdings, orphan_of}
use Rattle.sl_trace.specs.declared.effects.Grant.{Grant}
use Rattle.std.specs.Prelude.{Contains, IsFalse, List, Some, false, ℕ, ◌≡◌, ◌≤◌, ◌⊎◌}

-- ---- what lingers on a machine

-- What a machine keeps of a reset was held by a daemon that has ended: its trace still has it, or what it is the orphan of. That reset came
-- since the daemon began, and none of those since then came before it.
pub record LeftBy (w : World) (a : Machine) (l : Lingering) : Type 0 where
  pub daemon : Daemon
  pub ended : Contains a.ended daemon
  pub before : Grant
  pub held : Contains (holdings daemon.trace) before
  pub follows : (l.held ≡ before) ⊎ (l.held ≡ orphan_of before)
  pub reset : Stamp
  pub since : Contains (resets_after a daemon.begun.step) reset
  pub kept : reset.moment ≡ l.reset
  pub first : (r : Stamp) → Contains (resets_after a daemon.begun.step) r → l.reset ≤ r.moment
  pub past : l.reset ≤ w.moment

abbrev pub LingeringIsLeft : Type 0
LingeringIsLeft = (p : Program) (h : Header) (xs : List Happening) → LawfulRun p h xs → (m : ℕ) (a : Machine) → machine_at (world_at p h xs) m ≡ Some a
    → (l : Lingering) → Contains a.lingering l → LeftBy (world_at p h xs) a l

-- ---- of each use its session

-- A use is of a joined session of its machine, which is not over, and whose trace has it.
pub record HeldBy (w : World) (x : Holding) : Type 0 where
  pub session : SessionId
  pub found : Found
  pub is : IsSession w session found
  pub machine : session.machine ≡ x.machine
  -- of a holding that stands, its daemon is the machine's since the last restart; it may have ended, since processes outlive it
  pub running : x.lingers ≡ false → since_restart found.machine ≡ Some found.daemon
  pub stands : Contains (holdings_of (trace_of found) found.session) x.held
  pub joined : HasJoined found
  pub alive : IsFalse (is_over session found)

-- The same, of no process.
abbrev pub orphaned : Holding → Holding
orphaned x = record x { held = orphan_of x.held }

-- What the use is: one of a session, or the orphan of one, whose process exited when its daemon had ended.
pub record RestsOn (w : World) (x : Holding) : Type 0 where
  pub before : Holding
  pub held : HeldBy w before
  pub follows : (x ≡ before) ⊎ (x ≡ orphaned before)

abbrev pub UsesAreHeld : Type 0
UsesAreHeld = (p : Program) (h : Header) (xs : List Happening) → LawfulRun p h xs → (x : Holding) → Contains (world_uses (world_at p h xs)) x
    → RestsOn (world_at p h xs) x

-- Uses of one machine don't conflict: what stands is of one daemon, and what lingers conflicts with nothing of its own machine.
abbrev pub OneMachineAgrees : Type 0
OneMachineAgrees = (p : Program) (h : Header) (xs : List Happening) → LawfulRun p h xs → (x y : Holding) → Contains (world_uses (world_at p h xs)) x
    → Contains (world_uses (world_at p h xs)) y → x.machine ≡ y.machine → IsFalse (conflicts x y)
