-- Runs made of daemons of one kind, and what is told of them.
use Rattle.sl_world_state.specs.Daemons.{Stood}
use Rattle.sl_report.specs.OwedReports.{SoundRun}
use Rattle.sl_run.specs.HeldOverTime.{IsHeldOn, StaysHeld}
use Rattle.sl_run.specs.Volumes.{VolumesAreExclusive}
use Rattle.sl_run.specs.Runs.{AfterEachFront, EachDaemon, Happening, IsRun}
use Rattle.sl_run.specs.Safety.{DeltaInvariant, LeaseInvariant, world_at}
use Rattle.sl_run.specs.Values.{ValuesAreLast}
use Rattle.sl_run.specs.Worlds.{Machine, Program, World, machine_at, world_with}
use Rattle.sl_run.specs.declared.header.Header.{Header}
use Rattle.sl_trace.specs.Traces.{Setting, Trace, held_by}
use Rattle.sl_trace.specs.declared.effects.Grant.{Grant}
use Rattle.std.specs.Prelude.{Contains, List, Some, length, ℕ, ◌++◌, ◌≡◌}

-- A run, in which at each moment a daemon of this kind stood for the trace of each daemon that had run till then. Nothing is said of what it
-- does.
pub record MadeRun {D : Type 0} (stands : D → Setting → Trace → Type 0) (p : Program) (h : Header) (xs : List Happening) : Type 0 where
  pub is_run : IsRun (world_with p h) xs
  pub stood : AfterEachFront xs (λ now. EachDaemon (Stood stands) (world_at p h now))

-- Each holding, or one that follows it, goes on from any moment of the run until it is let go: by a command that gives it up, a reset, a start
-- that failed, or an exit if it is not persistent.
abbrev pub HoldingsStay : Program → Header → List Happening → Type 0
HoldingsStay p h xs =
    (before rest : List Happening) → xs ≡ before ++ rest → (m : ℕ) (g : Grant) → IsHeldOn (world_at p h before) m g → StaysHeld (world_at p h before) rest m g

-- No process holds a place twice, and a machine has one orphan of a place at most.
abbrev pub HeldOnce : World → Type 0
HeldOnce w =
    (m : ℕ) (a : Machine) (g : Grant) → machine_at w m ≡ Some a → Contains a.holdings g → length (held_by a.holdings g.process g.path g.offset) ≡ 1

-- A run as it is served: it is sound; after every event both invariants hold, that of ids and time and that of blocks and leaders; each value
-- that a reader is given is the last that was answered ok before its answer, or a later one; no logical volume is active under one number of
-- its area on two machines, unless both share it; and holdings go on until they are let go, each process's of a place being one.
pub record ServedRun (p : Program) (h : Header) (xs : List Happening) : Type 0 where
  pub sound : SoundRun p h xs
  pub invariants : AfterEachFront xs (λ now. DeltaInvariant p h now × LeaseInvariant p h now)
  pub values : ValuesAreLast (world_at p h xs)
  pub volumes : AfterEachFront xs (λ now. VolumesAreExclusive (world_at p h now))
  pub stay : HoldingsStay p h xs
  pub once : AfterEachFront xs (λ now. HeldOnce (world_at p h now))
