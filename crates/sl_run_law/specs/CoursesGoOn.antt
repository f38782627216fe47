-- How the calls, the resets and the ended daemons of a machine go on.
use Rattle.sl_run.specs.EventChanges.{happens}
use Rattle.sl_run.specs.Runs.{Happening, world_after}
use Rattle.sl_run.specs.Worlds.{Course, Machine, World}
use Rattle.sl_run.specs.declared.event.Event.{Event}
use Rattle.sl_run_law.specs.WorldsGoOn.{Grown}
use Rattle.sl_run_law.specs.Machines.{EachMachine}
use Rattle.sl_trace.specs.declared.effects.Effects.{Effects}
use Rattle.std.specs.Prelude.{List, [], ◌++◌, ◌∷◌, ◌≡◌}

-- A list grows behind.
pub record Appended {A : Type 0} (before after : List A) : Type 0 where
  pub newer : List A
  pub same : after ≡ before ++ newer

-- A course later: the same call, and what it has sampled stays.
pub record Continues (c d : Course) : Type 0 where
  pub call : d.call ≡ c.call
  pub daemon : d.daemon ≡ c.daemon
  pub made : d.made ≡ c.made
  pub sampled : Appended c.sampled d.sampled
  pub samples : Appended c.samples d.samples

-- One after another.
abbrev pub Follow : {A : Type 0} → (A → A → Type 0) → List A → List A → Type 0
Follow C [] [] = Unit {0}
Follow C [] (d ∷ ds) = ⊥
Follow C (c ∷ cs) [] = ⊥
Follow C (c ∷ cs) (d ∷ ds) = C c d × Follow C cs ds

-- Each goes on in its place, and newer ones stand in front.
pub record ListGoes {A : Type 0} (C : A → A → Type 0) (before after : List A) : Type 0 where
  pub newer : List A
  pub older : List A
  pub same : after ≡ newer ++ older
  pub follow : Follow C before older

-- A machine later.
pub record Tracks (C : Course → Course → Type 0) (a b : Machine) : Type 0 where
  pub calls : ListGoes C a.calls b.calls
  pub resets : Grown a.resets b.resets
  pub ended : Grown a.ended b.ended

-- An event loses no call, no reset and no daemon that ended.
abbrev pub MachinesGoOn : Type 0
MachinesGoOn = (w : World) (e : Event) (fxs : List Effects) → EachMachine (λ m. Tracks Continues) w (happens w e fxs)

-- Nor does a run.
abbrev pub MachinesGoOnInRuns : Type 0
MachinesGoOnInRuns = (w : World) (xs : List Happening) → EachMachine (λ m. Tracks Continues) w (world_after w xs)
