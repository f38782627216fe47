-- When things happened. The steps of a run order them; moments follow the steps, and each machine's clock drifts within its bounds.
use Rattle.sl_ids.specs.Clocks.Points.{Point, Precedes}
use Rattle.sl_run.specs.Runs.{Happening}
use Rattle.sl_run.specs.Safety.{LawfulRun, world_at}
use Rattle.sl_run.specs.Worlds.{Course, Landing, Machine, Program, Sampling, Stamp, World, daemons_on, machine_at}
use Rattle.sl_run.specs.declared.header.Header.{Header}
use Rattle.std.specs.Prelude.{Contains, List, Some, filter_map, flat_map, map, ℕ, ◌++◌, ◌<◌, ◌∷◌, ◌≡◌, ◌≤◌}

-- A stamp as a point of its machine's clock.
abbrev pub point_of : Stamp → Point
point_of s = record { moment = s.moment; clock = s.clock }

-- Now, on a machine.
abbrev pub point_now : World → Machine → Point
point_now w a = record { moment = w.moment; clock = a.clock }

-- All stamps that a machine keeps.
abbrev pub stamps_on : Machine → List Stamp
stamps_on a =
    a.kept ∷ (a.resets ++ flat_map (λ d. d.begun ∷ d.stamps) (daemons_on a) ++ map (λ c. c.made) a.calls ++ filter_map (λ c. c.answered) a.calls)

-- Something that the world keeps with its step and its moment.
pub data IsKept (w : World) (step moment : ℕ) : Type 0 where
  Of_landing : (l : Landing) → Contains w.landings l → l.step ≡ step → l.moment ≡ moment → IsKept w step moment
  Of_stamp : (m : ℕ) (a : Machine) (s : Stamp) → machine_at w m ≡ Some a → Contains (stamps_on a) s → s.step ≡ step → s.moment ≡ moment
      → IsKept w step moment
  Of_sample : (m : ℕ) (a : Machine) (c : Course) (s : Sampling) → machine_at w m ≡ Some a → Contains a.calls c → Contains c.samples s → s.step ≡ step
      → s.moment ≡ moment → IsKept w step moment
  At_first : step ≡ 0 → moment ≡ 0 → IsKept w step moment

-- Of two things the one with the lesser step came first.
abbrev pub MomentsFollowSteps : Type 0
MomentsFollowSteps = (p : Program) (h : Header) (xs : List Happening) → LawfulRun p h xs → (s t m n : ℕ)
    → IsKept (world_at p h xs) s m → IsKept (world_at p h xs) t n → s ≤ t → m ≤ n

-- All that is kept is of the past.
abbrev pub KeptIsPast : Type 0
KeptIsPast = (p : Program) (h : Header) (xs : List Happening) → LawfulRun p h xs → (s m : ℕ) → IsKept (world_at p h xs) s m
    → (s < (world_at p h xs).step) × (m ≤ (world_at p h xs).moment)

-- Between two stamps of a machine its clock is neither too slow nor too fast.
abbrev pub StampsDrift : Type 0
StampsDrift = (p : Program) (h : Header) (xs : List Happening) → LawfulRun p h xs → (m : ℕ) (a : Machine) (s t : Stamp)
    → machine_at (world_at p h xs) m ≡ Some a → Contains (stamps_on a) s → Contains (stamps_on a) t → s.step ≤ t.step
    → Precedes h.timing.rho (point_of s) (point_of t)

-- Nor is it between a stamp and now.
abbrev pub StampsDriftToNow : Type 0
StampsDriftToNow = (p : Program) (h : Header) (xs : List Happening) → LawfulRun p h xs → (m : ℕ) (a : Machine) (s : Stamp)
    → machine_at (world_at p h xs) m ≡ Some a → Contains (stamps_on a) s → Precedes h.timing.rho (point_of s) (point_now (world_at p h xs) a)
