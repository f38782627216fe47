-- How the fates of calls go on.
use Rattle.sl_run.specs.EventChanges.{happens}
use Rattle.sl_run.specs.Refusals.{may_happen}
use Rattle.sl_run.specs.Runs.{Happening, IsRun, world_after}
use Rattle.sl_run.specs.Worlds.{Course, Machine, World, is_in_flight, machine_at}
use Rattle.sl_run.specs.declared.event.Event.{Event}
use Rattle.sl_run_law.specs.CoursesGoOn.{Tracks}
use Rattle.sl_run_law.specs.Machines.{EachMachine}
use Rattle.sl_trace.specs.declared.effects.Effects.{Effects}
use Rattle.std.specs.Prelude.{IsTrue, List, Some, false, true, [], ℕ, ◌==◌, ◌∷◌, ◌≡◌}

-- Each of them.
abbrev pub Every : {A : Type 0} → (A → Type 0) → List A → Type 0
Every P [] = Unit {0}
Every P (c ∷ cs) = P c × Every P cs

-- No two calls have the same number.
abbrev pub AreDistinct : List Course → Type 0
AreDistinct [] = Unit {0}
AreDistinct (c ∷ cs) = Every (λ d. (d.call.number == c.call.number) ≡ true → ⊥) cs × AreDistinct cs

-- So it is on each machine. (Hosts that number their calls keep it so.).
abbrev pub EachDistinct : World → Type 0
EachDistinct w = (m : ℕ) (a : Machine) → machine_at w m ≡ Some a → AreDistinct a.calls

-- .. before each event of a run.
abbrev pub DistinctAlong : World → List Happening → Type 0
DistinctAlong w [] = Unit {0}
DistinctAlong w (x ∷ xs) = EachDistinct w × DistinctAlong (happens w x.0 x.1) xs

-- What has landed, was torn or was dropped stays so.
pub record KeepsFate (c d : Course) : Type 0 where
  pub fate : is_in_flight c.fate ≡ false → d.fate ≡ c.fate

abbrev pub FatesStay : Type 0
FatesStay =
    (w : World) (e : Event) (fxs : List Effects) → EachDistinct w → IsTrue (may_happen w e) → EachMachine (λ m. Tracks KeepsFate) w (happens w e fxs)

abbrev pub FatesStayInRuns : Type 0
FatesStayInRuns = (w : World) (xs : List Happening) → DistinctAlong w xs → IsRun w xs → EachMachine (λ m. Tracks KeepsFate) w (world_after w xs)
