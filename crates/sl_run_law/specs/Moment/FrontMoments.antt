-- A front of a run beside the whole run: what is kept later was kept at the front, or is of later.
use Rattle.sl_ids.specs.Clocks.Points.{Precedes}
use Rattle.sl_run_law.specs.Moment.MomentsFollowSteps.{IsKept, point_now, point_of, stamps_on}
use Rattle.sl_run.specs.Runs.{Happening}
use Rattle.sl_run.specs.Safety.{LawfulRun, world_at}
use Rattle.sl_run.specs.Worlds.{Machine, Program, Stamp, World, machine_at}
use Rattle.sl_run.specs.declared.header.Header.{Header}
use Rattle.std.specs.Prelude.{Contains, List, Some, ℕ, ◌++◌, ◌≡◌, ◌≤◌, ◌⊎◌}

-- A machine, and the same machine later: its clock goes on, and its stamps are old, or of later.
pub record WasSince (rho : ℕ) (w v : World) (m : ℕ) (b : Machine) : Type 0 where
  pub machine : Machine
  pub at : machine_at w m ≡ Some machine
  pub goes : Precedes rho (point_now w machine) (point_now v b)
  pub stamps : (s : Stamp) → Contains (stamps_on b) s
      → Contains (stamps_on machine) s ⊎ ((w.step ≤ s.step) × Precedes rho (point_now w machine) (point_of s))

-- A world, and one of the same run later.
pub record IsSince (rho : ℕ) (w v : World) : Type 0 where
  pub step : w.step ≤ v.step
  pub moment : w.moment ≤ v.moment
  -- what is kept later was kept before, or is of later
  pub kept : (s m : ℕ) → IsKept v s m → IsKept w s m ⊎ ((w.step ≤ s) × (w.moment ≤ m))
  pub machines : (m : ℕ) (b : Machine) → machine_at v m ≡ Some b → WasSince rho w v m b

-- What is said of each front of a lawful run.
abbrev pub OfEachFront : (Header → World → World → Type 0) → Type 0
OfEachFront P = (p : Program) (h : Header) (now rest : List Happening) → LawfulRun p h (now ++ rest) → P h (world_at p h now) (world_at p h (now ++ rest))

-- So it is from each front on.
abbrev pub FrontsGoOn : Type 0
FrontsGoOn = OfEachFront (λ h. IsSince h.timing.rho)

-- Moments follow steps also between what was kept at a front and what is kept later.
abbrev pub MomentsFollowFronts : Type 0
MomentsFollowFronts = OfEachFront (λ h w v. (s t m n : ℕ) → IsKept w s m → IsKept v t n → (s ≤ t → m ≤ n) × (t ≤ s → n ≤ m))

-- .. and clocks drift between a stamp that a machine had at a front, and one that it has later.
abbrev pub StampsDriftFromFronts : Type 0
StampsDriftFromFronts =
    OfEachFront (λ h w v. (m : ℕ) (a b : Machine) (s t : Stamp) → machine_at w m ≡ Some a → machine_at v m ≡ Some b → Contains (stamps_on a) s
    → Contains (stamps_on b) t
    → (s.step ≤ t.step → Precedes h.timing.rho (point_of s) (point_of t)) × (t.step ≤ s.step → Precedes h.timing.rho (point_of t) (point_of s)))
