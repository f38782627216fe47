-- The order of what a machine keeps, by the steps of the run: the entries of a daemon, its daemons, its resets and its calls.
use Rattle.sl_run_law.specs.Moment.Waits.{IsWait}
use Rattle.sl_run.specs.Runs.{Happening}
use Rattle.sl_run.specs.Safety.{LawfulRun, world_at}
use Rattle.sl_run.specs.Worlds.{Course, Daemon, Machine, Program, Sampling, Stamp, daemons_on, machine_at}
use Rattle.sl_run.specs.declared.header.Header.{Header}
use Rattle.std.specs.Prelude.{Contains, List, None, Option, Some, false, flat_map, length, true, [], ℕ, ◌++◌, ◌+◌, ◌<◌, ◌==◌, ◌∷◌, ◌≡◌, ◌≤◌}

-- These stamps, the newest first, are of steps that fall from below n.
abbrev pub Fall : ℕ → List Stamp → Type 0
Fall n [] = Unit {0}
Fall n (s ∷ ss) = (s.step < n) × Fall s.step ss

-- The stamps of a daemon, the newest first: of its entries, and of its beginning.
abbrev pub life_of : Daemon → List Stamp
life_of d = d.stamps ++ d.begun ∷ []

-- A call is sampled and answered after it was made.
pub record IsTimed (c : Course) : Type 0 where
  pub sampled : (s : Sampling) → Contains c.samples s → c.made.step < s.step
  pub answered : (s : Stamp) → c.answered ≡ Some s → c.made.step < s.step

-- These calls, the newest first, were made at steps that don't rise, below n; one entry may make several.
abbrev pub CallsFall : ℕ → List Course → Type 0
CallsFall n [] = Unit {0}
CallsFall n (c ∷ cs) = (c.made.step < n) × IsTimed c × CallsFall (c.made.step + 1) cs

-- What a machine keeps is in order, below step n: a daemon begins after all entries of those before it.
pub record IsInOrder (n : ℕ) (a : Machine) : Type 0 where
  pub daemons : Fall n (flat_map life_of (daemons_on a))
  pub resets : Fall n a.resets
  pub calls : CallsFall n a.calls

-- So it is on each machine.
abbrev pub MachinesAreInOrder : Type 0
MachinesAreInOrder = (p : Program) (h : Header) (xs : List Happening) → LawfulRun p h xs → (m : ℕ) (a : Machine)
    → machine_at (world_at p h xs) m ≡ Some a → IsInOrder (world_at p h xs).step a

-- The entries of a daemon come at later and later steps, after its beginning.
abbrev pub EntriesAreInOrder : Type 0
EntriesAreInOrder = (p : Program) (h : Header) (xs : List Happening) → LawfulRun p h xs → (m : ℕ) (a : Machine) (d : Daemon)
    → machine_at (world_at p h xs) m ≡ Some a → Contains (daemons_on a) d → Fall (world_at p h xs).step (life_of d)

-- The stamp of entry i, counted from 0 for the oldest, as traces count their entries; the newest stands first.
abbrev pub entry_stamp : List Stamp → ℕ → Option Stamp
entry_stamp [] i = None
entry_stamp (s ∷ ss) i = elim (i == length ss) [ true ↦ Some s | false ↦ entry_stamp ss i ]

-- So two entries of a daemon are a wait, from the earlier one.
abbrev pub EntriesAreWaits : Type 0
EntriesAreWaits = (p : Program) (h : Header) (xs : List Happening) → LawfulRun p h xs → (m : ℕ) (a : Machine) (d : Daemon)
    → machine_at (world_at p h xs) m ≡ Some a → Contains (daemons_on a) d → (i j : ℕ) (from to : Stamp) → entry_stamp d.stamps i ≡ Some from
    → entry_stamp d.stamps j ≡ Some to → i ≤ j → IsWait (world_at p h xs) m from to
