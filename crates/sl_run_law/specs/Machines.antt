-- What is said of each machine of a world and of the same machine later.
use Rattle.sl_run.specs.Worlds.{Machine, World, machine_at}
use Rattle.std.specs.Prelude.{Some, ℕ, ◌≡◌}

-- Each machine is there later, and goes on so.
abbrev pub EachMachine : (ℕ → Machine → Machine → Type 0) → World → World → Type 0
EachMachine S w v = (m : ℕ) (a : Machine) → machine_at w m ≡ Some a → (b : Machine) × (machine_at v m ≡ Some b) × S m a b
