-- The header's world is one that these laws speak of.
use Rattle.sl_run.specs.Worlds.{Machine, Program, machine_at, world_with}
use Rattle.sl_run.specs.declared.header.Header.{Header}
use Rattle.sl_run_law.specs.ClocksDrift.{IsCounted}
use Rattle.sl_run_law.specs.DaemonsGoOn.{IsSettled}
use Rattle.std.specs.Prelude.{Some, [], ℕ, ◌≡◌}

-- A machine that has made no call yet.
pub record IsNew (a : Machine) : Type 0 where
  pub settled : IsSettled a
  pub calls : a.calls ≡ []

abbrev pub BeginsCounted : Type 0
BeginsCounted = (p : Program) (h : Header) → IsCounted (world_with p h)

abbrev pub BeginsNew : Type 0
BeginsNew = (p : Program) (h : Header) (m : ℕ) (a : Machine) → machine_at (world_with p h) m ≡ Some a → IsNew a
