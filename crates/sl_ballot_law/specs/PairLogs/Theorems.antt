-- What is proved of logs: they are runs of a pair, whose states stand for them; so what is read of the two sectors is a register.
use Rattle.sl_ballot_law.specs.PairLogs.Logs.{IsLog, Log, SectorAt}
use Rattle.sl_ballot_law.specs.PairLogs.Stands.{Stands}
use Rattle.sl_ballot_law.specs.PairLogs.States.{between_of, state_of}
use Rattle.sl_ballot_law.specs.Pairs.Reads.{merged}
use Rattle.sl_ballot_law.specs.Pairs.State.{Stored, later}
use Rattle.sl_ballot_law.specs.Pairs.Steps.{IsRunOfTwo}
use Rattle.std.specs.Prelude.{Option, Some, false, true, ℕ, ◌≡◌, ◌≤◌, ◌⊎◌}

-- Each log gives a run, whatever it tells.
abbrev pub LogsAreRuns : Type 0
LogsAreRuns = (g : Log) → IsRunOfTwo (state_of g) (between_of g)

-- Where it keeps what is asked, its states stand for it.
abbrev pub LogsStand : Type 0
LogsStand = (g : Log) → IsLog g → (t : ℕ) → Stands g t t (state_of g t)

-- ---- reads

-- A read between two steps gives this block of the pair: by one answer whose second sector is whole, or by two.
pub data ReadsPair (g : Log) (begun ended : ℕ) (x : Stored) : Type 0 where
  Read_once : (a b : ℕ) → begun ≤ a → a ≤ b → b ≤ ended → (front : Option Stored) (back : Stored) → SectorAt g true a front → SectorAt g false b (Some back)
      → later front (Some back) ≡ Some x → ReadsPair g begun ended x
  Read_twice : (a b c d : ℕ) → begun ≤ a → a ≤ b → b ≤ c → c ≤ d → d ≤ ended → (o p q r : Option Stored) → SectorAt g true a o → SectorAt g false b p
      → SectorAt g true c q → SectorAt g false d r → merged o p q r ≡ Some x → ReadsPair g begun ended x

-- The block was submitted, or stood at first; it came before the end, and is no older than what had been answered ok at the beginning.
pub record IsRegisterOf (g : Log) (begun ended : ℕ) (x : Stored) : Type 0 where
  pub submitted : (x.write ≡ 0) ⊎ (g.writes x.write ≡ true)
  pub earlier : x.write ≤ ended
  pub newest : (e a : ℕ) → g.writes e ≡ true → g.done e ≡ true → g.answered e ≡ Some a → a ≤ begun → e ≤ x.write

abbrev pub ReadsAreRegisters : Type 0
ReadsAreRegisters = (g : Log) → IsLog g → (begun ended : ℕ) (x : Stored) → ReadsPair g begun ended x → IsRegisterOf g begun ended x

-- What stands in the pair after a step is a block, and such a one.
pub record HasBlockOf (g : Log) (t : ℕ) (front back : Option Stored) : Type 0 where
  pub block : Stored
  pub stands : later front back ≡ Some block
  pub is : IsRegisterOf g t t block

abbrev pub PairsHaveBlocks : Type 0
PairsHaveBlocks = (g : Log) → IsLog g → (t : ℕ) (front back : Option Stored) → SectorAt g true t front → SectorAt g false t back → HasBlockOf g t front back
