-- What a lawful run promises of the history of each resource by itself: its blocks are registers, ballots go up, and their numbers are above 0.
-- (What it owes to the ids of its lockspace, and what it keeps of ballots, stands in crates above.)
use Rattle.sl_ballot_law.specs.Ballots.{GoesUp, NumbersArePositive}
use Rattle.sl_ballot_law.specs.Disk.{IsRegister}
use Rattle.sl_ballot_law.specs.History.{History}
use Rattle.sl_safety.specs.Resources.Histories.{history_in}
use Rattle.sl_safety.specs.Resources.SentCalls.{holder_of, is_joined_there}
use Rattle.sl_run.specs.Runs.{Happening}
use Rattle.sl_run.specs.Safety.{LawfulRun, SessionId, world_at}
use Rattle.sl_run.specs.Worlds.{Program, World}
use Rattle.sl_run.specs.declared.header.Header.{Header}
use Rattle.sl_run.specs.declared.header.ResourceLine.{ResourceLine}
use Rattle.sl_trace.specs.declared.effects.Spot.{Spot}
use Rattle.std.specs.Prelude.{Contains, IsTrue, List, ℕ, ◌≡◌}

-- The resource's area.
abbrev pub spot_of_line : ResourceLine → Spot
spot_of_line r = record { path = r.path; base = r.offset }

-- Its history.
abbrev pub history_of_line : Program → Header → List Happening → ResourceLine → History
history_of_line p h xs r = history_in p h xs (spot_of_line r) r.lockspace

-- What is said of the history of each resource, where joined sessions of its lockspace have different names for ballots: an interface of
-- the ids.
abbrev pub NamesDiffer : World → List ℕ → Type 0
NamesDiffer w lockspace = (i k : SessionId) → IsTrue (is_joined_there w lockspace i) → IsTrue (is_joined_there w lockspace k)
    → holder_of w i ≡ holder_of w k → i ≡ k

abbrev pub OfEachHistory : (Header → History → Type 0) → Type 0
OfEachHistory P = (p : Program) (h : Header) (xs : List Happening) (r : ResourceLine) → LawfulRun p h xs → Contains h.resources r
    → NamesDiffer (world_at p h xs) r.lockspace → P h (history_of_line p h xs r)

-- Its blocks are registers.
abbrev pub HistoriesAreRegisters : Type 0
HistoriesAreRegisters = OfEachHistory (λ h y. IsRegister y)

-- No ballot goes below the own block.
abbrev pub HistoriesGoUp : Type 0
HistoriesGoUp = OfEachHistory (λ h y. GoesUp y)

-- Numbers of ballots are above 0.
abbrev pub HistoriesNumberAbove : Type 0
HistoriesNumberAbove = OfEachHistory (λ h y. NumbersArePositive y)
