-- What is proved of each run of a pair.
use Rattle.sl_ballot_law.specs.Pairs.Invariant.{Invariant, base_sector, other_sector}
use Rattle.sl_ballot_law.specs.Pairs.Reads.{Stood, given_once, given_twice}
use Rattle.sl_ballot_law.specs.Pairs.State.{State, Stored, current}
use Rattle.sl_ballot_law.specs.Pairs.Steps.{IsRun, IsRunOfTwo, Step, newest}
use Rattle.std.specs.Prelude.{None, Some, false, true, ℕ, ◌+◌, ◌≡◌, ◌≤◌}

-- ---- the pair at a moment

-- Each step keeps the invariant.
abbrev pub StepKeeps : Type 0
StepKeeps = (w v : State) → Invariant w → Step w v → Invariant v

-- At each moment the invariant holds.
abbrev pub InvariantHolds : Type 0
InvariantHolds = (r : ℕ → State) → IsRun r → (m : ℕ) → Invariant (r m)

-- The pair always has a block. It is no older than the newest that was answered ok, and it was submitted.
pub record HasBlock (w : State) : Type 0 where
  pub block : Stored
  pub stands : current w ≡ Some block
  pub newest : w.ok ≤ block.write
  pub written : block.write ≤ w.last

abbrev pub PairHasBlock : Type 0
PairHasBlock = (r : ℕ → State) → IsRun r → (m : ℕ) → HasBlock (r m)

-- How the pair's block changes in a step.
pub data BlockChange (w v : State) : Type 0 where
  -- not at all
  Unchanged : current v ≡ current w → BlockChange w v
  -- a write lands whole, and its block is the pair's from then on
  Replaced : w.flying ≡ true → current v ≡ Some (newest w) → BlockChange w v
  -- a write is torn over an earlier one of the same turn, which had landed whole and was not answered ok: the block of the known turn
  -- is the pair's again
  Fallen_back : w.flying ≡ true → (x : Stored) → other_sector w ≡ Some x → x.turn ≡ w.turn → w.ok ≤ x.write → current v ≡ base_sector w
      → BlockChange w v

abbrev pub BlockChanges : Type 0
BlockChanges = (w v : State) → Invariant w → Step w v → BlockChange w v

-- A run of two steps at a moment is a run, whose moment 2m is the moment m: so each theorem holds of it, with moments doubled.
abbrev pub RunsOfTwoAreRuns : Type 0
RunsOfTwoAreRuns = (r between : ℕ → State) → IsRunOfTwo r between → (fine : ℕ → State) × IsRun fine × ((m : ℕ) → fine (m + m) ≡ r m)

-- ---- reads

-- Where the second sector was valid, one answer is enough: it gives a block, which was the pair's at some moment between the two samples.
abbrev pub OnceIsRegister : Type 0
OnceIsRegister = (r : ℕ → State) → IsRun r → (a b : ℕ) → a ≤ b → (y : Stored) → (r b).back ≡ Some y
    → (x : Stored) × (given_once r a b ≡ Some x) × Stood r x a b

-- What two answers give was the pair's block at some moment between the first sample and the last.
abbrev pub TwiceIsRegister : Type 0
TwiceIsRegister = (r : ℕ → State) → IsRun r → (a b c d : ℕ) → a ≤ b → b ≤ c → c ≤ d → (x : Stored) → given_twice r a b c d ≡ Some x → Stood r x a d

-- So it is no older than the newest block that had been answered ok when the read was submitted, and it was submitted before the last
-- sample.
abbrev pub StoodIsNewest : Type 0
StoodIsNewest = (r : ℕ → State) → IsRun r → (x : Stored) → (a b : ℕ) → Stood r x a b → (begun ended : ℕ) → begun ≤ a → b ≤ ended
    → ((r begun).ok ≤ x.write) × (x.write ≤ (r ended).last)

-- Two answers give no block only where the second sector was torn in the first, and both were when the second sampled them.
abbrev pub NoneIsTorn : Type 0
NoneIsTorn = (r : ℕ → State) → (a b c d : ℕ) → given_twice r a b c d ≡ None → ((r b).back ≡ None) × ((r c).front ≡ None) × ((r d).back ≡ None)

-- What a session is shown of its own pair, where it reads while none of its writes is in flight, is what stands when the answer is used: nothing
-- is in flight from the moment c on, and nothing was submitted by the moment m.
abbrev pub OwnReadIsCurrent : Type 0
OwnReadIsCurrent = (r : ℕ → State) → IsRun r → (c a b m : ℕ) → c ≤ a → a ≤ b → b ≤ m → (r c).flying ≡ false → (r m).last ≡ (r c).last
    → given_once r a b ≡ current (r m)

-- Never where at the second answer's first sample nothing was in flight, and nothing was submitted until its second: so not for a session
-- that is over. Such an answer gives the block that stands.
abbrev pub QuietIsShown : Type 0
QuietIsShown = (r : ℕ → State) → IsRun r → (c d : ℕ) → c ≤ d → (r c).flying ≡ false → (r d).last ≡ (r c).last → given_once r c d ≡ current (r c)
