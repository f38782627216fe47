-- The register lemma of `sl_ballot_law`, where each host's block is kept in a pair.
use Rattle.sl_ballot_law.specs.Disk.{ShowsNewest, Wrote}
use Rattle.sl_ballot_law.specs.History.{History}
use Rattle.sl_ballot_law.specs.Pairs.Reads.{given_once, given_twice}
use Rattle.sl_ballot_law.specs.Pairs.State.{State, Stored}
use Rattle.sl_ballot_law.specs.Pairs.Steps.{IsRun}
use Rattle.std.specs.Prelude.{Some, true, ℕ, ◌+◌, ◌≡◌, ◌≤◌}

-- A read that was submitted by the moment `begun` gave the block of this write: by one answer whose second sector was whole, or by two.
pub data GivesOfPair (r : ℕ → State) (begun write : ℕ) : Type 0 where
  By_one : (a b : ℕ) → begun ≤ a → a ≤ b → (y : Stored) → (r b).back ≡ Some y → (x : Stored) → given_once r a b ≡ Some x → x.write ≡ write
      → GivesOfPair r begun write
  By_two : (a b c d : ℕ) → begun ≤ a → a ≤ b → b ≤ c → c ≤ d → (x : Stored) → given_twice r a b c d ≡ Some x → x.write ≡ write
      → GivesOfPair r begun write

-- What the reads of a history show is what they are given of pairs. A write's number is its step; the state after step t is that of the
-- moment 2t, since two steps of a pair may come at one step of the world. A read has the step of its first submission.
pub record IsReadFromPairs (h : History) : Type 0 where
  pub run : ℕ → ℕ → State
  pub runs : (k : ℕ) → IsRun (run k)
  -- a write that was answered ok by a step is no newer than the newest of its host
  pub ok : (k e a : ℕ) → Wrote h k e → h.ok e ≡ Some a → e ≤ (run k (a + a)).ok
  -- (of a host that wrote nothing nothing is asked)
  pub gives : (r k e : ℕ) → h.reads r ≡ true → h.shows r k ≡ true → Wrote h k e → GivesOfPair (run k) (r + r) (h.shown r k)

-- So they show the newest: with pairs, too, a read that is submitted after a block was answered ok shows that block or a later one.
abbrev pub PairsShowNewest : Type 0
PairsShowNewest = (h : History) → IsReadFromPairs h → ShowsNewest h
