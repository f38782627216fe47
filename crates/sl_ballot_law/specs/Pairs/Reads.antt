-- What a read gives of a pair. Its sectors are sampled in rising order, each at a moment of its own; where some host's second sector is
-- torn in the answer, the same read is made once more.
use Rattle.sl_ballot_law.specs.Pairs.State.{State, Stored, current, later}
use Rattle.std.specs.Prelude.{None, Option, Some, ℕ, ◌≡◌, ◌≤◌}

-- What one answer gives: the first sector, and then the second.
abbrev pub given_once : (ℕ → State) → ℕ → ℕ → Option Stored
given_once r a b = later (r a).front (r b).back

-- What two answers give: where the second sector was valid in the first answer, the block of greatest turn of both, of two with one turn
-- that of the second answer; else that of the second answer alone.
abbrev pub merged : Option Stored → Option Stored → Option Stored → Option Stored → Option Stored
merged a b c d = elim b [ None ↦ later c d | Some x ↦ later (later a (Some x)) (later c d) ]

abbrev pub given_twice : (ℕ → State) → ℕ → ℕ → ℕ → ℕ → Option Stored
given_twice r a b c d = merged (r a).front (r b).back (r c).front (r d).back

-- This was the pair's block at some moment from a to b.
pub record Stood (r : ℕ → State) (x : Stored) (a b : ℕ) : Type 0 where
  pub moment : ℕ
  pub since : a ≤ moment
  pub until : moment ≤ b
  pub stood : current (r moment) ≡ Some x
