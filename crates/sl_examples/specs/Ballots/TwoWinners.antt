-- What two sessions that win one instance break: agreement.
use Rattle.sl_ballot_law.specs.Ballots.{BallotEnded}
use Rattle.sl_ballot_law.specs.History.{History, Owner}
use Rattle.std.specs.Prelude.{ℕ, ◌≡◌}

-- By step t ballots of instance n have ended with two sessions.
pub record TwoWin (h : History) (n t : ℕ) (s u : Owner) : Type 0 where
  pub first : BallotEnded h s n s t
  pub second : BallotEnded h u n u t
  pub apart : s ≡ u → ⊥
