-- What is asked of leaders, and when an instance is closed.
use Rattle.sl_ballot_law.specs.Ballots.{BallotEnded, LeaderSubmitted}
use Rattle.sl_ballot_law.specs.History.{History, Owner}
use Rattle.sl_ballot_law.specs.Sessions.{EvidenceMeansOver}
use Rattle.std.specs.Prelude.{false, true, ℕ, ◌≡◌}

-- A leader is submitted by its owner, after an own ballot of the instance ended with itself.
abbrev pub LeadersHaveWon : History → Type 0
LeadersHaveWon h = (l : ℕ) → h.leads l ≡ true → BallotEnded h (h.leader l).owner (h.leader l).lver (h.leader l).owner l

-- All that the order of instances rests on, beside agreement.
pub record KeepsInstances (h : History) : Type 0 where
  pub leaders : LeadersHaveWon h
  pub evidence : EvidenceMeansOver h

-- By step t nobody holds under instance n any more, or ever will: a ballot of it ended with a session that is over, or its owner
-- freed it.
pub data IsClosed (h : History) (n t : ℕ) : Type 0 where
  No_instance : n ≡ 0 → IsClosed h n t
  Winner_over : (s v : Owner) → BallotEnded h s n v t → h.over v t ≡ true → IsClosed h n t
  Winner_freed : (v : Owner) → LeaderSubmitted h n v false t → IsClosed h n t
