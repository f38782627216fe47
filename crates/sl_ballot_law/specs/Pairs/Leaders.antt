-- What the argument over ballots needs where a torn leader is taken for one that was never held. (`lver` 0 and free; the greatest instance
-- among the blocks is begun again.)
use Rattle.sl_ballot_law.specs.Ballots.{BallotEnded, BeginReason, IsLawful}
use Rattle.sl_ballot_law.specs.History.{History, Owner}
use Rattle.sl_ballot_law.specs.Instances.{KeepsInstances}
use Rattle.std.specs.Prelude.{true, ℕ, ◌<◌, ◌≡◌, ◌≤◌}

-- Whoever was shown a block of an instance may begin it, whatever he knows of a leader; and instance 1 may always be begun. So no reason
-- rests on a leader that was taken for another: the argument needs nothing new.
pub record ShownIsReason : Type 0 where
  pub shown : (h : History) → IsLawful h → (s : Owner) (r k e n : ℕ) → h.reads r ≡ true → h.shows r k ≡ true → h.answer r ≤ e
      → (h.block (h.shown r k)).lver ≡ n → 0 < n → BeginReason h s n e
  pub first : (h : History) (s : Owner) (e : ℕ) → BeginReason h s 1 e

-- Where the read was submitted after the lost leader was, it shows of its owner's host a block of that instance or a greater one: so the
-- greatest instance is not below it. (In a read that was submitted before, it may be: then what is begun is stopped by the next read.)
abbrev pub LeadersAreBelow : Type 0
LeadersAreBelow = (h : History) → IsLawful h → KeepsInstances h → (l r : ℕ) → h.leads l ≡ true → h.reads r ≡ true
    → h.shows r (h.leader l).owner.id ≡ true → l ≤ r → (h.leader l).lver ≤ (h.block (h.shown r (h.leader l).owner.id)).lver

-- The ballot that is run again ends, if it does, with the session that the lost leader named: it is that session's, or refuses while that
-- one is not over, or goes on to the next instance for which that one's end is a reason.
abbrev pub BallotsEndAgain : Type 0
BallotsEndAgain = (h : History) → IsLawful h → KeepsInstances h → (l : ℕ) → h.leads l ≡ true → (s v : Owner) (t : ℕ)
    → BallotEnded h s (h.leader l).lver v t → v ≡ (h.leader l).owner
