-- A grant of a resource, with what stands behind it in the resource's history.
use Rattle.sl_ballot_law.specs.Ballots.{BallotEnded, LeaderSubmitted}
use Rattle.sl_ballot_law.specs.History.{History, Owner}
use Rattle.std.specs.Prelude.{Some, false, true, ℕ, ◌≡◌, ◌≤◌}

-- An exclusive grant: its step, to whom, under which instance, and by which read of the blocks.
pub record ExclusiveGrant : Type 0 where
  pub step : ℕ
  pub holder : Owner
  pub instance : ℕ
  pub look : ℕ

-- A shared grant to a session that did not hold shared before: its step, to whom, under which instance that it had won, and the step of
-- its mark.
pub record SharedGrant : Type 0 where
  pub step : ℕ
  pub holder : Owner
  pub won : ℕ
  pub mark : ℕ

-- The holder won the instance and had not freed it; it looked at the blocks after the instance had begun, and saw no mark of another host
-- but of sessions known to be over.
pub record IsGrantedExclusive (h : History) (a : ExclusiveGrant) : Type 0 where
  pub ballot : BallotEnded h a.holder a.instance a.holder a.step
  pub reads : h.reads a.look ≡ true
  pub answer : h.answer a.look ≤ a.step
  -- a torn block may hide a mark
  pub whole : (k : ℕ) → (k ≡ a.holder.id → ⊥) → h.shows a.look k ≡ true
  pub alone : (k : ℕ) → (k ≡ a.holder.id → ⊥) → (h.block (h.shown a.look k)).shared ≡ true
      → (t : ℕ) × (t ≤ a.step) × (h.evidence a.holder (record { id = k; generation = (h.block (h.shown a.look k)).mode_gen }) t ≡ true)
  -- whoever saw the free may have begun the next instance
  pub unfreed : LeaderSubmitted h a.instance a.holder false a.step → ⊥
  -- a look from before the instance could miss a mark
  pub begun : (e : ℕ) × (h.writes e ≡ true) × ((h.block e).lver ≡ a.instance) × (e ≤ a.look)

-- It stands at step t: its session is not over and has not freed the instance.
pub record IsKept (h : History) (a : ExclusiveGrant) (t : ℕ) : Type 0 where
  pub since : a.step ≤ t
  pub alive : h.over a.holder t ≡ true → ⊥
  pub unfreed : LeaderSubmitted h a.instance a.holder false t → ⊥

-- The session won the instance, its mark was answered ok, and it has held shared from the grant to step t without a gap.
pub record IsSharedTo (h : History) (s : SharedGrant) (t : ℕ) : Type 0 where
  pub since : s.step ≤ t
  pub ballot : BallotEnded h s.holder s.won s.holder s.step
  pub writes : h.writes s.mark ≡ true
  pub writer : h.writer s.mark ≡ s.holder
  pub ack : ℕ
  pub acked : h.ok s.mark ≡ Some ack
  -- a block without the mark would hide the holding
  pub mode : (e : ℕ) → s.mark ≤ e → e ≤ t → h.writes e ≡ true → h.writer e ≡ s.holder
      → ((h.block e).shared ≡ true) × ((h.block e).mode_gen ≡ s.holder.generation)
  -- whoever sees the free may go past the instance, and must see the mark too
  pub freed : (l : ℕ) → h.leads l ≡ true → (h.leader l).owner ≡ s.holder → (h.leader l).lver ≡ s.won → (h.leader l).held ≡ false → ack ≤ l
  pub alive : h.over s.holder t ≡ true → ⊥
