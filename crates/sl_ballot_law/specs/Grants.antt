-- What is asked of what sessions are granted: exclusive and shared holdings of the resource.
use Rattle.sl_ballot_law.specs.Ballots.{BallotEnded, LeaderSubmitted}
use Rattle.sl_ballot_law.specs.History.{History, Owner}
use Rattle.std.specs.Prelude.{Bool, Some, false, true, ℕ, ◌≡◌, ◌≤◌}

-- What was granted, by the step of the grant; a holding stands at a step where it stands after all that the step does.
pub record Grants : Type 0 where
  -- exclusive was granted at this step: to whom, under which instance, and by which read of the blocks; and whether the holding
  -- stands at a step
  pub exclusive : ℕ → Bool
  pub holder : ℕ → Owner
  pub instance : ℕ → ℕ
  pub look : ℕ → ℕ
  pub holds : ℕ → ℕ → Bool
  -- shared was granted at this step to a session that did not hold shared: to whom, under which instance that it had won, and the step
  -- of its mark, the block that tells of it; and whether the session has held shared from this step to another
  pub shared : ℕ → Bool
  pub sharer : ℕ → Owner
  pub won : ℕ → ℕ
  pub mark : ℕ → ℕ
  pub shares : ℕ → ℕ → Bool

-- The holder won the instance and did not free it before; and it looked at the blocks, and saw no mark of another host but of sessions
-- known to be over by the grant.
pub record ExclusiveGranted (h : History) (x : Grants) (g : ℕ) : Type 0 where
  pub ballot : BallotEnded h (x.holder g) (x.instance g) (x.holder g) g
  pub reads : h.reads (x.look g) ≡ true
  pub answer : h.answer (x.look g) ≤ g
  -- a torn block may hide a mark
  pub whole : (k : ℕ) → (k ≡ (x.holder g).id → ⊥) → h.shows (x.look g) k ≡ true
  pub alone : (k : ℕ) → (k ≡ (x.holder g).id → ⊥) → (h.block (h.shown (x.look g) k)).shared ≡ true
      → (t : ℕ) × (t ≤ g) × (h.evidence (x.holder g) (record { id = k; generation = (h.block (h.shown (x.look g) k)).mode_gen }) t ≡ true)
  -- whoever saw the free may have begun the next instance
  pub unfreed : LeaderSubmitted h (x.instance g) (x.holder g) false g → ⊥

-- The session won the instance, and its mark was answered ok; from the mark on, as long as it holds shared, its blocks are marks.
pub record SharedGranted (h : History) (x : Grants) (g : ℕ) : Type 0 where
  pub ballot : BallotEnded h (x.sharer g) (x.won g) (x.sharer g) g
  pub writes : h.writes (x.mark g) ≡ true
  pub writer : h.writer (x.mark g) ≡ x.sharer g
  pub ack : ℕ
  pub acked : h.ok (x.mark g) ≡ Some ack
  -- a block without the mark would hide the holding
  pub mode : (t e : ℕ) → x.shares g t ≡ true → x.mark g ≤ e → e ≤ t → h.writes e ≡ true → h.writer e ≡ x.sharer g
      → ((h.block e).shared ≡ true) × ((h.block e).mode_gen ≡ (x.sharer g).generation)

-- How each grant comes about, and how holdings stand.
pub record KeepsGrants (h : History) (x : Grants) : Type 0 where
  pub exclusive : (g : ℕ) → x.exclusive g ≡ true → ExclusiveGranted h x g
  pub shared : (g : ℕ) → x.shared g ≡ true → SharedGranted h x g
  -- a holding stands from its grant on without a gap, and a session that is over has none
  pub holds : (g t : ℕ) → x.holds g t ≡ true → (x.exclusive g ≡ true) × (g ≤ t) × (h.over (x.holder g) t ≡ true → ⊥)
  pub whole : (g t u : ℕ) → x.holds g t ≡ true → g ≤ u → u ≤ t → x.holds g u ≡ true
  pub shares : (g t : ℕ) → x.shares g t ≡ true → (x.shared g ≡ true) × (g ≤ t) × (h.over (x.sharer g) t ≡ true → ⊥)
  -- no session frees an instance under which it holds exclusive
  pub unheld : (l g : ℕ) → h.leads l ≡ true → (h.leader l).held ≡ false → (h.leader l).owner ≡ x.holder g → (h.leader l).lver ≡ x.instance g
      → x.holds g l ≡ true → ⊥

-- The look was submitted after the instance had begun: from then on each mark under a lower instance is there to be seen. (A host looks
-- after its own phase 1 of the instance was answered, which is later.)
abbrev pub LooksAfterBegun : History → Grants → Type 0
LooksAfterBegun h x = (g : ℕ) → x.exclusive g ≡ true → (e : ℕ) × (h.writes e ≡ true) × ((h.block e).lver ≡ x.instance g) × (e ≤ x.look g)

-- A session frees the instance that it won for a shared holding only after its mark was answered: whoever sees the free may go past
-- the instance, and must see the mark too.
abbrev pub FreesAfterMark : History → Grants → Type 0
FreesAfterMark h x = (g l a : ℕ) → x.shared g ≡ true → h.leads l ≡ true → (h.leader l).owner ≡ x.sharer g → (h.leader l).lver ≡ x.won g
    → (h.leader l).held ≡ false → h.ok (x.mark g) ≡ Some a → a ≤ l

-- All that the holdings rest on, beside the order of instances.
pub record IsGranted (h : History) (x : Grants) : Type 0 where
  pub rules : KeepsGrants h x
  pub looks : LooksAfterBegun h x
  pub marks : FreesAfterMark h x

-- An exclusive grant stands at step t: its session is not over and has not freed the instance. (It outlives the holding, up to the free.)
pub record IsActive (h : History) (x : Grants) (g t : ℕ) : Type 0 where
  pub granted : x.exclusive g ≡ true
  pub since : g ≤ t
  pub alive : h.over (x.holder g) t ≡ true → ⊥
  pub kept : LeaderSubmitted h (x.instance g) (x.holder g) false t → ⊥
