-- What is asked of the sessions. This is the interface to the argument over ids and time, and all that is used of it: of two joined
-- sessions of an id one is over, over is final, evidence means over, a generation names one session, and at a join all earlier ones
-- are over.
use Rattle.sl_ballot_law.specs.History.{History, Owner}
use Rattle.std.specs.Prelude.{Some, true, ℕ, ◌<◌, ◌≡◌, ◌≤◌}

-- Only joined sessions act; and what is over stays over, submits no block from then on, and no block of it is answered later.
pub record SessionsInOrder (h : History) : Type 0 where
  -- a session writes blocks, and submits reads that count, from when it joined
  pub writers : (e : ℕ) → h.writes e ≡ true → (j : ℕ) × (h.joined (h.writer e) ≡ Some j) × (j ≤ e)
  pub readers : (r : ℕ) → h.reads r ≡ true → (j : ℕ) × (h.joined (h.reader r) ≡ Some j) × (j ≤ r)
  -- one session of an id joins at a step: an entry takes one answer
  pub once : (s u : Owner) (j : ℕ) → h.joined s ≡ Some j → h.joined u ≡ Some j → s.id ≡ u.id → s ≡ u
  -- over is final
  pub final : (s : Owner) (t u : ℕ) → h.over s t ≡ true → t ≤ u → h.over s u ≡ true
  -- a session that is over has ended, has written its free, or was reset: so it submits nothing
  pub silent : (s : Owner) (t e : ℕ) → h.over s t ≡ true → h.writes e ≡ true → h.writer e ≡ s → e < t
  -- that an over session has no write in flight means that none of its writes is answered any more, either
  pub settled : (s : Owner) (t e a : ℕ) → h.over s t ≡ true → h.writes e ≡ true → h.writer e ≡ s → h.ok e ≡ Some a → a ≤ t

-- Where a session joins, all of its id that joined before are over.
abbrev pub EarlierAreOver : History → Type 0
EarlierAreOver h = (s u : Owner) (i j : ℕ) → h.joined s ≡ Some i → h.joined u ≡ Some j → s.id ≡ u.id → i < j → h.over s j ≡ true

-- Evidence means over, for each session that joins at whatever step.
abbrev pub EvidenceMeansOver : History → Type 0
EvidenceMeansOver h = (o s : Owner) (t j : ℕ) → h.evidence o s t ≡ true → h.joined s ≡ Some j → h.over s t ≡ true
