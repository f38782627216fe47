-- What is asked of the disk. Each host's block is a register that the host writes and all read; it need not be an atomic one, and a
-- write may be torn, fail or come late, as long as it isn't answered ok.
use Rattle.sl_ballot_law.specs.History.{History}
use Rattle.std.specs.Prelude.{Some, true, ℕ, ◌<◌, ◌≡◌, ◌≤◌, ◌⊎◌}

-- Host k submitted a block at step e.
pub record Wrote (h : History) (k e : ℕ) : Type 0 where
  pub is : h.writes e ≡ true
  pub host : (h.writer e).id ≡ k

-- What a read shows was submitted by its host before the answer, or is what the disk held at first.
pub record IsRegister (h : History) : Type 0 where
  -- a resource's blocks are fresh at first
  pub zeros : ((h.block 0).lver ≡ 0) × ((h.block 0).mbal ≡ 0) × ((h.block 0).bal ≡ 0)
  -- a run's steps are numbered from 1
  pub since : (e : ℕ) → h.writes e ≡ true → 0 < e
  -- a call is answered in a later entry than the one that submits it
  pub answered : (e a : ℕ) → h.writes e ≡ true → h.ok e ≡ Some a → e < a
  pub forward : (r : ℕ) → h.reads r ≡ true → r < h.answer r
  -- at a host's place only its sessions' blocks land, as they were submitted or torn
  pub submitted : (r k : ℕ) → h.reads r ≡ true → h.shows r k ≡ true → (h.shown r k ≡ 0) ⊎ Wrote h k (h.shown r k)
  -- what a read samples was submitted before, and it is sampled before it is answered
  pub earlier : (r k : ℕ) → h.reads r ≡ true → h.shows r k ≡ true → h.shown r k < h.answer r

-- The register lemma: a read that is submitted after a block was answered ok shows, of its host, that block or one submitted later. (A
-- host has one block write in flight at a time, since a session has, and since an id has one session that is not over: so its blocks land
-- in the order of their submission; and a block that was answered ok has landed.) It is all that the argument knows of the order in
-- which writes land; another layout of the disk is another proof of this one sentence.
abbrev pub ShowsNewest : History → Type 0
ShowsNewest h = (r k e a : ℕ) → h.reads r ≡ true → h.shows r k ≡ true → Wrote h k e → h.ok e ≡ Some a → a ≤ r → e ≤ h.shown r k
