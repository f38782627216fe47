-- The order in which the blocks of a host land: that in which they were submitted. The register lemma rests on it.
use Rattle.sl_area.specs.AreaSizes.{Layout}
use Rattle.sl_area.specs.AreaLayout.{block_place}
use Rattle.sl_trace.specs.Leases.{is_on}
use Rattle.sl_safety.specs.Resources.Histories.{block_shown, is_host, joined_step}
use Rattle.sl_safety.specs.Resources.HistoryLaws.{spot_of_line}
use Rattle.sl_safety.specs.Resources.SentCalls.{Sent, all_sent, holder_of, read_at, sender_of, step_of, writes_block}
use Rattle.sl_run.specs.Runs.{Happening}
use Rattle.sl_run.specs.Safety.{Found, IsSession, LawfulRun, SessionId, world_at}
use Rattle.sl_run.specs.Worlds.{Landing, Program, Stamp, World}
use Rattle.sl_run.specs.declared.header.Header.{Header}
use Rattle.sl_run.specs.declared.header.ResourceLine.{ResourceLine}
use Rattle.std.specs.Prelude.{Contains, IsTrue, List, Some, true, ℕ, ◌<◌, ◌≡◌, ◌≤◌, ◌⊎◌}

-- A place of a host's block: with pairs either sector of its pair.
abbrev pub IsBlockPlace : Layout → ℕ → ℕ → ℕ → Type 0
IsBlockPlace g base k offset = (turn : ℕ) × (offset ≡ block_place g base k turn)

-- The call left this landing at a place of host k.
pub record LandedAt (w : World) (r : ResourceLine) (k : ℕ) (x : Sent) (l : Landing) : Type 0 where
  pub sent : Contains (all_sent w) x
  pub landed : Contains w.landings l
  pub place : (l.path ≡ r.path) × IsBlockPlace w.layout r.offset k l.offset
  pub writer : l.writer ≡ Some (x.machine, x.course.call.number)

-- Nothing of the first session lands there once the other has joined. (It was over by then: an interface of the ids.)
abbrev pub LandsBefore : World → ResourceLine → ℕ → SessionId → SessionId → Type 0
LandsBefore w r k i j = (x : Sent) (l : Landing) → LandedAt w r k x l → sender_of x ≡ i → (f : Found) (n : ℕ) → IsSession w j f → joined_step f ≡ Some n → l.step < n

-- Two sessions are one, or one is over before the other joins.
abbrev pub Follows : World → ResourceLine → ℕ → SessionId → SessionId → Type 0
Follows w r k i j = (i ≡ j) ⊎ (LandsBefore w r k i j ⊎ LandsBefore w r k j i)

-- Of two that landed the later one was submitted later: each of a session's was answered before the next was submitted, and landed, if
-- at all, before its answer.
abbrev pub BlocksLandInOrder : Type 0
BlocksLandInOrder = (p : Program) (h : Header) (xs : List Happening) (r : ResourceLine) → LawfulRun p h xs → Contains h.resources r → (k : ℕ)
    → IsTrue (is_host (world_at p h xs) k) → (x y : Sent) (l m : Landing) → LandedAt (world_at p h xs) r k x l → LandedAt (world_at p h xs) r k y m
    → Follows (world_at p h xs) r k (sender_of x) (sender_of y) → l.step < m.step → step_of x < step_of y

-- A block that was sent to the resource's area by a session of host k.
pub record BlockSent (w : World) (r : ResourceLine) (k : ℕ) (x : Sent) : Type 0 where
  pub sent : Contains (all_sent w) x
  pub on : is_on w.layout (spot_of_line r) x.course.call ≡ true
  pub block : writes_block x.course ≡ true
  pub host : (holder_of w (sender_of x)).id ≡ k

-- So a read that begins once a block was answered ok shows, of its host, that block or one that was submitted later, where the sessions of
-- the host's blocks follow one another.
abbrev pub ReadsShowNewest : Type 0
ReadsShowNewest = (p : Program) (h : Header) (xs : List Happening) (r : ResourceLine) → LawfulRun p h xs → Contains h.resources r → (k : ℕ)
    → IsTrue (is_host (world_at p h xs) k) → (x : Sent) → BlockSent (world_at p h xs) r k x → x.course.done ≡ true → (s : Stamp) → x.course.answered ≡ Some s
    → (n : ℕ) (z : Sent) → read_at (world_at p h xs) (spot_of_line r) r.lockspace n ≡ Some z → s.step ≤ n → (m : ℕ)
    → block_shown (world_at p h xs) (spot_of_line r) k z ≡ Some m
    → ((y : Sent) → BlockSent (world_at p h xs) r k y → Follows (world_at p h xs) r k (sender_of x) (sender_of y)) → step_of x ≤ m
