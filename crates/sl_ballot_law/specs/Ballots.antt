-- What is asked of the blocks that hosts write: ballots of *Disk Paxos* (Gafni and Lamport) on one disk, instance after instance.
--
-- In phase 1 of a ballot a host writes a new number into its block and reads all blocks. In phase 2 it accepts a value: that of the
-- greatest ballot that it read, or else itself; it writes this, and reads all blocks again. The ballot ends where nothing that was
-- read in either phase is above it.
use Rattle.sl_ballot_law.specs.Disk.{IsRegister, ShowsNewest}
use Rattle.sl_ballot_law.specs.History.{History, Owner}
use Rattle.sl_ballot_law.specs.Sessions.{EarlierAreOver, SessionsInOrder}
use Rattle.std.specs.Prelude.{Bool, Some, false, true, ℕ, ◌+◌, ◌<◌, ◌≡◌, ◌≤◌, ◌⊎◌}

-- ---- reads

-- A read stops no ballot of number m in instance n: no block is torn, of a later instance, or of a greater number.
pub record IsClean (h : History) (r n m : ℕ) : Type 0 where
  pub whole : (k : ℕ) → h.shows r k ≡ true
  pub lver : (k : ℕ) → (h.block (h.shown r k)).lver ≤ n
  pub mbal : (k : ℕ) → (h.block (h.shown r k)).lver ≡ n → (h.block (h.shown r k)).mbal ≤ m

-- ---- the own block of a write

-- It is the block that the session submitted last.
pub record IsLastWrite (h : History) (e : ℕ) : Type 0 where
  pub writes : h.writes (h.base e) ≡ true
  pub writer : h.writer (h.base e) ≡ h.writer e
  pub before : h.base e < e
  pub last : (d : ℕ) → h.writes d ≡ true → h.writer d ≡ h.writer e → d < e → d ≤ h.base e

-- Or, at the session's first write, the block that a read of the session shows of its host; what else the read shows may be torn.
pub record IsFoundBlock (h : History) (e : ℕ) : Type 0 where
  pub read : ℕ
  pub reads : h.reads read ≡ true
  pub reader : h.reader read ≡ h.writer e
  pub before : h.answer read ≤ e
  pub whole : h.shows read (h.writer e).id ≡ true
  pub shown : h.shown read (h.writer e).id ≡ h.base e
  pub first : (d : ℕ) → h.writes d ≡ true → h.writer d ≡ h.writer e → d < e → ⊥

-- ---- the two phases

-- Phase 1: a number of the host's own, above that of the own block in the instance; what the own block has accepted in the instance is
-- kept. Why the instance may begin is said apart.
pub record IsPhase1 (h : History) (e : ℕ) : Type 0 where
  pub instance : 0 < (h.block e).lver
  pub host : h.host_of (h.block e).mbal ≡ (h.writer e).id
  pub mbal : (h.block (h.base e)).lver ≡ (h.block e).lver → (h.block (h.base e)).mbal < (h.block e).mbal
  pub bal : (h.block (h.base e)).lver ≡ (h.block e).lver → (h.block e).bal ≡ (h.block (h.base e)).bal
  pub inp : (h.block (h.base e)).lver ≡ (h.block e).lver → (h.block e).inp ≡ (h.block (h.base e)).inp
  pub anew : (h.block (h.base e)).lver < (h.block e).lver → (h.block e).bal ≡ 0

-- Phase 2 proposes the session itself, where phase 1's read shows nothing accepted in the instance.
pub record ProposesItself (h : History) (e r n : ℕ) : Type 0 where
  pub none : (k : ℕ) → (h.block (h.shown r k)).lver ≡ n → (h.block (h.shown r k)).bal ≡ 0
  pub own : (h.block e).inp ≡ h.writer e

-- Or the value of the greatest ballot that the read shows in the instance.
pub record ProposesSeen (h : History) (e r n : ℕ) : Type 0 where
  pub host : ℕ
  pub lver : (h.block (h.shown r host)).lver ≡ n
  pub bal : 0 < (h.block (h.shown r host)).bal
  pub inp : (h.block e).inp ≡ (h.block (h.shown r host)).inp
  pub most : (k : ℕ) → (h.block (h.shown r k)).lver ≡ n → (h.block (h.shown r k)).bal ≤ (h.block (h.shown r host)).bal

-- Phase 2: the session's next write after phase 1, with the same number, which it accepts. Phase 1's read was submitted after phase 1
-- was answered ok: else it could miss a rival that has read the block of before.
pub record IsPhase2 (h : History) (e : ℕ) : Type 0 where
  pub last : IsLastWrite h e
  pub one : IsPhase1 h (h.base e)
  pub lver : (h.block e).lver ≡ (h.block (h.base e)).lver
  pub mbal : (h.block e).mbal ≡ (h.block (h.base e)).mbal
  pub bal : (h.block e).bal ≡ (h.block e).mbal
  pub ack : ℕ
  pub acked : h.ok (h.base e) ≡ Some ack
  pub read : ℕ
  pub reads : h.reads read ≡ true
  pub after : ack ≤ read
  pub before : h.answer read ≤ e
  pub clean : IsClean h read (h.block e).lver (h.block e).mbal
  pub value : ProposesItself h e read (h.block e).lver ⊎ ProposesSeen h e read (h.block e).lver

-- Any other write: the own block in another mode.
pub record KeepsBallot (h : History) (e : ℕ) : Type 0 where
  pub lver : (h.block e).lver ≡ (h.block (h.base e)).lver
  pub mbal : (h.block e).mbal ≡ (h.block (h.base e)).mbal
  pub bal : (h.block e).bal ≡ (h.block (h.base e)).bal
  pub inp : (h.block e).inp ≡ (h.block (h.base e)).inp

-- By step t a session had run a ballot of instance n to its end, with value v. Phase 2's read was submitted after phase 2 was answered
-- ok, and stopped nothing.
pub record BallotEnded (h : History) (s : Owner) (n : ℕ) (v : Owner) (t : ℕ) : Type 0 where
  pub write : ℕ
  pub writes : h.writes write ≡ true
  pub writer : h.writer write ≡ s
  pub two : IsPhase2 h write
  pub lver : (h.block write).lver ≡ n
  pub value : (h.block write).inp ≡ v
  pub ack : ℕ
  pub acked : h.ok write ≡ Some ack
  pub read : ℕ
  pub reads : h.reads read ≡ true
  pub after : ack ≤ read
  pub answer : h.answer read ≤ t
  pub clean : IsClean h read n (h.block write).mbal

-- ---- why an instance may begin

-- A leader of instance n with this owner was submitted before step t, as held or as free. (It need not have landed, and no read need
-- have shown it: what it says was true when it was submitted, and stays true.)
pub record LeaderSubmitted (h : History) (n : ℕ) (s : Owner) (is_held : Bool) (t : ℕ) : Type 0 where
  pub step : ℕ
  pub leads : h.leads step ≡ true
  pub before : step < t
  pub lver : (h.leader step).lver ≡ n
  pub owner : (h.leader step).owner ≡ s
  pub held : (h.leader step).held ≡ is_held

-- Why session s may begin instance n at step e. Each reason, once true, stays true: so it may be an old one.
pub data BeginReason (h : History) (s : Owner) (n e : ℕ) : Type 0 where
  -- a block of the instance was seen, or is the own one
  Begun : (d : ℕ) → h.writes d ≡ true → d < e → (h.block d).lver ≡ n → BeginReason h s n e
  -- the leader was as at first
  Never_led : n ≡ 1 → BeginReason h s n e
  -- the instance before was freed, by whomever
  Freed_before : (w : Owner) (m : ℕ) → m + 1 ≡ n → LeaderSubmitted h m w false e → BeginReason h s n e
  -- the owner of the instance before is known to be over
  Owner_over : (w : Owner) (m t : ℕ) → m + 1 ≡ n → LeaderSubmitted h m w true e → h.evidence s w t ≡ true → t ≤ e → BeginReason h s n e
  -- the session leads it
  Leads_itself : LeaderSubmitted h n s true e → BeginReason h s n e
  -- an own ballot of the instance before ended with a session that is known to be over
  Lost_before : (v : Owner) (m t : ℕ) → m + 1 ≡ n → BallotEnded h s m v e → h.evidence s v t ≡ true → t ≤ e → BeginReason h s n e

-- Phase 1, with its reason.
pub record OpensBallot (h : History) (e : ℕ) : Type 0 where
  pub one : IsPhase1 h e
  pub reason : BeginReason h (h.writer e) (h.block e).lver e

-- What a write is.
pub data Phase (h : History) (e : ℕ) : Type 0 where
  Phase_1 : OpensBallot h e → Phase h e
  Phase_2 : IsPhase2 h e → Phase h e
  Mode_only : KeepsBallot h e → Phase h e

-- Each write has an own block, and is one of the three.
pub record KeepsBallots (h : History) : Type 0 where
  pub base : (e : ℕ) → h.writes e ≡ true → IsLastWrite h e ⊎ IsFoundBlock h e
  pub phase : (e : ℕ) → h.writes e ≡ true → Phase h e

-- No ballot is of an instance below that of the own block: else what the host accepted in the later instance would be forgotten.
abbrev pub GoesUp : History → Type 0
GoesUp h = (e : ℕ) → h.writes e ≡ true → IsPhase1 h e → (h.block (h.base e)).lver ≤ (h.block e).lver

-- A ballot's number is above 0: else what it accepts would count as nothing accepted.
abbrev pub NumbersArePositive : History → Type 0
NumbersArePositive h = (e : ℕ) → h.writes e ≡ true → IsPhase1 h e → 0 < (h.block e).mbal

-- All that agreement rests on.
pub record IsLawful (h : History) : Type 0 where
  pub register : IsRegister h
  pub newest : ShowsNewest h
  pub sessions : SessionsInOrder h
  pub earlier : EarlierAreOver h
  pub ballots : KeepsBallots h
  pub up : GoesUp h
  pub numbers : NumbersArePositive h
