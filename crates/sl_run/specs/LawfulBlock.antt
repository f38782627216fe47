-- How a session may write its block on a resource: the ballots of one disk.
use Rattle.sl_run.specs.LawForms.{EachCall}
use Rattle.sl_trace.specs.Ballots.{ballot_blocks, moded_block, owner_of, phase1_block, phase2_block, same_owner, stop_of}
use Rattle.sl_trace.specs.Leases.{Phase1_read, Phase1_write, Phase2_read, Phase2_write, base_turn, block_written, blocks_given, ended_ballots, freed, is_again, is_area_read, is_at, is_free_write, is_leader_of, last_blocks, leader_given, lease_calls, lease_step, own_block, spot_of_call, turn_written}
use Rattle.sl_sector.specs.declared.sector.Block.{Block}
use Rattle.sl_sector.specs.declared.sector.Leader.{Leader}
use Rattle.sl_sector.specs.declared.sector.Owner.{Owner}
use Rattle.sl_trace.specs.Sessions.{me}
use Rattle.sl_trace.specs.Sightings.{counted_over}
use Rattle.sl_trace.specs.declared.session.Session.{Session}
use Rattle.sl_trace.specs.Traces.{Answered, Setting, Submitted, Trace}
use Rattle.sl_trace.specs.declared.effects.Entry.{Entry}
use Rattle.sl_trace.specs.declared.effects.LeaseStep.TheVariants.{ClearMode, Phase1Write, Phase2Write, SetMode}
use Rattle.sl_trace.specs.declared.effects.LeaseStep.{LeaseStep}
use Rattle.sl_trace.specs.declared.effects.Spot.{Spot}
use Rattle.sl_trace.specs.declared.input.Answer.TheVariants.{Written}
use Rattle.sl_words.specs.Words.{first_of_list, present}
use Rattle.std.specs.List.{list_all}
use Rattle.std.specs.Prelude.{Contains, IsTrue, List, None, Option, Some, false, find, is_some, true, ℕ, ◌++◌, ◌+◌, ◌<◌, ◌∷◌, ◌≡◌, ◌≤◌, ◌⊎◌}

-- ---- why an instance may begin: one of six reasons stands in the trace, at whatever earlier entry

-- A leader and blocks that one read of the area gave.
pub record AreaRead (st : Setting) (es : Trace) (s : Session) (at : Spot) : Type 0 where
  pub read : Submitted
  pub blocks : List (Option Block)
  pub leader : Leader
  pub resource : List ℕ
  pub of_lease : Contains (lease_calls st es s at) read × IsTrue (is_area_read read)
  -- the calls of the lease after and before that read
  pub after : List Submitted
  pub before : List Submitted
  pub split : lease_calls st es s at ≡ after ++ read ∷ before
  pub gives : blocks_given st.layout read before ≡ Some blocks
  -- with pairs a torn leader is taken for one that was never held
  pub spells : leader_given st.layout read before ≡ Some leader
  -- a leader of another lockspace tells nothing of these ballots
  pub names : IsTrue (is_leader_of st.layout s.lockspace resource leader)
  -- a torn block may be that of the newest instance
  pub whole : IsTrue (list_all is_some blocks)

-- Why instance n may begin.
pub data BeginReason (st : Setting) (es : Trace) (s : Session) (at : Spot) (n : ℕ) : Type 0 where
  -- another's block of n was read above the leader
  Block_above : (r : AreaRead st es s at) → r.leader.lver < n → (b : Block) → Contains (present r.blocks) b → b.lver ≡ n
      → BeginReason st es s at n
  -- the own block is in n
  Own_block : (b : Block) → own_block st.layout s.id (lease_calls st es s at) ≡ Some b → b.lver ≡ n → 1 ≤ n → BeginReason st es s at n
  -- the leader of n - 1 is free, or its owner is over
  Leader_before : (r : AreaRead st es s at) → r.leader.lver + 1 ≡ n
      → (r.leader.held ≡ false) ⊎ IsTrue (counted_over st es s r.leader.owner r.leader.generation) → BeginReason st es s at n
  -- the leader of n is held by the session itself
  Leader_own : (r : AreaRead st es s at) → r.leader.lver ≡ n → r.leader.held ≡ true
      → IsTrue (same_owner (owner_of r.leader) (me es s)) → BeginReason st es s at n
  -- the session submitted a free of n - 1, and read no leader above it
  Freed_before : (r : AreaRead st es s at) → r.leader.lver < n → (w : Submitted) → Contains (lease_calls st es s at) w → (m : ℕ)
      → IsTrue (is_free_write m w) → m + 1 ≡ n → BeginReason st es s at n
  -- its own ballot of n - 1 ended with another that is over
  Lost_before : (o : Owner) → (m : ℕ) → Contains (ended_ballots st.layout (lease_calls st es s at)) (m, o) → m + 1 ≡ n
      → IsTrue (counted_over st es s o.id o.generation) → BeginReason st es s at n

-- ---- phase 1

-- The block of phase 1.
pub record LawfulPhase1 (st : Setting) (es : Trace) (s : Session) (at : Spot) (c : Submitted) (b : Block) : Type 0 where
  -- an instance begins only where the one before is decided and done with
  pub reason : BeginReason st es s at b.lver
  pub own : Block
  -- without it a vote could be forgotten; a torn own block is none
  pub known : own_block st.layout s.id (lease_calls st es s at) ≡ Some own
  -- else the own vote of a later instance would be overwritten
  pub not_below : own.lver ≤ b.lver
  -- whoever saw the free may have begun the next
  pub not_freed : freed (lease_calls st es s at) < b.lver
  -- the number is the least of the host's own above all that it knows of the instance; bal and value are kept within it
  pub written : b ≡ phase1_block (me es s) st.layout.hosts b.lver b.shared b.mode_gen own (present (last_blocks st.layout (lease_calls st es s at)))

-- ---- phase 2

-- A read of all blocks that was submitted after the write was answered ok.
pub record ReadAfter (write read : Submitted) : Type 0 where
  pub answer : Answered
  pub answered : (write.answer ≡ Some answer) × (answer.answer ≡ Written)
  -- a read of before may miss the rival that has read the old block
  pub later : answer.at ≤ read.at

-- Where the read is a second one, so was the first: what is given may be what that one showed. before are the calls of the lease before
-- the read.
abbrev pub FirstAfter : Submitted → Submitted → List Submitted → Type 0
FirstAfter write read before = IsTrue (is_again read) → (first : Submitted) → first_of_list before ≡ Some first → ReadAfter write first

-- The block of phase 2.
pub record LawfulPhase2 (st : Setting) (es : Trace) (s : Session) (at : Spot) (c : Submitted) (b : Block) : Type 0 where
  pub own : Block
  pub write : Submitted
  pub read : Submitted
  pub blocks : List (Option Block)
  -- it follows its own phase 1, with no other block between
  pub last : find (λ d. is_some (block_written d)) (lease_calls st es s at) ≡ Some write
  pub wrote : (block_written write ≡ Some own) × IsTrue (is_at Phase1_write write)
  pub of_lease : Contains (lease_calls st es s at) read × IsTrue (is_at Phase1_read read)
  -- the calls of the lease after and before that read
  pub after : List Submitted
  pub before : List Submitted
  pub split : lease_calls st es s at ≡ after ++ read ∷ before
  pub ordered : ReadAfter write read
  pub first_ordered : FirstAfter write read before
  pub given : blocks_given st.layout read before ≡ Some blocks
  -- a greater number, a later instance or a torn block of another host stops the ballot
  pub clear : stop_of own blocks ≡ None
  -- the value is that of the greatest bal that was read, else the session's
  pub written : b ≡ moded_block (phase2_block (me es s) own (ballot_blocks own blocks)) b.shared b.mode_gen

-- A read of phase 2, by which a ballot ends.
pub record LawfulPhase2Read (st : Setting) (es : Trace) (s : Session) (at : Spot) (c : Submitted) : Type 0 where
  pub write : Submitted
  -- it follows its own phase 2, with no other block between
  pub last : find (λ d. is_some (block_written d)) (lease_calls st es s at) ≡ Some write
  pub is_phase2 : IsTrue (is_at Phase2_write write)
  -- before the block stands for sure a rival may not see it
  pub ordered : ReadAfter write c

-- A write of the mode alone.
pub record LawfulModeWrite (st : Setting) (es : Trace) (s : Session) (at : Spot) (b : Block) : Type 0 where
  pub own : Block
  pub known : own_block st.layout s.id (lease_calls st es s at) ≡ Some own
  -- a block of no instance has no mode
  pub begun : 1 ≤ own.lver
  -- another number or value would undo a vote
  pub written : b ≡ moded_block own b.shared b.mode_gen

-- By the step at which a block is written; no other call writes one.
abbrev pub LawfulBlockStep : Setting → Trace → Session → Spot → Submitted → Block → LeaseStep → Type 0
LawfulBlockStep st es s at c b Phase1Write = LawfulPhase1 st es s at c b
LawfulBlockStep st es s at c b Phase2Write = LawfulPhase2 st es s at c b
LawfulBlockStep st es s at c b SetMode = LawfulModeWrite st es s at b
LawfulBlockStep st es s at c b ClearMode = LawfulModeWrite st es s at b
LawfulBlockStep st es s at c b step = ⊥

-- A block that is written.
abbrev pub LawfulBlockWrite : Setting → Trace → Session → Submitted → Block → Type 0
LawfulBlockWrite st es s c b =
    elim (lease_step c.call.purpose) [ None ↦ ⊥ | Some p ↦ LawfulBlockStep st es s (spot_of_call st.layout c) c b p.1 ]

-- The turn of a block, by the one that was shown last of the own pair: one above it. At another turn's place it would overwrite the
-- block that stands, or be taken for an older one; and so it might where none was shown.
pub record LawfulTurn (turn shown : ℕ) : Type 0 where
  pub next : turn ≡ shown + 1
  pub seen : 1 ≤ shown

-- Lawful block writing.
pub record LawfulBlock (st : Setting) (past : Trace) (e : Entry) : Type 0 where
  pub turns : EachCall st (λ es s c. (turn : ℕ) → turn_written c ≡ Some turn →
      LawfulTurn turn (base_turn st.layout s.id (lease_calls st es s (spot_of_call st.layout c)))) past e
  pub writes : EachCall st (λ es s c. (b : Block) → block_written c ≡ Some b → LawfulBlockWrite st es s c b) past e
  pub reads : EachCall st (λ es s c. IsTrue (is_at Phase2_read c) → LawfulPhase2Read st es s (spot_of_call st.layout c) c) past e
