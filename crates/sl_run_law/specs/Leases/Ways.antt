-- How a block that a session writes comes from its own block before.
use Rattle.sl_run.specs.LawfulBlock.{FirstAfter, LawfulBlockWrite, ReadAfter}
use Rattle.sl_run.specs.LawForms.{cut_at}
use Rattle.sl_run_law.specs.Leases.CallFronts.{Submission}
use Rattle.sl_trace.specs.Ballots.{ballot_blocks, moded_block, owner_of, phase2_block, same_owner, stop_of, value_of}
use Rattle.sl_trace.specs.Leases.{Mode_cleared, Mode_set, Phase1_read, Phase1_write, Phase2_read, Phase2_write, block_of_host, block_submitted, block_written, blocks_given, freed, is_at, is_lease_call, is_on}
use Rattle.sl_area.specs.AreaSizes.{Layout}
use Rattle.sl_sector.specs.declared.sector.Block.{Block}
use Rattle.sl_sector.specs.declared.sector.Leader.{Leader}
use Rattle.sl_sector.specs.declared.sector.Owner.{Owner}
use Rattle.sl_trace.specs.Sessions.{is_call_of, me}
use Rattle.sl_trace.specs.declared.session.Session.{Session}
use Rattle.sl_trace.specs.Traces.{Setting, Submitted, Trace, new_call}
use Rattle.sl_trace.specs.declared.effects.Spot.{Spot}
use Rattle.std.specs.Prelude.{Contains, IsTrue, List, None, Option, Some, filter, find, is_some, length, true, ℕ, ◌&&◌, ◌++◌, ◌<◌, ◌∷◌, ◌≡◌, ◌≤◌, ◌⊎◌}

-- Of these calls those of the session's lease on the area; of all calls they are the lease's.
abbrev pub lease_among : Setting → Session → Spot → List Submitted → List Submitted
lease_among st s at ms = filter (λ m. is_lease_call m && is_on st.layout at m.call) (filter (is_call_of s) ms)

-- Phase 1: never below the own block; within an instance a greater number, and what was accepted is kept.
pub record ByPhase1 (s : Session) (own b : Block) : Type 0 where
  pub host : b.host ≡ s.id
  pub instance : 1 ≤ b.lver
  pub positive : 1 ≤ b.mbal
  pub up : own.lver ≤ b.lver
  pub mbal : own.lver ≡ b.lver → own.mbal < b.mbal
  pub bal : own.lver ≡ b.lver → b.bal ≡ own.bal
  pub inp : own.lver ≡ b.lver → (b.inp ≡ own.inp) × (b.inp_gen ≡ own.inp_gen)
  pub anew : own.lver < b.lver → b.bal ≡ 0

-- Phase 2: the same ballot, accepted.
pub record ByPhase2 (own b : Block) : Type 0 where
  pub host : b.host ≡ own.host
  pub lver : b.lver ≡ own.lver
  pub mbal : b.mbal ≡ own.mbal
  pub bal : b.bal ≡ b.mbal

-- A change of mode: the ballot stays.
pub record ByMode (own b : Block) : Type 0 where
  pub begun : 1 ≤ own.lver
  pub host : b.host ≡ own.host
  pub lver : b.lver ≡ own.lver
  pub mbal : b.mbal ≡ own.mbal
  pub bal : b.bal ≡ own.bal
  pub inp : (b.inp ≡ own.inp) × (b.inp_gen ≡ own.inp_gen)

-- The way of a block.
pub data Way (s : Session) (c : Submitted) (own b : Block) : Type 0 where
  Of_phase1 : IsTrue (is_at Phase1_write c) → ByPhase1 s own b → Way s c own b
  Of_phase2 : IsTrue (is_at Phase2_write c) → ByPhase2 own b → Way s c own b
  Of_mode : IsTrue (is_at Mode_set c) ⊎ IsTrue (is_at Mode_cleared c) → ByMode own b → Way s c own b

-- A read of these calls gave this block at the host's place.
pub record FoundIn (g : Layout) (id : ℕ) (ms : List Submitted) (own : Block) : Type 0 where
  pub read : Submitted
  pub blocks : List (Option Block)
  pub has : Contains ms read
  pub newer : List Submitted
  pub before : List Submitted
  pub split : ms ≡ newer ++ read ∷ before
  pub given : blocks_given g read before ≡ Some blocks
  pub block : block_of_host blocks id ≡ Some own

-- The own block of a write, and its way from it. Where the session wrote a block before, the own block is the last of those; else a
-- read of the session gave it.
pub record BlockComes (st : Setting) (s : Session) (at : Spot) (older : List Submitted) (c : Submitted) (b : Block) : Type 0 where
  pub own : Block
  pub last : (d : Block) → block_submitted (lease_among st s at older) ≡ Some d → d ≡ own
  pub found : block_submitted (lease_among st s at older) ≡ None → FoundIn st.layout s.id (lease_among st s at older) own
  pub way : Way s c own b

-- What a block of phase 2 rests on: the session's last block before it is that of phase 1, and a read that was submitted after this was
-- answered ok shows nothing that stops the ballot. (That the read was answered by then is the law of turns.)
pub record Phase2Rests (st : Setting) (es : Trace) (s : Session) (at : Spot) (older : List Submitted) (c : Submitted) (b : Block) : Type 0 where
  pub submission : Submission es c older
  pub own : Block
  pub write : Submitted
  pub read : Submitted
  pub blocks : List (Option Block)
  pub last : find (λ d. is_some (block_written d)) (lease_among st s at older) ≡ Some write
  pub wrote : (block_written write ≡ Some own) × IsTrue (is_at Phase1_write write)
  pub of_lease : Contains (lease_among st s at older) read × IsTrue (is_at Phase1_read read)
  pub newer : List Submitted
  pub before : List Submitted
  pub split : lease_among st s at older ≡ newer ++ read ∷ before
  pub ordered : ReadAfter write read
  pub first_ordered : FirstAfter write read before
  pub given : blocks_given st.layout read before ≡ Some blocks
  pub clear : stop_of own blocks ≡ None
  pub written : b ≡ moded_block (phase2_block (me (cut_at submission.place submission.entry ∷ submission.past) s) own (ballot_blocks own blocks)) b.shared b.mode_gen

-- What a read of phase 2 rests on: the session's last block before it is that of phase 2, and was answered ok before.
pub record Phase2ReadRests (st : Setting) (s : Session) (at : Spot) (older : List Submitted) (c : Submitted) : Type 0 where
  pub write : Submitted
  pub last : find (λ d. is_some (block_written d)) (lease_among st s at older) ≡ Some write
  pub is_phase2 : IsTrue (is_at Phase2_write write)
  pub ordered : ReadAfter write c

-- ---- ballots that ended

-- By these calls a ballot ended with this instance and value: after its block a read of all blocks showed nothing that stops it.
pub record Ended (g : Layout) (ms : List Submitted) (p : ℕ × Owner) : Type 0 where
  pub newer : List Submitted
  pub read : Submitted
  pub before : List Submitted
  pub own : Block
  pub blocks : List (Option Block)
  pub is : ms ≡ newer ++ read ∷ before
  pub reads : IsTrue (is_at Phase2_read read)
  pub block : block_submitted before ≡ Some own
  pub given : blocks_given g read before ≡ Some blocks
  pub clear : stop_of own blocks ≡ None
  pub what : (own.lver, value_of own) ≡ p

-- What a leader that is written rests on: it names the session, whose own ballot of the instance ended with itself before; as held it
-- is written only above each free of the session.
pub record LeaderRests (st : Setting) (es : Trace) (s : Session) (at : Spot) (older : List Submitted) (c : Submitted) (l : Leader) : Type 0 where
  pub submission : Submission es c older
  pub owner : IsTrue (same_owner (owner_of l) (me (cut_at submission.place submission.entry ∷ submission.past) s))
  pub won : Ended st.layout (lease_among st s at older) (l.lver, me (cut_at submission.place submission.entry ∷ submission.past) s)
  pub not_freed : l.held ≡ true → freed (lease_among st s at older) < l.lver

-- A block with its front: all that the law of blocks says where it was submitted, the reason of its instance too.
pub record BlockFront (st : Setting) (es : Trace) (s : Session) (older : List Submitted) (c : Submitted) (b : Block) : Type 0 where
  pub submission : Submission es c older
  pub lawful : LawfulBlockWrite st (cut_at submission.place submission.entry ∷ submission.past) s
      (new_call (length submission.past) submission.entry.reading submission.call) b
