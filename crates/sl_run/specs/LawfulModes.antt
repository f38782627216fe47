-- What a grant in either mode has behind it, and which mode a block shows. All of it is said of one resource.
use Rattle.sl_run.specs.LawfulBlock.{FirstAfter, ReadAfter}
use Rattle.sl_run.specs.LawfulLeader.{HasWon}
use Rattle.sl_run.specs.LawForms.{EachCall, IsAnsweredAt}
use Rattle.sl_trace.specs.Leases.{Mode_set, Phase1_write, block_of_host, block_written, blocks_given, ended_ballot, exclusive_on, has_shared_on, holdings_on, is_again, is_at, is_block_read, is_free_write, lease_calls, spot_of_call}
use Rattle.sl_sector.specs.declared.sector.Block.{Block}
use Rattle.sl_trace.specs.Sessions.{generation_of, me, session_numbered}
use Rattle.sl_trace.specs.Sightings.{counted_over}
use Rattle.sl_trace.specs.declared.session.Session.{Session}
use Rattle.sl_trace.specs.Traces.{Answered, Setting, Submitted, Trace, is_shared, spot_of_grant}
use Rattle.sl_trace.specs.declared.effects.Entry.{Entry}
use Rattle.sl_trace.specs.declared.effects.Grant.{Grant}
use Rattle.sl_trace.specs.declared.effects.Spot.{Spot}
use Rattle.sl_trace.specs.declared.input.Answer.TheVariants.{Written}
use Rattle.sl_words.specs.Words.{first_of_list, present}
use Rattle.std.specs.Prelude.{Bool, Contains, IsSome, IsTrue, List, MatchBool, None, Option, Some, false, length, nat_le, true, [], ℕ, ◌&&◌, ◌++◌, ◌||◌, ◌↔◌, ◌∷◌, ◌≡◌, ◌≤◌, ◌⊎◌}

-- Whether the session held the resource shared before some entry from number `since` on.
abbrev pub shared_since : ℕ → Trace → Session → Spot → Bool
shared_since since [] s at = false
shared_since since (e ∷ es) s at = nat_le since (length es) && has_shared_on es s at || shared_since since es s at

-- Answered ok so far.
abbrev pub IsDone : Submitted → Answered → Type 0
IsDone c a = (c.answer ≡ Some a) × (a.answer ≡ Written)

-- The blocks that the session wrote there from this call on all have its shared mode.
abbrev pub AllShared : Setting → Trace → Session → Spot → Submitted → Type 0
AllShared st es s at mode =
    (d : Submitted) (b : Block) → Contains (lease_calls st es s at) d → mode.call.number ≤ d.call.number → block_written d ≡ Some b →
    (b.shared ≡ true) × (b.mode_gen ≡ generation_of es s)

-- The first shared grant of a run of shared holdings: a ballot that ended with the session, then its block in shared mode, then the
-- leader's free, all since its last shared holding ended.
pub record SharedByBallot (st : Setting) (es : Trace) (s : Session) (at : Spot) (n : ℕ) : Type 0 where
  pub since : ℕ
  pub none_shared : shared_since since es s at ≡ false
  pub read : Submitted
  pub mode : Submitted
  pub free : Submitted
  pub block : Block
  pub read_answer : Answered
  pub mode_answer : Answered
  pub free_answer : Answered
  pub of_lease : Contains (lease_calls st es s at) mode × Contains (lease_calls st es s at) free
  -- the calls of the lease after and before that read
  pub after : List Submitted
  pub before : List Submitted
  pub split : lease_calls st es s at ≡ after ++ read ∷ before
  -- the instance is the session's
  pub won : (since ≤ read.at) × (ended_ballot st.layout read before ≡ Some (n, me es s))
  -- a read that was made once more began with its first
  pub first_since : IsTrue (is_again read) → (first : Submitted) → first_of_list before ≡ Some first → since ≤ first.at
  -- others must see the mode before they may go past the instance
  pub moded : (read.answer ≡ Some read_answer) × (read_answer.at ≤ mode.at) × (block_written mode ≡ Some block)
      × (block.shared ≡ true) × (block.mode_gen ≡ generation_of es s) × (block.lver ≡ n) × IsDone mode mode_answer
  pub freed : (mode_answer.at ≤ free.at) × IsTrue (is_free_write n free) × IsDone free free_answer
  -- a free before the mode would let another pass without seeing it
  pub first : (d : Submitted) → Contains (lease_calls st es s at) d → IsTrue (is_free_write n d) → free.call.number ≤ d.call.number
  -- a block without the mode in between would hide it again
  pub kept : AllShared st es s at mode

-- The session holds the resource shared under this instance.
abbrev pub HoldsSharedUnder : Trace → Session → Spot → ℕ → Type 0
HoldsSharedUnder es s at n = (h : Grant) × Contains (holdings_on es s at) h × IsTrue (is_shared h.mode) × (h.lver ≡ n)

-- A shared grant by conversion: in the step in which the session's exclusive holding of the instance ends, at the answer of its own
-- block's write with the mode. No free of the instance was submitted before, for it was held.
pub record SharedByConversion (st : Setting) (past es : Trace) (s : Session) (at : Spot) (n : ℕ) : Type 0 where
  pub held : Grant
  pub mode : Submitted
  pub block : Block
  -- a leader that stands as held keeps others from the next instance until the mode stands
  pub was_exclusive : (exclusive_on past s at ≡ Some held) × (held.lver ≡ n)
  -- two holdings of one session would conflict
  pub ends : exclusive_on es s at ≡ None
  pub of_lease : Contains (lease_calls st es s at) mode
  -- others must see the mode before they may go past the instance
  pub moded : (block_written mode ≡ Some block) × (block.shared ≡ true) × (block.mode_gen ≡ generation_of es s) × (block.lver ≡ n)
  pub done : IsAnsweredAt (length past) mode Written
  -- a block without the mode in between would hide it again
  pub kept : AllShared st es s at mode

-- A shared grant: beside a shared holding that the session had before the step, under its instance, by a ballot, or by conversion.
abbrev pub LawfulSharedGrant : Setting → Trace → Trace → Session → Spot → ℕ → Type 0
LawfulSharedGrant st past es s at n = HoldsSharedUnder past s at n ⊎ SharedByBallot st es s at n ⊎ SharedByConversion st past es s at n

-- Each other host's shared mode in these blocks was counted as over, at whatever entry so far; no block of another host is torn.
pub record NoneShared (st : Setting) (es : Trace) (s : Session) (blocks : List (Option Block)) : Type 0 where
  pub over : (b : Block) → Contains (present blocks) b → (b.host ≡ s.id → ⊥) → b.shared ≡ true → IsTrue (counted_over st es s b.host b.mode_gen)
  -- a torn block may be that of a shared holder
  pub whole : (host : ℕ) → 1 ≤ host → host ≤ st.layout.hosts → (host ≡ s.id → ⊥) → IsSome (block_of_host blocks host)

-- An exclusive grant: after its own ballot, and a read of the blocks that was submitted after phase 1 of a ballot of the session in
-- the same instance was answered.
pub record LawfulExclusiveGrant (st : Setting) (es : Trace) (s : Session) (at : Spot) (n : ℕ) : Type 0 where
  -- the instance is the session's
  pub won : HasWon st es s at n
  pub write : Submitted
  pub own : Block
  pub read : Submitted
  pub blocks : List (Option Block)
  pub wrote : Contains (lease_calls st es s at) write × IsTrue (is_at Phase1_write write) × (block_written write ≡ Some own) × (own.lver ≡ n)
  pub of_lease : Contains (lease_calls st es s at) read × IsTrue (is_block_read read)
  -- the calls of the lease after and before that read
  pub after : List Submitted
  pub before : List Submitted
  pub split : lease_calls st es s at ≡ after ++ read ∷ before
  -- blocks read before could lack a mode that was set since
  pub ordered : ReadAfter write read
  pub first_ordered : FirstAfter write read before
  -- it belongs to the ballot that ended: no greater number was written since
  pub same_ballot : (d : Submitted) (b : Block) → Contains (lease_calls st es s at) d → block_written d ≡ Some b → write.call.number ≤ d.call.number → b.mbal ≡ own.mbal
  pub given : blocks_given st.layout read before ≡ Some blocks
  -- a shared holder elsewhere would conflict
  pub none_shared : NoneShared st es s blocks

-- By the mode of the grant.
abbrev pub LawfulModeGrant : Setting → Trace → Trace → Session → Grant → Type 0
LawfulModeGrant st past es s g =
    MatchBool (is_shared g.mode) (LawfulSharedGrant st past es s (spot_of_grant g) g.lver) (LawfulExclusiveGrant st es s (spot_of_grant g) g.lver)

-- The mode of a block that is written. (A conversion to shared writes no other block than the one that sets the mode.)
pub record LawfulMode (st : Setting) (es : Trace) (s : Session) (c : Submitted) (b : Block) : Type 0 where
  -- a holder's mode must stay to be seen; a mode without a holder bars others
  pub exact : (b.shared ≡ true) ↔ IsTrue (has_shared_on es s (spot_of_call st.layout c) || is_at Mode_set c)
  -- another generation could be counted as over
  pub own : b.shared ≡ true → b.mode_gen ≡ generation_of es s

-- Lawful modes.
pub record LawfulModes (st : Setting) (past : Trace) (e : Entry) : Type 0 where
  pub grants : (g : Grant) (s : Session) → Contains e.effects.grants g → session_numbered st (e ∷ past) g.session ≡ Some s →
      LawfulModeGrant st past (e ∷ past) s g
  pub blocks : EachCall st (λ es s c. (b : Block) → block_written c ≡ Some b → LawfulMode st es s c b) past e
