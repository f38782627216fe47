-- What is asked of a lease when it decides what comes next.
use Rattle.sl_area.specs.AreaSizes.{Layout, Sizes, layout_of}
use Rattle.sl_host.specs.BookQuestions.{state_in}
use Rattle.sl_host.specs.HeardAnswers.{IsTold}
use Rattle.sl_host.specs.declared.told_answers.Told.TheVariants.{Again, Gave}
use Rattle.sl_host.specs.declared.told_answers.Told.{Told}
use Rattle.sl_host_law.specs.Answers.LeaseDecisions.{turn_next}
use Rattle.sl_host_law.specs.Questions.Answers.{place_in}
use Rattle.sl_host_law.specs.Questions.Members.{exclusive_at}
use Rattle.sl_host_law.specs.Steps.Leases.{kept_blocks, known_by, lease_at}
use Rattle.sl_host_law.specs.Steps.Passes.{member_numbered}
use Rattle.sl_host_state.specs.KeptState.{HostKept, HostState, LeaseState, MemberState}
use Rattle.sl_host_state.specs.HostStands.{first_read}
use Rattle.sl_lease.specs.LeaseQuestions.{TopStands, leader_given, read_asked}
use Rattle.sl_lease.specs.Bounds.{IsInstance}
use Rattle.sl_lease.specs.Laws.{first_by}
use Rattle.sl_lease.specs.Side.{is_named}
use Rattle.sl_lease.specs.Steps.{is_first_step, is_read_step}
use Rattle.sl_sector.specs.declared.sector.Block.{Block}
use Rattle.sl_sector.specs.Records.{Fits}
use Rattle.sl_sector.specs.declared.sector.Leader.{Leader}
use Rattle.sl_trace.specs.LeaseDecisions.{asked_again, first_step, within_turn}
use Rattle.sl_trace.specs.Leases.{LeaseKnown, is_leader_of, is_second}
use Rattle.sl_trace.specs.declared.session.Session.{Session}
use Rattle.sl_trace.specs.declared.lease.Aim.{Aim}
use Rattle.sl_trace.specs.declared.lease.LeaseNext.{LeaseNext}
use Rattle.sl_trace.specs.declared.effects.LeaseStep.TheVariants.{ReadArea}
use Rattle.sl_trace.specs.declared.effects.LeaseStep.{LeaseStep}
use Rattle.sl_trace.specs.declared.effects.Spot.{Spot}
use Rattle.std.specs.Prelude.{IfSome, IsTrue, List, None, Option, Some, is_some, true, ℕ, ◌||◌, ◌≡◌}

-- Whoever has written a block for the lease has verified the resource's name, and an open ballot is of such a block.
pub record IsOwned (l : LeaseState) : Type 0 where
  pub named : is_some l.own ≡ true → IsTrue (is_named l)
  pub opened : is_some l.ballot ≡ true → is_some l.own ≡ true

-- A member's lease on an area may be asked what comes next, where these were the blocks read last: the member is joined, what is kept of
-- those blocks is so, and an exclusive holding under the lease is of an instance.
pub record MayAsk (h : HostState) (m : MemberState) (at : Spot) (read : List (Option Block)) : Type 0 where
  pub joined : m.joined ≡ true
  pub tops : TopStands (lease_at m at) read
  pub held : IfSome (exclusive_at h m at) (λ g. IsInstance g.lver)
  pub owned : IsOwned (lease_at m at)

-- The resource's name was verified, but for the read that begins an acquire.
abbrev pub IsNamedFor : MemberState → Spot → LeaseStep → Type 0
IsNamedFor m at step = IsTrue (is_first_step step || is_named (lease_at m at))

-- A member's lease has heard a read at this step that gave these bytes.
pub record ReadStands (g : Layout) (m : MemberState) (at : Spot) (step : LeaseStep) (bytes : List ℕ) : Type 0 where
  pub reads : is_read_step step ≡ true
  -- it was a second read, of whose first one something is kept
  pub again : is_second step ≡ (lease_at m at).pair.again
  pub kept : (lease_at m at).pair.again ≡ true → IsTrue (is_some (lease_at m at).pair.first)
  -- where it gave the leader of the resource that was sought, the name is verified
  pub verified : (name : List ℕ) (l : Leader) → first_step step ≡ ReadArea name → asked_again g bytes step ≡ None → leader_given g (first_read (lease_at m at).pair) step bytes ≡ Some l
      → is_leader_of g m.who.lockspace name l ≡ true → IsTrue (is_named (lease_at m at))

-- What a read at this step gave is told so of a member's lease that has heard it: it is to be made once more; or it gave this leader, if it
-- reads one, and these blocks, with what is kept of the first read, where it is the second one.
pub record IsShown (z : Sizes) (m : MemberState) (at : Spot) (step : LeaseStep) (bytes : List ℕ) (what : Told) (blocks : List (Option Block)) : Type 0 where
  pub told : IsTold z (first_by (lease_at m at).pair step) step bytes what blocks
  pub known : ReadStands (layout_of z) m at step bytes

-- The blocks that a lease decides by where it is told so: those that were given, else what is kept.
abbrev pub blocks_told : Told → List (Option Block) → LeaseState → List (Option Block)
blocks_told Again blocks l = kept_blocks l
blocks_told (Gave leader) blocks l = blocks

-- What comes next after a read at this step that gave this leader, if it reads one, and these blocks.
abbrev pub asked_next : HostState → MemberState → Spot → Aim → LeaseStep → Option Leader → List (Option Block) → LeaseNext
asked_next h m at aim step leader blocks =
    let k : LeaseKnown = known_by h m at (lease_at m at) blocks in within_turn (place_in h m) k aim (read_asked (place_in h m) k aim leader blocks step)

-- The member's next block on an area can be written: with pairs its turn fits a record, and its resource's name is verified.
abbrev pub MayTurn : Sizes → MemberState → Spot → Type 0
MayTurn z m at = z.paired ≡ true → Fits (turn_next m at) × IsTrue (is_named (lease_at m at))

-- So can the block of the session's member.
abbrev pub IsTurned : HostKept → Session → Spot → Type 0
IsTurned k s at = (m : MemberState) → member_numbered (state_in k) s.number ≡ Some m → MayTurn k.config.sizes m at
