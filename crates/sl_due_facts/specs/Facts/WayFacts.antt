-- Why each call of a session's lease was made. A way speaks of the calls before it alone, the newest first: it knows neither what is due
-- nor how a step goes on.
use Rattle.sl_area.specs.AreaSizes.{Layout}
use Rattle.sl_area.specs.AreaLayout.{area_sectors, block_sectors}
use Rattle.sl_area.specs.AreaRecords.{block_record, leader_record}
use Rattle.sl_area.specs.Pairs.{needs_again}
use Rattle.sl_trace.specs.Ballots.{ballot_blocks, moded_block, phase2_block, stop_of}
use Rattle.sl_trace.specs.Jobs.{aim_of}
use Rattle.sl_trace.specs.LeaseDecisions.{first_step, looks_for_shared, step_of_read}
use Rattle.sl_trace.specs.Leases.{base_turn, block_submitted, blocks_bytes, blocks_given, ended_ballot, ended_ballots, freed, lease_calls, lver_written, open_ballot, own_block, verified_by, verified_name}
use Rattle.sl_trace.specs.declared.lease.Aim.TheVariants.{Acquires, Converts, Releases, Settles}
use Rattle.sl_trace.specs.declared.lease.Aim.{Aim}
use Rattle.sl_sector.specs.declared.sector.Block.{Block}
use Rattle.sl_sector.specs.declared.sector.Leader.{Leader}
use Rattle.sl_sector.specs.declared.sector.Owner.{Owner}
use Rattle.sl_trace.specs.Sessions.{me, sessions}
use Rattle.sl_trace.specs.Sightings.{counted_over}
use Rattle.sl_trace.specs.declared.session.Session.{Session}
use Rattle.sl_trace.specs.Traces.{Answered, Setting, Submitted, Trace}
use Rattle.sl_trace.specs.declared.effects.Call.{Call}
use Rattle.sl_trace.specs.declared.effects.LeaseRead.TheVariants.{OfArea, OfBlock, OfFree, OfPhase1, OfPhase2}
use Rattle.sl_trace.specs.declared.effects.LeaseRead.{LeaseRead}
use Rattle.sl_trace.specs.declared.effects.LeaseStep.TheVariants.{ClearMode, FreeLeader, Phase1Read, Phase1Write, Phase2Read, Phase2Write, ReadAgain, ReadArea, ReadBeforeBlock, ReadBeforeFree, SetMode, TakeLeader}
use Rattle.sl_trace.specs.declared.effects.LeaseStep.{LeaseStep}
use Rattle.sl_trace.specs.declared.effects.Mode.TheVariants.{Shared}
use Rattle.sl_trace.specs.declared.effects.Op.TheVariants.{ReadSectors, WriteRecord}
use Rattle.sl_trace.specs.declared.effects.Purpose.TheVariants.{Lease}
use Rattle.sl_trace.specs.declared.effects.Purpose.{Purpose}
use Rattle.sl_trace.specs.declared.effects.Spot.{Spot}
use Rattle.sl_trace.specs.declared.effects.Work.{Work}
use Rattle.sl_trace.specs.declared.input.Answer.TheVariants.{Written}
use Rattle.sl_words.specs.Words.{present}
use Rattle.std.specs.Prelude.{Bool, Contains, IsSome, IsTrue, List, None, Option, Some, [], false, is_some, true, ℕ, ◌%◌, ◌++◌, ◌+◌, ◌<◌, ◌∷◌, ◌≡◌, ◌≤◌}

-- What ways ask beside calls: the session as ballots name it, to what end works are done, and whom the session has counted as over.
pub record WayContext : Type 0 where
  pub layout : Layout
  pub lockspace : List ℕ
  pub self : Owner
  pub aims : Work → Option Aim
  pub over : ℕ → ℕ → Bool

-- Those of a session in a trace.
abbrev pub way_context : Setting → Trace → Session → WayContext
way_context st t s = record { layout = st.layout; lockspace = s.lockspace; self = me t s; aims = aim_of st t; over = counted_over st t s }

-- ---- what stands before a call

-- The newest of the calls before is of the same work, at this step.
pub record Comes (work : Work) (step : LeaseStep) (ms : List Submitted) : Type 0 where
  pub prior : Submitted
  pub rest : List Submitted
  pub before : ms ≡ prior ∷ rest
  pub its : prior.call.purpose ≡ Lease work step

-- The same of a read that was made once, or once more.
pub record ComesBy (work : Work) (step : LeaseStep) (ms : List Submitted) : Type 0 where
  pub prior : Submitted
  pub rest : List Submitted
  pub before : ms ≡ prior ∷ rest
  pub made : LeaseStep
  pub its : prior.call.purpose ≡ Lease work made
  pub is : first_step made ≡ step

-- A write that was done by the entry of this number.
pub record IsWrittenBy (m : Submitted) (at : ℕ) : Type 0 where
  pub answer : Answered
  pub answered : (m.answer ≡ Some answer) × (answer.answer ≡ Written)
  pub made : m.at ≤ answer.at
  pub by : answer.at ≤ at

-- A read that was answered and heeded by then.
pub record IsHeededBy (m : Submitted) (at : ℕ) : Type 0 where
  pub answer : Answered
  pub answered : (m.answer ≡ Some answer) × (answer.heeded ≡ true)
  pub made : m.at ≤ answer.at
  pub by : answer.at ≤ at

-- Of these blocks each of another host that shows the shared mode is of one that was counted as over.
abbrev pub NoOtherShared : WayContext → List (Option Block) → Type 0
NoOtherShared w blocks =
    (b : Block) → Contains (present blocks) b → (b.host ≡ w.self.id → ⊥) → b.shared ≡ true → IsTrue (w.over b.host b.mode_gen)

-- One of the calls read the resource's name on the area.
pub record IsVerified (w : WayContext) (ms : List Submitted) : Type 0 where
  pub read : Submitted
  pub name : List ℕ
  pub of_lease : Contains ms read
  -- the calls after and before that read
  pub newer : List Submitted
  pub before : List Submitted
  pub split : ms ≡ newer ++ read ∷ before
  pub verified : verified_by w.layout w.lockspace read before ≡ Some name

-- ---- what a call writes

-- A block: with pairs it has the turn above the one that was shown last, and the names of its resource.
abbrev pub WritesBlock : WayContext → List Submitted → Call → Block → Type 0
WritesBlock w ms c b = c.op ≡ WriteRecord (block_record w.layout (base_turn w.layout w.self.id ms + 1) w.lockspace (verified_name w.layout w.lockspace ms) b)

-- A leader.
abbrev pub WritesLeader : WayContext → Call → Leader → Type 0
WritesLeader w c l = c.op ≡ WriteRecord (leader_record w.layout l)

-- ---- the ballot

-- Phase 1's write: above each free, in no instance below the own block's.
pub record Phase1Way (w : WayContext) (c : Call) (ms : List Submitted) : Type 0 where
  pub own : Block
  pub wrote : WritesBlock w ms c own
  pub host : own.host ≡ w.self.id
  -- with pairs its turn was shown, too
  pub known : IsSome (own_block w.layout w.self.id ms)
  -- whoever saw a free may have begun the next instance
  pub fresh : freed ms < own.lver
  pub rises : (b : Block) → block_submitted ms ≡ Some b → b.lver ≤ own.lver
  -- so every later call of the lease knows the resource's name
  pub named : IsVerified w ms

-- Phase 1's read, made when that write had been answered ok.
pub record Phase1ReadWay (w : WayContext) (work : Work) (at : ℕ) (c : Call) (ms : List Submitted) : Type 0 where
  pub after : Comes work Phase1Write ms
  pub done : IsWrittenBy after.prior at
  pub reads : c.op ≡ ReadSectors (block_sectors w.layout)

-- Phase 2's write: in the blocks which that read gave nothing stops the ballot, nor does another's shared mode where it bars.
pub record Phase2Way (w : WayContext) (work : Work) (c : Call) (ms : List Submitted) : Type 0 where
  pub after : ComesBy work Phase1Read ms
  pub own : Block
  pub known : block_submitted after.rest ≡ Some own
  pub blocks : List (Option Block)
  pub given : blocks_given w.layout after.prior after.rest ≡ Some blocks
  pub clear : stop_of own blocks ≡ None
  pub shared : Bool
  pub mode_gen : ℕ
  pub wrote : WritesBlock w ms c (moded_block (phase2_block w.self own (ballot_blocks own blocks)) shared mode_gen)
  pub aim : Aim
  pub aimed : w.aims work ≡ Some aim
  pub alone : looks_for_shared aim ≡ true → NoOtherShared w blocks

-- Phase 2's read, made when that write had been answered ok.
pub record Phase2ReadWay (w : WayContext) (work : Work) (at : ℕ) (c : Call) (ms : List Submitted) : Type 0 where
  pub after : Comes work Phase2Write ms
  pub done : IsWrittenBy after.prior at
  pub reads : c.op ≡ ReadSectors (block_sectors w.layout)

-- The leader of the instance that this read won is written as held.
pub record TakeWay (w : WayContext) (work : Work) (at : ℕ) (c : Call) (ms : List Submitted) : Type 0 where
  pub after : ComesBy work Phase2Read ms
  pub heeded : IsHeededBy after.prior at
  pub leader : Leader
  pub wrote : WritesLeader w c leader
  pub held : leader.held ≡ true
  pub won : ended_ballot w.layout after.prior after.rest ≡ Some (leader.lver, w.self)

-- ---- modes and frees

-- Why the own block is given the shared mode: a shared acquire has taken the leader of its instance, or a holding is converted.
pub data ModeReason (w : WayContext) (work : Work) (at : ℕ) (own : Block) (ms : List Submitted) : Type 0 where
  After_take : (after : Comes work TakeLeader ms) → w.aims work ≡ Some (Acquires Shared) → IsWrittenBy after.prior at → lver_written after.prior ≡ own.lver
      → ModeReason w work at own ms
  In_conversion : w.aims work ≡ Some (Converts Shared) → ModeReason w work at own ms

-- The own block with the shared mode.
pub record ModeWay (w : WayContext) (work : Work) (at : ℕ) (c : Call) (ms : List Submitted) : Type 0 where
  pub own : Block
  pub known : block_submitted ms ≡ Some own
  pub wrote : WritesBlock w ms c (moded_block own true w.self.generation)
  pub why : ModeReason w work at own ms

-- Why a leader is freed: a shared acquire's mode stands, a holding was given up, or it is owed.
pub data FreeReason (w : WayContext) (work : Work) (at n : ℕ) (ms : List Submitted) : Type 0 where
  After_mode : (after : Comes work SetMode ms) → w.aims work ≡ Some (Acquires Shared) → IsWrittenBy after.prior at → lver_written after.prior ≡ n
      → FreeReason w work at n ms
  In_release : w.aims work ≡ Some Releases → FreeReason w work at n ms
  In_settling : w.aims work ≡ Some Settles → FreeReason w work at n ms

-- The leader of an instance that was won is written as free, while no ballot is open.
pub record FreeWay (w : WayContext) (work : Work) (at : ℕ) (c : Call) (ms : List Submitted) : Type 0 where
  pub leader : Leader
  pub wrote : WritesLeader w c leader
  pub free : leader.held ≡ false
  pub won : Contains (ended_ballots w.layout ms) (leader.lver, w.self)
  pub concluded : open_ballot w.layout ms ≡ None
  pub why : FreeReason w work at leader.lver ms

-- The own block without a mode.
pub record ClearWay (w : WayContext) (c : Call) (ms : List Submitted) : Type 0 where
  pub own : Block
  pub known : block_submitted ms ≡ Some own
  pub wrote : WritesBlock w ms c (moded_block own false 0)

-- The read of the area before an owed free.
pub record ReadBeforeWay (w : WayContext) (work : Work) (c : Call) (ms : List Submitted) : Type 0 where
  pub reads : c.op ≡ ReadSectors (area_sectors w.layout)
  pub settles : w.aims work ≡ Some Settles
  pub concluded : open_ballot w.layout ms ≡ None

-- ---- reads that only areas with pairs have

-- The read of the blocks before a settling's block.
pub record BeforeBlockWay (w : WayContext) (work : Work) (c : Call) (ms : List Submitted) : Type 0 where
  pub paired : w.layout.paired ≡ true
  pub reads : c.op ≡ ReadSectors (block_sectors w.layout)
  pub settles : w.aims work ≡ Some Settles

-- How many sectors a read has: leader and request too, or the blocks alone.
abbrev pub sectors_of_read : Layout → LeaseRead → ℕ
sectors_of_read g (OfArea name) = area_sectors g
sectors_of_read g OfFree = area_sectors g
sectors_of_read g OfBlock = block_sectors g
sectors_of_read g OfPhase1 = block_sectors g
sectors_of_read g OfPhase2 = block_sectors g

-- A read that is made once more: the newest call before is the first one, in whose answer some host's second sector is torn.
pub record AgainWay (w : WayContext) (work : Work) (at : ℕ) (c : Call) (ms : List Submitted) (read : LeaseRead) : Type 0 where
  pub paired : w.layout.paired ≡ true
  pub after : Comes work (step_of_read read) ms
  pub bytes : List ℕ
  pub torn : (blocks_bytes w.layout after.prior ≡ Some bytes) × (needs_again w.layout bytes ≡ true)
  pub heeded : IsHeededBy after.prior at
  pub reads : c.op ≡ ReadSectors (sectors_of_read w.layout read)

-- ---- the calls of a lease

-- By the step.
abbrev pub StepWay : WayContext → Work → ℕ → Call → List Submitted → LeaseStep → Type 0
StepWay w work at c ms (ReadArea name) = c.op ≡ ReadSectors (area_sectors w.layout)
StepWay w work at c ms Phase1Write = Phase1Way w c ms
StepWay w work at c ms Phase1Read = Phase1ReadWay w work at c ms
StepWay w work at c ms Phase2Write = Phase2Way w work c ms
StepWay w work at c ms Phase2Read = Phase2ReadWay w work at c ms
StepWay w work at c ms TakeLeader = TakeWay w work at c ms
StepWay w work at c ms SetMode = ModeWay w work at c ms
StepWay w work at c ms FreeLeader = FreeWay w work at c ms
StepWay w work at c ms ClearMode = ClearWay w c ms
StepWay w work at c ms ReadBeforeFree = ReadBeforeWay w work c ms
StepWay w work at c ms ReadBeforeBlock = BeforeBlockWay w work c ms
StepWay w work at c ms (ReadAgain read) = AgainWay w work at c ms read

-- By what the call is for: the calls of a lease are for nothing else.
abbrev pub PurposeWay : WayContext → ℕ → Call → List Submitted → Purpose → Type 0
PurposeWay w at c ms (Lease work step) = StepWay w work at c ms step
PurposeWay w at c ms p = ⊥

-- A call with those before it.
pub record CallWay (w : WayContext) (m : Submitted) (ms : List Submitted) : Type 0 where
  pub way : PurposeWay w m.at m.call ms m.call.purpose
  -- a lease makes its calls one after another
  pub answered : (d : Submitted) → Contains ms d → is_some d.answer ≡ true
  pub above : (d : Submitted) → Contains ms d → d.call.number < m.call.number

-- Each of the calls with those before it.
abbrev pub Ways : WayContext → List Submitted → Type 0
Ways w [] = Unit {0}
Ways w (m ∷ ms) = CallWay w m ms × Ways w ms

-- Whether an area begins there: between two bases lie the calls of two leases.
abbrev pub IsAligned : Setting → Spot → Type 0
IsAligned st at = at.base % st.layout.area ≡ 0

-- The calls of each lease have their ways.
pub record WayFacts (st : Setting) (t : Trace) : Type 0 where
  pub each : (s : Session) (at : Spot) → Contains (sessions st t) s → IsAligned st at → Ways (way_context st t s) (lease_calls st t s at)
