-- What a lease decides fits the calls before it: the call that it makes has its way, and its block or leader is the one that the laws ask.
use Rattle.sl_area.specs.AreaLayout.{area_sectors, block_place, block_sectors}
use Rattle.sl_area.specs.AreaRecords.{block_record, leader_record}
use Rattle.sl_due.specs.CarriedLease.{name_on, next_turn}
use Rattle.sl_run.specs.LawfulBlock.{LawfulPhase1}
use Rattle.sl_trace.specs.Ballots.{moded_block}
use Rattle.sl_trace.specs.LeaseDecisions.{LeasePlace, leader_for, lease_place}
use Rattle.sl_trace.specs.Leases.{LeaseKnown, block_submitted, exclusive_on, has_shared_on, known, lease_calls}
use Rattle.sl_trace.specs.Jobs.{aim_of}
use Rattle.sl_trace.specs.declared.lease.Aim.{Aim}
use Rattle.sl_trace.specs.declared.lease.LeaseNext.TheVariants.{AnswerJob, BecomeExclusive, BecomeShared, GrantJob, Nothing, ReadFor, WriteBlock, WriteLeader}
use Rattle.sl_trace.specs.declared.lease.LeaseNext.{LeaseNext}
use Rattle.sl_sector.specs.declared.sector.Block.{Block}
use Rattle.sl_sector.specs.declared.sector.Leader.{Leader}
use Rattle.sl_sector.specs.declared.sector.Rec.{Rec}
use Rattle.sl_trace.specs.Sessions.{generation_of}
use Rattle.sl_trace.specs.declared.session.Session.{Session}
use Rattle.sl_due_facts.specs.Facts.WayFacts.{IsVerified, StepWay, WayContext, Ways, way_context}
use Rattle.sl_trace.specs.Traces.{Answered, Setting, Submitted, Trace, is_before_input}
use Rattle.sl_trace.specs.declared.effects.Call.{Call}
use Rattle.sl_trace.specs.declared.effects.LeaseRead.TheVariants.{OfArea, OfFree}
use Rattle.sl_trace.specs.declared.effects.LeaseStep.TheVariants.{ClearMode, Phase1Write, ReadAgain, ReadArea, ReadBeforeFree, SetMode}
use Rattle.sl_trace.specs.declared.effects.LeaseStep.{LeaseStep}
use Rattle.sl_trace.specs.declared.effects.Op.TheVariants.{ReadSectors, WriteRecord}
use Rattle.sl_trace.specs.declared.effects.Op.{Op}
use Rattle.sl_trace.specs.declared.effects.Purpose.TheVariants.{Lease}
use Rattle.sl_trace.specs.declared.effects.Spot.{Spot}
use Rattle.sl_trace.specs.declared.effects.Work.{Work}
use Rattle.sl_trace.specs.declared.input.Answer.{Answer}
use Rattle.std.specs.Prelude.{List, Some, false, if◌then◌else◌, option_map, true, ℕ, ◌∷◌, ◌≡◌, ◌≤◌}

-- Where a lease decides: its session and area, the work for which it does, and the number of the entry.
pub record Moment : Type 0 where
  pub setting : Setting
  pub trace : Trace
  pub session : Session
  pub at : Spot
  pub work : Work
  pub now : ℕ

abbrev pub context_at : Moment → WayContext
context_at x = way_context x.setting x.trace x.session

abbrev pub calls_at : Moment → List Submitted
calls_at x = lease_calls x.setting x.trace x.session x.at

abbrev pub place_at : Moment → LeasePlace
place_at x = lease_place x.setting x.session

abbrev pub known_at : Moment → LeaseKnown
known_at x = known x.setting x.trace x.session x.at

-- The next call has its way.
abbrev pub StepIs : Moment → LeaseStep → Op → Type 0
StepIs x step op = (c : Call) → c.op ≡ op → StepWay (context_at x) x.work x.now c (calls_at x) step

-- What a step reads: the whole area, or all blocks.
abbrev pub read_op : Setting → LeaseStep → Op
read_op st (ReadArea name) = ReadSectors (area_sectors st.layout)
read_op st ReadBeforeFree = ReadSectors (area_sectors st.layout)
read_op st (ReadAgain (OfArea name)) = ReadSectors (area_sectors st.layout)
read_op st (ReadAgain OfFree) = ReadSectors (area_sectors st.layout)
read_op st step = ReadSectors (block_sectors st.layout)

-- Where the session's next block on the area stands, and its record.
abbrev pub next_place : Setting → Trace → Session → Spot → ℕ
next_place st t s at = block_place st.layout at.base s.id (next_turn st t s at)

abbrev pub next_record : Setting → Trace → Session → Spot → Block → Rec
next_record st t s at b = block_record st.layout (next_turn st t s at) s.lockspace (name_on st t s at) b

abbrev pub record_at : Moment → Block → Rec
record_at x b = next_record x.setting x.trace x.session x.at b

-- The mode of the block: the holding's in a ballot, else as the step says.
abbrev pub ModeIs : Moment → Block → LeaseStep → Type 0
ModeIs x b SetMode = (b.shared ≡ true) × (b.mode_gen ≡ generation_of x.trace x.session)
ModeIs x b ClearMode = (b.shared ≡ false) × (b.mode_gen ≡ 0)
ModeIs x b step =
    (b.shared ≡ has_shared_on x.trace x.session x.at)
    × (b.mode_gen ≡ (if has_shared_on x.trace x.session x.at then generation_of x.trace x.session else 0))

-- A ballot that begins is lawful, of a name that was verified; any other block has its way.
abbrev pub BlockIsNext : Moment → Block → LeaseStep → Type 0
BlockIsNext x b Phase1Write = ((c : Submitted) → LawfulPhase1 x.setting x.trace x.session x.at c b) × IsVerified (context_at x) (calls_at x)
BlockIsNext x b step = StepIs x step (WriteRecord (record_at x b))

-- A leader is the lease's.
abbrev pub LeaderIsOwn : Moment → Leader → Type 0
LeaderIsOwn x l = l ≡ leader_for (place_at x) (known_at x) l.held l.lver

-- What was decided fits.
abbrev pub NextIs : Moment → LeaseNext → Type 0
NextIs x Nothing = Unit {0}
NextIs x (ReadFor step) = StepIs x step (read_op x.setting step)
NextIs x (WriteBlock step b) = BlockIsNext x b step × ModeIs x b step
NextIs x (WriteLeader step l) = StepIs x step (WriteRecord (leader_record x.setting.layout l)) × LeaderIsOwn x l
-- no refusal of a job by its work is one that comes before an input
NextIs x (AnswerJob r) = is_before_input r ≡ false
NextIs x (GrantJob mode lver) = Unit {0}
NextIs x (BecomeShared lver l) =
    (option_map (λ g. g.lver) (exclusive_on x.trace x.session x.at) ≡ Some lver) × LeaderIsOwn x l × (l.held ≡ false) × (l.lver ≡ lver)
NextIs x (BecomeExclusive lver b) = (own : Block) × (block_submitted (calls_at x) ≡ Some own) × (b ≡ moded_block own false 0)

-- The lease's newest call was answered so, for this work, and it was heeded in the entry of the moment.
pub record IsHeard (x : Moment) (step : LeaseStep) (aim : Aim) (answer : Answer) : Type 0 where
  pub call : Submitted
  pub rest : List Submitted
  pub newest : calls_at x ≡ call ∷ rest
  pub ways : Ways (context_at x) (calls_at x)
  pub its : call.call.purpose ≡ Lease x.work step
  pub told : Answered
  pub answered : (call.answer ≡ Some told) × (told.answer ≡ answer) × (told.heeded ≡ true) × (told.at ≡ x.now)
  pub later : call.at ≤ x.now
  pub aimed : aim_of x.setting x.trace x.work ≡ Some aim
