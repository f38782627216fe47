-- What is carried from event to event of a quiet acquire: at which call of its course it is, what that call is, and what the area holds.
use Rattle.sl_area.specs.AreaLayout.{area_sectors, block_offset, block_place, block_sectors, in_area, is_base, leader_offset}
use Rattle.sl_area.specs.AreaRecords.{block_record, leader_record}
use Rattle.sl_area.specs.Pairs.{later_pair}
use Rattle.sl_due.specs.Due.{IsHostTrace}
use Rattle.sl_run.specs.Lawful.{IsSetting}
use Rattle.sl_trace.specs.Ballots.{in_instance, moded_block, next_mbal}
use Rattle.sl_trace.specs.Jobs.{command_numbered}
use Rattle.sl_trace.specs.LeaseDecisions.{lease_place}
use Rattle.sl_trace.specs.Leases.{base_turn, block_submitted, freed, is_leader_of, lease_calls, own_or_read, spot_of, verified_name}
use Rattle.sl_headline.specs.Quiet.Area.CalmAreas.{IsCalm}
use Rattle.sl_headline.specs.Quiet.Course.CourseOfCalls.{Same, first_block, second_block}
use Rattle.sl_headline.specs.Quiet.Course.QuietDecisions.{StandsAlone, all_whole}
use Rattle.sl_headline.specs.Quiet.Reads.ReadsShowArea.{blocks_there}
use Rattle.sl_headline.specs.Quiet.Leases.CallsStay.{IsOfOthers}
use Rattle.sl_run.specs.Quiet.{blocks_needed, job_calls, leader_there}
use Rattle.sl_run.specs.Safety.{block_there, pair_there}
use Rattle.sl_run.specs.Worlds.{Daemon, Landing, Machine, Stamp, World, machine_at}
use Rattle.sl_run_law.specs.Course.CallStamps.{stamp_in}
use Rattle.sl_sector.specs.declared.sector.Block.{Block}
use Rattle.sl_sector.specs.declared.sector.Leader.{Leader}
use Rattle.sl_sector.specs.SectorLayouts.{is_first_turn}
use Rattle.sl_sector.specs.declared.sector.PairBlock.{PairBlock}
use Rattle.sl_trace.specs.declared.session.Session.{Session}
use Rattle.sl_trace.specs.Sessions.{is_active, me, session_numbered}
use Rattle.sl_trace.specs.Traces.{Setting, Submitted, Trace, is_answered_ok, reply_to}
use Rattle.sl_trace.specs.declared.command.Command.TheVariants.{Acquire}
use Rattle.sl_trace.specs.declared.command.ResourceArg.{ResourceArg}
use Rattle.sl_trace.specs.declared.effects.Entry.{Entry}
use Rattle.sl_trace.specs.declared.effects.LeaseStep.TheVariants.{FreeLeader, Phase1Read, Phase1Write, Phase2Read, Phase2Write, ReadArea, SetMode, TakeLeader}
use Rattle.sl_trace.specs.declared.effects.LeaseStep.{LeaseStep}
use Rattle.sl_trace.specs.declared.effects.Op.TheVariants.{ReadSectors, WriteRecord}
use Rattle.sl_trace.specs.declared.effects.Op.{Op}
use Rattle.sl_trace.specs.declared.effects.Purpose.TheVariants.{Lease}
use Rattle.sl_trace.specs.declared.effects.Spot.{Spot}
use Rattle.sl_trace.specs.declared.effects.Work.TheVariants.{ForJob}
use Rattle.sl_trace.specs.declared.input.Input.TheVariants.{Exit}
use Rattle.sl_words.specs.Bounds.{record_numbers}
use Rattle.std.specs.List.{AllByRecursion}
use Rattle.std.specs.Prelude.{Bool, Contains, IsSome, IsTrue, List, None, Option, Some, [], false, is_some, map, true, ℕ, ◌++◌, ◌+◌, ◌<◌, ◌∷◌, ◌≡◌, ◌≤◌, ◌⊎◌}

-- ---- the course

-- The calls of the course, in their order; the last two of shared mode alone.
pub data Stage : Type 0 where
  Reads_area : Stage
  Writes_first : Stage
  Reads_first : Stage
  Writes_second : Stage
  Reads_second : Stage
  Takes_leader : Stage
  Sets_mode : Stage
  Frees_leader : Stage

-- The stages before, the newest first.
abbrev pub stages_before : Stage → List Stage
stages_before Reads_area = []
stages_before Writes_first = Reads_area ∷ []
stages_before Reads_first = Writes_first ∷ Reads_area ∷ []
stages_before Writes_second = Reads_first ∷ Writes_first ∷ Reads_area ∷ []
stages_before Reads_second = Writes_second ∷ Reads_first ∷ Writes_first ∷ Reads_area ∷ []
stages_before Takes_leader = Reads_second ∷ Writes_second ∷ Reads_first ∷ Writes_first ∷ Reads_area ∷ []
stages_before Sets_mode = Takes_leader ∷ Reads_second ∷ Writes_second ∷ Reads_first ∷ Writes_first ∷ Reads_area ∷ []
stages_before Frees_leader = Sets_mode ∷ Takes_leader ∷ Reads_second ∷ Writes_second ∷ Reads_first ∷ Writes_first ∷ Reads_area ∷ []

-- The stage that comes next, if one does: exclusive mode ends with the leader taken.
abbrev pub stage_next : Bool → Stage → Option Stage
stage_next shared Reads_area = Some Writes_first
stage_next shared Writes_first = Some Reads_first
stage_next shared Reads_first = Some Writes_second
stage_next shared Writes_second = Some Reads_second
stage_next shared Reads_second = Some Takes_leader
stage_next false Takes_leader = None
stage_next true Takes_leader = Some Sets_mode
stage_next shared Sets_mode = Some Frees_leader
stage_next shared Frees_leader = None

-- The acquire, and what stood there when it began.
pub record Asked : Type 0 where
  pub machine : ℕ
  pub job : ℕ
  pub process : ℕ
  pub resource : ResourceArg
  pub shared : Bool
  pub persistent : Bool
  pub session : Session
  pub same : Same
  pub leader : Leader
  -- of all hosts, by their numbers
  pub blocks : List Block
  pub block_of : ℕ → Block
  -- the own block: submitted last, else the one that stands there
  pub own : Block
  -- with pairs the turn of the own block that stands there
  pub turn : ℕ
  -- the lease's calls of before
  pub before : List Submitted

-- The leader that is written.
abbrev pub leader_of_asked : Asked → Bool → Leader
leader_of_asked q held =
    record {
      held = held;
      num_hosts = q.same.place.layout.hosts;
      lver = q.leader.lver + 1;
      generation = q.same.self.generation;
      owner = q.same.self.id;
      lockspace = q.resource.lockspace;
      resource = q.resource.name;
    }

abbrev pub first_of_asked : Asked → Block
first_of_asked q = first_block q.same q.before q.leader q.blocks q.own

abbrev pub second_of_asked : Asked → Block
second_of_asked q = second_block q.same (first_of_asked q)

abbrev pub third_of_asked : Asked → Block
third_of_asked q = moded_block (second_of_asked q) true q.same.self.generation

-- The turn of the own block that was shown last when the call at a stage is made, and at the first stage the one of the start.
abbrev pub turn_at : Asked → Stage → ℕ
turn_at q Reads_area = q.turn
turn_at q Writes_first = q.turn
turn_at q Reads_first = q.turn + 1
turn_at q Writes_second = q.turn + 1
turn_at q Reads_second = q.turn + 1 + 1
turn_at q Takes_leader = q.turn + 1 + 1
turn_at q Sets_mode = q.turn + 1 + 1
turn_at q Frees_leader = q.turn + 1 + 1 + 1

-- The write of a block at a stage: with pairs it has the next turn, and stands at that turn's place.
abbrev pub block_op : Asked → Stage → Block → Op
block_op q stage b = WriteRecord (block_record q.same.place.layout (turn_at q stage + 1) q.session.lockspace q.resource.name b)

abbrev pub block_at : Asked → Stage → ℕ
block_at q stage = block_place q.same.place.layout q.resource.offset q.session.id (turn_at q stage + 1)

-- What the call at a stage is for, where it is, and what it does.
abbrev pub step_at : Asked → Stage → LeaseStep
step_at q Reads_area = ReadArea q.resource.name
step_at q Writes_first = Phase1Write
step_at q Reads_first = Phase1Read
step_at q Writes_second = Phase2Write
step_at q Reads_second = Phase2Read
step_at q Takes_leader = TakeLeader
step_at q Sets_mode = SetMode
step_at q Frees_leader = FreeLeader

abbrev pub op_at : Asked → Stage → Op
op_at q Reads_area = ReadSectors (area_sectors q.same.place.layout)
op_at q Writes_first = block_op q Writes_first (first_of_asked q)
op_at q Reads_first = ReadSectors (block_sectors q.same.place.layout)
op_at q Writes_second = block_op q Writes_second (second_of_asked q)
op_at q Reads_second = ReadSectors (block_sectors q.same.place.layout)
op_at q Takes_leader = WriteRecord (leader_record q.same.place.layout (leader_of_asked q true))
op_at q Sets_mode = block_op q Sets_mode (third_of_asked q)
op_at q Frees_leader = WriteRecord (leader_record q.same.place.layout (leader_of_asked q false))

abbrev pub offset_at : Asked → Stage → ℕ
offset_at q Reads_area = q.resource.offset
offset_at q Writes_first = block_at q Writes_first
offset_at q Writes_second = block_at q Writes_second
offset_at q Sets_mode = block_at q Sets_mode
offset_at q Reads_first = block_offset q.same.place.layout q.resource.offset 1
offset_at q Reads_second = block_offset q.same.place.layout q.resource.offset 1
offset_at q Takes_leader = leader_offset q.resource.offset
offset_at q Frees_leader = leader_offset q.resource.offset

-- The own block that a read at a stage must find; none is looked for while one is being written.
abbrev pub own_at : Asked → Stage → Option Block
own_at q Reads_first = Some (first_of_asked q)
own_at q Reads_second = Some (second_of_asked q)
own_at q stage = None

-- The call at a stage.
pub record IsCallAt (q : Asked) (stage : Stage) (m : Submitted) : Type 0 where
  pub purpose : m.call.purpose ≡ Lease (ForJob q.job) (step_at q stage)
  pub op : m.call.op ≡ op_at q stage
  pub path : m.call.path ≡ q.resource.path
  pub offset : m.call.offset ≡ offset_at q stage

-- These are the calls at these stages, and each was answered ok.
abbrev pub AllDone : Asked → List Stage → List Submitted → Type 0
AllDone q [] [] = Unit {0}
AllDone q [] (m ∷ ms) = ⊥
AllDone q (stage ∷ stages) [] = ⊥
AllDone q (stage ∷ stages) (m ∷ ms) = IsCallAt q stage m × (is_answered_ok m ≡ true) × AllDone q stages ms

-- What the acquire is in its daemon's setting, all along.
pub record IsAskedOf (st : Setting) (q : Asked) : Type 0 where
  pub lockspace : q.session.lockspace ≡ q.resource.lockspace
  pub place : q.same.place ≡ lease_place st q.session
  pub id : q.same.self.id ≡ q.session.id
  pub answered : AllByRecursion (λ m. is_some m.answer ≡ true) q.before
  pub host : (1 ≤ q.session.id) × (q.session.id ≤ st.layout.hosts)
  pub base : IsTrue (is_base st.layout q.resource.offset)
  pub free : q.leader.held ≡ false
  pub names : IsTrue (is_leader_of st.layout q.resource.lockspace q.resource.name q.leader)
  pub below : AllByRecursion (λ b. b.lver ≤ q.leader.lver) q.blocks
  -- the own block, and the frees of before
  pub own_is : own_or_read q.session.id (block_submitted q.before) (all_whole q.blocks) ≡ Some q.own
  pub own_low : q.own.lver ≤ q.leader.lver + 1
  pub unaccepted : q.own.lver ≡ q.leader.lver + 1 → q.own.bal ≡ 0
  pub freed_low : freed q.before ≤ q.leader.lver
  pub lver : q.leader.lver + 1 < record_numbers
  pub mbal : next_mbal st.layout.hosts q.session.id (map (λ b. b.mbal) (in_instance (q.leader.lver + 1) (q.own ∷ []))) < record_numbers
  -- the turns of all blocks that it writes are numbers
  pub turns : st.layout.paired ≡ true → q.turn + blocks_needed q.shared < record_numbers

-- The last two stages are of shared mode alone.
abbrev pub IsOfMode : Bool → Stage → Type 0
IsOfMode shared Sets_mode = shared ≡ true
IsOfMode shared Frees_leader = shared ≡ true
IsOfMode shared stage = Unit {0}

-- The daemon while the acquire is at a call: it is unanswered, and what came before it was answered ok.
pub record DaemonOnCourse (st : Setting) (es : Trace) (q : Asked) (stage : Stage) : Type 0 where
  pub call : Submitted
  pub older : List Submitted
  pub command : command_numbered st es q.job ≡ Some (Acquire q.resource q.shared q.process q.persistent)
  pub runs : reply_to es q.job ≡ None
  pub calls : job_calls es q.job ≡ call ∷ older
  pub lease : lease_calls st es q.session (spot_of q.resource) ≡ call ∷ (older ++ q.before)
  pub waits : call.answer ≡ None
  pub mode : IsOfMode q.shared stage
  pub is : IsCallAt q stage call
  pub done : AllDone q (stages_before stage) older
  pub session : session_numbered st es q.session.number ≡ Some q.session
  pub active : IsTrue (is_active st es q.session)
  pub self : me es q.session ≡ q.same.self
  -- from the read of the area on the lease has verified the resource's name
  pub name : (stage ≡ Reads_area) ⊎ (verified_name st.layout q.session.lockspace (older ++ q.before) ≡ q.resource.name)
  -- and been shown the turn of its block
  pub turn : st.layout.paired ≡ true → (stage ≡ Reads_area) ⊎ (base_turn st.layout q.session.id (older ++ q.before) ≡ turn_at q stage)

-- A host's pair has a block of this turn, and its second sector is whole, so that it is read once.
pub record PairStands (w : World) (at : Spot) (host turn : ℕ) : Type 0 where
  pub pair : PairBlock
  pub stands : later_pair (pair_there w at host true) (pair_there w at host false) ≡ Some pair
  pub is : pair.turn ≡ turn
  pub whole : IsSome (pair_there w at host false)

-- The sector of this turn spells it; the other may be written.
pub record SectorStands (w : World) (at : Spot) (host turn : ℕ) : Type 0 where
  pub pair : PairBlock
  pub stands : pair_there w at host (is_first_turn turn) ≡ Some pair
  pub is : pair.turn ≡ turn

-- What the own pair must have at a stage: a read finds it whole, and a write leaves the block before it.
abbrev pub OwnPairAt : World → Asked → Stage → Type 0
OwnPairAt w q Reads_area = PairStands w (spot_of q.resource) q.session.id (turn_at q Reads_area)
OwnPairAt w q Writes_first = SectorStands w (spot_of q.resource) q.session.id (turn_at q Writes_first)
OwnPairAt w q Reads_first = PairStands w (spot_of q.resource) q.session.id (turn_at q Reads_first)
OwnPairAt w q Writes_second = SectorStands w (spot_of q.resource) q.session.id (turn_at q Writes_second)
OwnPairAt w q Reads_second = PairStands w (spot_of q.resource) q.session.id (turn_at q Reads_second)
OwnPairAt w q stage = Unit {0}

-- The area while the acquire is at the call of this number, which was made at this step: others' blocks are those of the start, the own
-- block is the one written last, no write is in flight there but this machine's, and what landed there since is that call's.
pub record AreaOnCourse (w : World) (q : Asked) (stage : Stage) (number made : ℕ) : Type 0 where
  pub others : (host : ℕ) → 1 ≤ host → host ≤ w.layout.hosts → (host ≡ q.session.id → ⊥) → Contains q.blocks (q.block_of host) × (block_there w (spot_of q.resource) host ≡ Some (q.block_of host))
  pub own : (b : Block) → own_at q stage ≡ Some b → block_there w (spot_of q.resource) q.session.id ≡ Some b
  pub leader : stage ≡ Reads_area → leader_there w (spot_of q.resource) ≡ Some q.leader
  pub blocks : stage ≡ Reads_area → blocks_there w (spot_of q.resource) ≡ all_whole q.blocks
  -- with pairs the second sectors of others are whole, and the own block has its turn
  pub seconds : w.layout.paired ≡ true → (host : ℕ) → 1 ≤ host → host ≤ w.layout.hosts → (host ≡ q.session.id → ⊥) → IsSome (pair_there w (spot_of q.resource) host false)
  pub pair : w.layout.paired ≡ true → OwnPairAt w q stage
  pub calm : IsCalm w (spot_of q.resource) q.machine
  pub since : (l : Landing) → Contains w.landings l → l.path ≡ q.resource.path → IsTrue (in_area w.layout q.resource.offset l.offset) → made < l.step → l.writer ≡ Some (q.machine, number)

-- What is carried from event to event.
pub record OnCourse (w : World) (q : Asked) (stage : Stage) : Type 0 where
  pub machine : Machine
  pub daemon : Daemon
  pub at : (machine_at w q.machine ≡ Some machine) × (machine.daemon ≡ Some daemon)
  pub asked : IsAskedOf daemon.setting q
  pub host : DaemonOnCourse daemon.setting daemon.trace q stage
  pub stamp : Stamp
  pub stamped : stamp_in daemon.stamps host.call.at ≡ Some stamp
  pub area : AreaOnCourse w q stage host.call.call.number stamp.step

-- An entry that does not concern the call: it answers another, or none, the process doesn't exit by it, it comes in time, and after it the
-- session is neither in recovery nor leaving.
pub record IsBeside (st : Setting) (past : Trace) (e : Entry) (q : Asked) (call : Submitted) : Type 0 where
  pub others : IsOfOthers e call.call.number
  pub stays : e.input ≡ Exit q.process → ⊥
  pub timely : e.reading < call.reading + st.timing.io
  pub active : IsTrue (is_active st (e ∷ past) q.session)

-- It leaves the daemon on its course, at the same call.
abbrev pub OthersKeepCourse : Type 0
OthersKeepCourse =
    (st : Setting) (past : Trace) (e : Entry) (q : Asked) (stage : Stage) → IsSetting st → IsHostTrace st (e ∷ past) → IsAskedOf st q → (c : DaemonOnCourse st past q stage) → IsBeside st past e q c.call
    → (d : DaemonOnCourse st (e ∷ past) q stage) × (d.call ≡ c.call)

-- ---- what a later read of the blocks finds

-- While it is on its course the blocks that stand there are whole, the own one is the last written, and each other is of an earlier instance.
abbrev pub AreasShowOwn : Type 0
AreasShowOwn = (w : World) (q : Asked) (stage : Stage) (number made : ℕ) (own : Block) → AreaOnCourse w q stage number made → own_at q stage ≡ Some own →
    AllByRecursion (λ b. b.lver < own.lver) q.blocks → (bs : List Block) × (blocks_there w (spot_of q.resource) ≡ all_whole bs) × StandsAlone own bs
