-- What a lease decided is done: the state that follows, and what is asked of the calls and replies in it.
use Rattle.sl_host_law.specs.Answers.CarriedDecisions.{MayCall}
use Rattle.sl_area.specs.AreaLayout.{area_sectors, block_offset, block_place, block_sectors, leader_offset}
use Rattle.sl_area.specs.AreaRecords.{block_record, leader_record}
use Rattle.sl_due.specs.CarriedLease.{carry_lease, grant_of}
use Rattle.sl_due.specs.Steps.{Step}
use Rattle.sl_host_state.specs.KeptState.{HostState, LeaseState, MemberState}
use Rattle.sl_host_state.specs.MadeEffects.{with_call, with_end, with_grant, with_reply, with_start}
use Rattle.sl_trace.specs.Jobs.{process_named}
use Rattle.sl_trace.specs.declared.lease.LeaseNext.TheVariants.{AnswerJob, BecomeExclusive, BecomeShared, GrantJob, Nothing, ReadFor, WriteBlock, WriteLeader}
use Rattle.sl_trace.specs.declared.lease.LeaseNext.{LeaseNext}
use Rattle.sl_host_law.specs.Questions.Jobs.{command_in}
use Rattle.sl_host_law.specs.Questions.Members.{IsMemberAt, otherwise_at}
use Rattle.sl_host_law.specs.Replies.RepliesAreTaken.{MayReply}
use Rattle.sl_sector.specs.declared.sector.Block.{Block}
use Rattle.sl_sector.specs.declared.sector.Leader.{Leader}
use Rattle.sl_host_law.specs.Steps.Leases.{lease_at}
use Rattle.sl_sector.specs.declared.sector.Rec.{Rec}
use Rattle.sl_host_state.specs.HostStands.{Stands, turn_kept}
use Rattle.sl_trace.specs.declared.session.Session.{Session}
use Rattle.sl_trace.specs.Traces.{end_of, first_child, work_job}
use Rattle.sl_trace.specs.declared.command.Command.TheVariants.{Acquire, RunProgram, TakeOver}
use Rattle.sl_trace.specs.declared.command.Command.{Command}
use Rattle.sl_trace.specs.declared.command.ResourceArg.{ResourceArg}
use Rattle.sl_trace.specs.declared.effects.Grant.{Grant}
use Rattle.sl_trace.specs.declared.effects.LeaseStep.TheVariants.{ClearMode, FreeLeader, ReadAgain, ReadArea, ReadBeforeFree}
use Rattle.sl_trace.specs.declared.effects.LeaseRead.TheVariants.{OfArea, OfFree}
use Rattle.sl_trace.specs.declared.effects.LeaseStep.{LeaseStep}
use Rattle.sl_trace.specs.declared.effects.Mode.TheVariants.{Exclusive, Shared}
use Rattle.sl_trace.specs.declared.effects.Mode.{Mode}
use Rattle.sl_trace.specs.declared.effects.Op.TheVariants.{ReadSectors, WriteRecord}
use Rattle.sl_trace.specs.declared.effects.Op.{Op}
use Rattle.sl_trace.specs.declared.effects.Purpose.TheVariants.{Lease}
use Rattle.sl_trace.specs.declared.effects.Spot.{Spot}
use Rattle.sl_trace.specs.declared.effects.Work.TheVariants.{Settling}
use Rattle.sl_trace.specs.declared.effects.Work.{Work}
use Rattle.sl_trace.specs.declared.input.Input.{Input}
use Rattle.sl_trace.specs.declared.reply.Reply.TheVariants.{Granted}
use Rattle.sl_trace.specs.declared.reply.Reply.{Reply}
use Rattle.std.specs.Prelude.{Bool, List, None, Some, false, true, [], ℕ, ◌%◌, ◌+◌, ◌-◌, ◌≡◌}

-- ---- calls

-- Where a step reads, and how many sectors: leader, request and blocks, or all blocks.
abbrev pub read_from : HostState → Spot → LeaseStep → ℕ
read_from h at (ReadArea name) = at.base
read_from h at ReadBeforeFree = at.base
read_from h at (ReadAgain (OfArea name)) = at.base
read_from h at (ReadAgain OfFree) = at.base
read_from h at step = block_offset h.config.layout at.base 1

abbrev pub sectors_read : HostState → LeaseStep → ℕ
sectors_read h (ReadArea name) = area_sectors h.config.layout
sectors_read h ReadBeforeFree = area_sectors h.config.layout
sectors_read h (ReadAgain (OfArea name)) = area_sectors h.config.layout
sectors_read h (ReadAgain OfFree) = area_sectors h.config.layout
sectors_read h step = block_sectors h.config.layout

-- The turn that the member's next block on the area has.
abbrev pub turn_next : MemberState → Spot → ℕ
turn_next m at = let l : LeaseState = lease_at m at in turn_kept l.pair + 1

-- Where that block stands, and its record.
abbrev pub block_at : HostState → MemberState → Spot → ℕ
block_at h m at = block_place h.config.layout at.base m.who.id (turn_next m at)

abbrev pub record_at : HostState → MemberState → Spot → Block → Rec
record_at h m at b = let l : LeaseState = lease_at m at in block_record h.config.layout (turn_next m at) m.who.lockspace l.name b

-- A read, the write of the own block, and of the leader.
abbrev pub reading : Session → Spot → Work → LeaseStep → HostState → HostState
reading s at work step h = with_call s.number at.path (Lease work step) (read_from h at step) (ReadSectors (sectors_read h step)) h

abbrev pub writing_block : MemberState → Spot → Work → LeaseStep → Block → HostState → HostState
writing_block m at work step b h = with_call m.who.number at.path (Lease work step) (block_at h m at) (WriteRecord (record_at h m at b)) h

abbrev pub writing_leader : Session → Spot → Work → LeaseStep → Leader → HostState → HostState
writing_leader s at work step l h = with_call s.number at.path (Lease work step) (leader_offset at.base) (WriteRecord (leader_record h.config.layout l)) h

-- ---- grants

-- The job's process is granted the resource.
abbrev pub granting : Session → ℕ → ResourceArg → ℕ → Mode → ℕ → Bool → HostState → HostState
granting s j r p mode lver persistent h = with_reply j (Granted lver) (with_grant (grant_of s r p mode lver persistent) h)

-- A program is started for the job, and holds the resource.
abbrev pub starting : Session → ℕ → ResourceArg → List ℕ → Mode → ℕ → HostState → HostState
starting s j r path mode lver h =
    let child : ℕ = first_child + h.started in
    with_start (record { process = child; program = path; job = Some j; stands_for = None }) (with_grant (grant_of s r child mode lver false) h)

-- By the job's command.
abbrev pub granting_for : Session → ℕ → Command → Mode → ℕ → HostState → HostState
granting_for s j (Acquire r shared p persistent) mode lver h = granting s j r p mode lver persistent h
granting_for s j (TakeOver r shared p persistent) mode lver h = granting s j r p mode lver persistent h
granting_for s j (RunProgram r shared path) mode lver h = starting s j r path mode lver h
granting_for s j c mode lver h = h

-- A holding goes on in this mode.
abbrev pub converting : ℕ → Mode → ℕ → Grant → HostState → HostState
converting j mode lver g h = with_reply j (Granted lver) (with_grant (record g { mode = mode; lver = lver }) (with_end (end_of g) h))

-- That of the process in the other mode.
abbrev pub converting_for : MemberState → Spot → ℕ → Command → Mode → ℕ → HostState → HostState
converting_for m at j c mode lver h =
    elim (process_named c) [ None ↦ h | Some p ↦ elim (otherwise_at h m at p mode) [ None ↦ h | Some g ↦ converting j mode lver g h ] ]

-- For the job on whose account the work is done, and for its command.
abbrev pub for_work_of : Work → (ℕ → HostState → HostState) → HostState → HostState
for_work_of work f h = elim (work_job work) [ None ↦ h | Some j ↦ f j h ]

abbrev pub for_command_of : ℕ → (Command → HostState → HostState) → HostState → HostState
for_command_of j f h = elim (command_in h j) [ None ↦ h | Some c ↦ f c h ]

-- The conversion that the job asked for is done.
abbrev pub converted : MemberState → Spot → Work → Mode → ℕ → HostState → HostState
converted m at work mode lver h = for_work_of work (λ j. for_command_of j (λ c. converting_for m at j c mode lver)) h

-- What was decided is done.
abbrev pub carrying_lease : MemberState → Spot → Work → LeaseNext → HostState → HostState
carrying_lease m at work Nothing h = h
carrying_lease m at work (ReadFor step) h = reading m.who at work step h
carrying_lease m at work (WriteBlock step b) h = writing_block m at work step b h
carrying_lease m at work (WriteLeader step l) h = writing_leader m.who at work step l h
carrying_lease m at work (AnswerJob r) h = for_work_of work (λ j. with_reply j r) h
carrying_lease m at work (GrantJob mode lver) h = for_work_of work (λ j. for_command_of j (λ c. granting_for m.who j c mode lver)) h
carrying_lease m at work (BecomeShared lver l) h = writing_leader m.who at Settling FreeLeader l (converted m at work Shared lver h)
carrying_lease m at work (BecomeExclusive lver b) h = writing_block m at Settling ClearMode b (converted m at work Exclusive lver h)

-- ---- what is asked

-- The member may make the call for the lease.
abbrev pub MayWork : HostState → Session → Spot → Work → LeaseStep → ℕ → Op → Type 0
MayWork h s at work step offset op = MayCall h s at.path (Lease work step) offset op

-- With pairs, the area begins where areas do: then the calls on it are those of one lease, which keeps the turn and the resource's name.
abbrev pub BeginsArea : HostState → Spot → Type 0
BeginsArea h at = h.config.layout.paired ≡ true → at.base - at.base % h.config.layout.area ≡ at.base

-- The job on whose account the work is done may have this reply.
abbrev pub MayAnswer : Input → HostState → Step → Work → Reply → Type 0
MayAnswer i h x work r = (j : ℕ) → work_job work ≡ Some j → MayReply i h x j r

-- What is asked for what was decided.
abbrev pub MayCarryLease : Input → HostState → Step → MemberState → Spot → Work → LeaseNext → Type 0
MayCarryLease i h x m at work Nothing = Unit {0}
MayCarryLease i h x m at work (ReadFor step) = MayWork h m.who at work step (read_from h at step) (ReadSectors (sectors_read h step))
MayCarryLease i h x m at work (WriteBlock step b) = MayWork h m.who at work step (block_at h m at) (WriteRecord (record_at h m at b)) × BeginsArea h at
MayCarryLease i h x m at work (WriteLeader step l) = MayWork h m.who at work step (leader_offset at.base) (WriteRecord (leader_record h.config.layout l))
MayCarryLease i h x m at work (AnswerJob r) = MayAnswer i h x work r
MayCarryLease i h x m at work (GrantJob mode lver) = MayAnswer i h x work (Granted lver)
MayCarryLease i h x m at work (BecomeShared lver l) =
    MayAnswer i h x work (Granted lver) × (h.made.grants ≡ [])
    × MayWork (converted m at work Shared lver h) m.who at Settling FreeLeader (leader_offset at.base) (WriteRecord (leader_record (converted m at work Shared lver h).config.layout l))
MayCarryLease i h x m at work (BecomeExclusive lver b) =
    MayAnswer i h x work (Granted lver) × (h.made.grants ≡ [])
    × MayWork (converted m at work Exclusive lver h) m.who at Settling ClearMode (block_at (converted m at work Exclusive lver h) m at) (WriteRecord (record_at (converted m at work Exclusive lver h) m at b))
    × BeginsArea h at

abbrev pub LeasesAreCarried : Type 0
LeasesAreCarried =
    (i : Input) (h : HostState) (x : Step) (k : ℕ) (m : MemberState) (at : Spot) (work : Work) (next : LeaseNext) → IsMemberAt i h x k m → MayCarryLease i h x m at work next
    → Stands i (carrying_lease m at work next h) (carry_lease m.who at work next x)
