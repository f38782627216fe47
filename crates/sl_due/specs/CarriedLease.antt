-- How a session does what one of its leases decided.
use Rattle.sl_area.specs.AreaLayout.{area_sectors, block_offset, block_place, block_sectors, leader_offset}
use Rattle.sl_area.specs.AreaRecords.{block_record, leader_record}
use Rattle.sl_due.specs.Steps.{Step, add_call_at, add_end, add_grant, add_reply, add_start, seen, with_some}
use Rattle.sl_trace.specs.Jobs.{aim_of, command_numbered, process_named}
use Rattle.sl_trace.specs.LeaseDecisions.{lease_next, lease_place, settle_begin, within_turn}
use Rattle.sl_trace.specs.Leases.{base_turn, holdings_on, known, lease_calls, lver_written, spot_of_call, verified_name}
use Rattle.sl_trace.specs.declared.lease.Aim.TheVariants.{Settles}
use Rattle.sl_trace.specs.declared.lease.Aim.{Aim}
use Rattle.sl_trace.specs.declared.lease.LeaseNext.TheVariants.{AnswerJob, BecomeExclusive, BecomeShared, GrantJob, ReadFor, Nothing, WriteBlock, WriteLeader}
use Rattle.sl_trace.specs.declared.lease.LeaseNext.{LeaseNext}
use Rattle.sl_sector.specs.declared.sector.Block.{Block}
use Rattle.sl_sector.specs.declared.sector.Leader.{Leader}
use Rattle.sl_trace.specs.Sessions.{is_active}
use Rattle.sl_trace.specs.declared.session.Session.{Session}
use Rattle.sl_trace.specs.Traces.{Setting, Submitted, Trace, end_of, is_running, is_shared, next_child, work_job}
use Rattle.sl_trace.specs.declared.command.Command.TheVariants.{Acquire, RunProgram, TakeOver}
use Rattle.sl_trace.specs.declared.command.Command.{Command}
use Rattle.sl_trace.specs.declared.command.ResourceArg.{ResourceArg}
use Rattle.sl_trace.specs.declared.effects.Grant.{Grant}
use Rattle.sl_trace.specs.declared.effects.LeaseRead.TheVariants.{OfArea, OfFree}
use Rattle.sl_trace.specs.declared.effects.LeaseStep.TheVariants.{ClearMode, FreeLeader, ReadAgain, ReadArea, ReadBeforeFree}
use Rattle.sl_trace.specs.declared.effects.LeaseStep.{LeaseStep}
use Rattle.sl_trace.specs.declared.effects.Mode.TheVariants.{Exclusive, Shared}
use Rattle.sl_trace.specs.declared.effects.Mode.{Mode}
use Rattle.sl_trace.specs.declared.effects.Op.TheVariants.{ReadSectors, WriteRecord}
use Rattle.sl_trace.specs.declared.effects.Op.{Op}
use Rattle.sl_trace.specs.declared.effects.Purpose.TheVariants.{Lease}
use Rattle.sl_trace.specs.declared.effects.Spot.{Spot}
use Rattle.sl_trace.specs.declared.effects.Work.TheVariants.{ForJob, Settling}
use Rattle.sl_trace.specs.declared.effects.Work.{Work}
use Rattle.sl_trace.specs.declared.input.Answer.{Answer}
use Rattle.sl_trace.specs.declared.reply.Reply.TheVariants.{Granted}
use Rattle.sl_words.specs.Words.{same_truth}
use Rattle.std.specs.Prelude.{Bool, List, None, Option, Some, false, find, not, true, ℕ, ◌&&◌, ◌+◌, ◌==◌}

-- A call for a lease.
abbrev pub lease_call : Session → Spot → Work → LeaseStep → ℕ → Op → Step → Step
lease_call s at work step offset op x = add_call_at s at.path (Lease work step) offset op x

-- The turn that the session's next block on the area has.
abbrev pub next_turn : Setting → Trace → Session → Spot → ℕ
next_turn st es s at = base_turn st.layout s.id (lease_calls st es s at) + 1

-- The resource's name that the session's lease on the area has verified.
abbrev pub name_on : Setting → Trace → Session → Spot → List ℕ
name_on st es s at = verified_name st.layout s.lockspace (lease_calls st es s at)

-- The own block is written, with pairs at the place of its turn.
abbrev pub write_block : Session → Spot → Work → LeaseStep → Block → Step → Step
write_block s at work step b x =
    lease_call s at work step (block_place x.setting.layout at.base s.id (next_turn x.setting (seen x) s at))
    (WriteRecord (block_record x.setting.layout (next_turn x.setting (seen x) s at) s.lockspace (name_on x.setting (seen x) s at) b)) x

-- The blocks of all hosts are read.
abbrev pub read_blocks : Session → Spot → Work → LeaseStep → Step → Step
read_blocks s at work step x = lease_call s at work step (block_offset x.setting.layout at.base 1) (ReadSectors (block_sectors x.setting.layout)) x

-- Leader, request and blocks are read.
abbrev pub read_area : Session → Spot → Work → LeaseStep → Step → Step
read_area s at work step x = lease_call s at work step at.base (ReadSectors (area_sectors x.setting.layout)) x

-- What a step reads: the whole area, or all blocks.
abbrev pub read_for : Session → Spot → Work → LeaseStep → Step → Step
read_for s at work (ReadArea name) x = read_area s at work (ReadArea name) x
read_for s at work ReadBeforeFree x = read_area s at work ReadBeforeFree x
read_for s at work (ReadAgain (OfArea name)) x = read_area s at work (ReadAgain (OfArea name)) x
read_for s at work (ReadAgain OfFree) x = read_area s at work (ReadAgain OfFree) x
read_for s at work step x = read_blocks s at work step x

-- The leader is written.
abbrev pub write_leader : Session → Spot → Work → LeaseStep → Leader → Step → Step
write_leader s at work step l x = lease_call s at work step (leader_offset at.base) (WriteRecord (leader_record x.setting.layout l)) x

-- ---- grants

-- A grant under the session, with the names of the command.
abbrev pub grant_of : Session → ResourceArg → ℕ → Mode → ℕ → Bool → Grant
grant_of s r p mode lver persistent =
    record {
      process = p;
      session = s.number;
      lockspace = r.lockspace;
      resource = r.name;
      path = r.path;
      offset = r.offset;
      mode = mode;
      lver = lver;
      persistent = persistent;
    }

-- A program is started for the job, and holds the resource from here on.
abbrev pub start_for : Session → ℕ → ResourceArg → List ℕ → Mode → ℕ → ℕ → Step → Step
start_for s j r path mode lver child x =
    add_start (record { process = child; program = path; job = Some j; stands_for = None }) (add_grant (grant_of s r child mode lver false) x)

-- The job's process is granted the resource, and the job is answered.
abbrev pub grant_process : Session → ℕ → ResourceArg → ℕ → Mode → ℕ → Bool → Step → Step
grant_process s j r p mode lver persistent x = add_reply j (Granted lver) (add_grant (grant_of s r p mode lver persistent) x)

-- An acquire is answered at once; a command starts its program.
abbrev pub grant_for : Session → ℕ → Command → Mode → ℕ → Step → Step
grant_for s j (Acquire r shared p persistent) mode lver x = grant_process s j r p mode lver persistent x
grant_for s j (TakeOver r shared p persistent) mode lver x = grant_process s j r p mode lver persistent x
grant_for s j (RunProgram r shared path) mode lver x = start_for s j r path mode lver (next_child (seen x)) x
grant_for s j c mode lver x = x

-- The process's holding in the other mode.
abbrev pub held_otherwise : Trace → Session → Spot → ℕ → Mode → Option Grant
held_otherwise es s at p mode = find (λ g. g.process == p && not (same_truth (is_shared g.mode) (is_shared mode))) (holdings_on es s at)

-- A holding ends and one of the same process in this mode begins, as persistent as it was; the job is answered.
abbrev pub convert_holding : ℕ → Mode → ℕ → Grant → Step → Step
convert_holding j mode lver g x = add_reply j (Granted lver) (add_grant (record g { mode = mode; lver = lver }) (add_end (end_of g) x))

-- The conversion that the job asked for is done.
abbrev pub convert_for : Session → Spot → ℕ → Command → Mode → ℕ → Step → Step
convert_for s at j c mode lver x =
    with_some (process_named c) (λ p y. with_some (held_otherwise (seen y) s at p mode) (convert_holding j mode lver) y) x

-- The command of a job.
abbrev pub with_command : ℕ → (Command → Step → Step) → Step → Step
with_command j f x = with_some (command_numbered x.setting (seen x) j) f x

-- For the job on whose account the work is done.
abbrev pub for_work : Work → (ℕ → Step → Step) → Step → Step
for_work work f x = with_some (work_job work) f x

-- What the lease decided is done.
unfoldable pub carry_lease : Session → Spot → Work → LeaseNext → Step → Step
carry_lease s at work Nothing x = x
carry_lease s at work (ReadFor step) x = read_for s at work step x
carry_lease s at work (WriteBlock step b) x = write_block s at work step b x
carry_lease s at work (WriteLeader step l) x = write_leader s at work step l x
carry_lease s at work (AnswerJob r) x = for_work work (λ j. add_reply j r) x
carry_lease s at work (GrantJob mode lver) x = for_work work (λ j. with_command j (λ c. grant_for s j c mode lver)) x
carry_lease s at work (BecomeShared lver l) x =
    write_leader s at Settling FreeLeader l (for_work work (λ j. with_command j (λ c. convert_for s at j c Shared lver)) x)
carry_lease s at work (BecomeExclusive lver b) x =
    write_block s at Settling ClearMode b (for_work work (λ j. with_command j (λ c. convert_for s at j c Exclusive lver)) x)

-- A job's work goes on while the job runs, a settling while the session is neither in recovery nor leaving.
abbrev pub goes_on : Setting → Trace → Session → Work → Bool
goes_on st es s (ForJob j) = is_running es j
goes_on st es s Settling = is_active st es s

-- What comes next for the lease after an answer to one of its calls.
abbrev pub next_of_lease : Setting → Trace → Session → Spot → Aim → Submitted → LeaseStep → Answer → LeaseNext
next_of_lease st es s at aim m step answer =
    within_turn (lease_place st s) (known st es s at) aim (lease_next (lease_place st s) (known st es s at) aim m.call.number (lver_written m) step answer)

-- The answer of a call on a lease, where its work goes on.
unfoldable pub after_lease_answer : Session → Work → LeaseStep → Submitted → Answer → Step → Step
after_lease_answer s work step m answer x =
    elim (goes_on x.setting (seen x) s work) [
      | false ↦ x
      | true ↦ with_some (aim_of x.setting (seen x) work) (λ aim y.
          carry_lease s (spot_of_call y.setting.layout m) work
          (next_of_lease y.setting (seen y) s (spot_of_call y.setting.layout m) aim m step answer) y) x
    ]

-- A settling does what is owed first.
unfoldable pub settle : Session → Spot → Step → Step
settle s at x =
    carry_lease s at Settling
    (within_turn (lease_place x.setting s) (known x.setting (seen x) s at) Settles (settle_begin (lease_place x.setting s) (known x.setting (seen x) s at))) x
