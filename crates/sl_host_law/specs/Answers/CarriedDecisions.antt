-- What a session's delta lease decided is done: the state that follows, and what is asked of the calls and replies in it.
use Rattle.sl_host_law.specs.Answers.RefusalsFollow.{IsAlone, refusing}
use Rattle.sl_host_law.specs.StepParts.Ends.{removing}
use Rattle.sl_area.specs.AreaLayout.{delta_offset}
use Rattle.sl_host_law.specs.Calls.MemberCalls.{CallFits}
use Rattle.sl_due.specs.CarriedDelta.{carry_delta}
use Rattle.sl_due.specs.Steps.{Step, seen}
use Rattle.sl_host_state.specs.KeptState.{HostState, MemberState}
use Rattle.sl_host_state.specs.MadeEffects.{next_submitted, with_call, with_move, with_reply}
use Rattle.sl_host_state.specs.HostStands.{Stands}
use Rattle.sl_host_law.specs.Questions.Jobs.{running_in}
use Rattle.sl_host_law.specs.Replies.Moves.{EndsBegun}
use Rattle.sl_host_law.specs.Replies.RepliesAreTaken.{MayReply}
use Rattle.sl_sector.specs.declared.sector.DeltaRec.{DeltaRec}
use Rattle.sl_sector.specs.declared.sector.Rec.TheVariants.{DeltaIs}
use Rattle.sl_trace.specs.Sessions.{is_join_done}
use Rattle.sl_trace.specs.declared.delta.DeltaNext.TheVariants.{Disconnect, Join, EndLeaving, MoveConnection, ReadOwn, RegisterAndRead, RefuseJoin, Nothing, WriteClaim, WriteFirst, WriteFree, WriteRenewal}
use Rattle.sl_trace.specs.declared.delta.DeltaNext.{DeltaNext}
use Rattle.sl_trace.specs.declared.session.Session.{Session}
use Rattle.sl_time.specs.Times.{fail}
use Rattle.sl_trace.specs.Traces.{is_running}
use Rattle.sl_trace.specs.declared.effects.JoinStep.TheVariants.{ClaimWrite, FirstRenewal}
use Rattle.sl_trace.specs.declared.effects.Move.TheVariants.{Register, Renew, Unregister}
use Rattle.sl_trace.specs.declared.effects.Op.TheVariants.{ReadSectors, WriteRecord}
use Rattle.sl_trace.specs.declared.effects.Op.{Op}
use Rattle.sl_trace.specs.declared.effects.Purpose.TheVariants.{Joining, Leaving, Renewal, Survey}
use Rattle.sl_trace.specs.declared.effects.Purpose.{Purpose}
use Rattle.sl_trace.specs.declared.input.Input.{Input}
use Rattle.sl_trace.specs.declared.reply.Reply.TheVariants.{Generation}
use Rattle.std.specs.Prelude.{List, None, Some, cond, false, slice_get, true, ℕ, ◌+◌, ◌≡◌}

-- ---- calls and moves of a session

-- Where its id's sector stands.
abbrev pub own_sector : HostState → Session → ℕ
own_sector h s = delta_offset h.config.layout s.offset s.id

-- It is read, and written.
abbrev pub reading_own : Session → Purpose → HostState → HostState
reading_own s purpose h = with_call s.number s.path purpose (own_sector h s) (ReadSectors 1) h

abbrev pub writing_own : Session → Purpose → DeltaRec → HostState → HostState
writing_own s purpose d h = with_call s.number s.path purpose (own_sector h s) (WriteRecord (DeltaIs d)) h

-- All ids' sectors are read.
abbrev pub surveying : Session → HostState → HostState
surveying s h = with_call s.number s.path Survey s.offset (ReadSectors h.config.layout.hosts) h

-- The session registers, and its connection moves.
abbrev pub registering : Session → HostState → HostState
registering s h = with_move (Register s.lockspace (h.reading + fail h.config.timing)) h

abbrev pub connecting : Session → ℕ → HostState → HostState
connecting s renewed h = with_move (Renew s.lockspace (renewed + fail h.config.timing)) h

-- For the job that joins it.
abbrev pub for_job_of : Session → (ℕ → HostState → HostState) → HostState → HostState
for_job_of s f h = elim s.job [ None ↦ h | Some j ↦ f j h ]

-- What was decided is done.
abbrev pub carrying : Session → DeltaNext → HostState → HostState
carrying s Nothing h = h
carrying s (RefuseJoin r) h = for_job_of s (λ j. refusing j r) h
carrying s (ReadOwn step) h = for_job_of s (λ j. reading_own s (Joining j step)) h
carrying s (RegisterAndRead step) h = for_job_of s (λ j g. reading_own s (Joining j step) (registering s g)) h
carrying s (WriteClaim d) h = for_job_of s (λ j. writing_own s (Joining j ClaimWrite) d) h
carrying s Disconnect h = removing s.lockspace h
carrying s (WriteFirst d) h = for_job_of s (λ j. writing_own s (Joining j FirstRenewal) d) h
carrying s (Join generation renewed) h = for_job_of s (λ j g. surveying s (with_reply j (Generation generation) (connecting s renewed g))) h
carrying s (MoveConnection renewed) h = surveying s (connecting s renewed h)
carrying s (WriteRenewal d) h = writing_own s Renewal d h
carrying s (WriteFree j d) h = writing_own s (Leaving j) d h
carrying s (EndLeaving j r) h = cond (running_in h j) (with_reply j r (removing s.lockspace h)) (removing s.lockspace h)

-- ---- what is asked

-- A member of this session may make the call.
pub record MayCall (h : HostState) (s : Session) (path : List ℕ) (purpose : Purpose) (offset : ℕ) (op : Op) : Type 0 where
  pub place : ℕ
  pub member : MemberState
  pub there : slice_get h.members place ≡ Some member
  pub its : member.who ≡ s
  pub fits : CallFits h member (next_submitted h s.number path purpose offset op)

-- It may read its own sector, write it, and read all ids'.
abbrev pub MayRead : HostState → Session → Purpose → Type 0
MayRead h s purpose = MayCall h s s.path purpose (own_sector h s) (ReadSectors 1)

abbrev pub MayWrite : HostState → Session → Purpose → DeltaRec → Type 0
MayWrite h s purpose d = MayCall h s s.path purpose (own_sector h s) (WriteRecord (DeltaIs d))

abbrev pub MaySurvey : HostState → Session → Type 0
MaySurvey h s = MayCall h s s.path Survey s.offset (ReadSectors h.config.layout.hosts)

-- What is asked for what was decided.
abbrev pub MayCarry : Input → HostState → Step → Session → DeltaNext → Type 0
MayCarry i h x s Nothing = Unit {0}
MayCarry i h x s (RefuseJoin r) = (j : ℕ) → s.job ≡ Some j → MayReply i h x j r × (is_join_done r ≡ false) × IsAlone j h
MayCarry i h x s (ReadOwn step) = (j : ℕ) → s.job ≡ Some j → MayRead h s (Joining j step)
MayCarry i h x s (RegisterAndRead step) = (j : ℕ) → s.job ≡ Some j → MayRead (registering s h) s (Joining j step)
MayCarry i h x s (WriteClaim d) = (j : ℕ) → s.job ≡ Some j → MayWrite h s (Joining j ClaimWrite) d
MayCarry i h x s Disconnect = EndsBegun (Unregister s.lockspace) h
MayCarry i h x s (WriteFirst d) = (j : ℕ) → s.job ≡ Some j → MayWrite h s (Joining j FirstRenewal) d
MayCarry i h x s (Join generation renewed) =
    (j : ℕ) → s.job ≡ Some j → MayReply i h x j (Generation generation) × MaySurvey (with_reply j (Generation generation) (connecting s renewed h)) s
MayCarry i h x s (MoveConnection renewed) = MaySurvey (connecting s renewed h) s
MayCarry i h x s (WriteRenewal d) = MayWrite h s Renewal d
MayCarry i h x s (WriteFree j d) = MayWrite h s (Leaving j) d
MayCarry i h x s (EndLeaving j r) =
    EndsBegun (Unregister s.lockspace) h × (is_running (seen x) j ≡ running_in h j) × (running_in h j ≡ true → MayReply i h x j r)

abbrev pub DecisionsAreCarried : Type 0
DecisionsAreCarried =
    (i : Input) (h : HostState) (x : Step) (s : Session) (next : DeltaNext) → Stands i h x → MayCarry i h x s next → Stands i (carrying s next h) (carry_delta s next x)
