-- The whole of an answer to a call on a request or a value: the state that follows.
use Rattle.sl_host_law.specs.Answers.AnswersFollow.{IsAnswerTo}
use Rattle.sl_area.specs.AreaLayout.{request_offset}
use Rattle.sl_due.specs.DueAnswers.{after_answer}
use Rattle.sl_due.specs.DueRequests.{owner_read, request_refusal, signal_of_request, value_reply}
use Rattle.sl_due.specs.Steps.{Step, seen, with_input}
use Rattle.sl_host_state.specs.HeardInputs.{heard_answer, member_hearing}
use Rattle.sl_host_state.specs.KeptState.{HostState, MemberState}
use Rattle.sl_host_state.specs.MadeEffects.{with_call, with_reply}
use Rattle.sl_host_state.specs.HostStands.{Stands}
use Rattle.sl_host_state.specs.declared.kept_parts.OpenCall.{OpenCall}
use Rattle.sl_host_law.specs.StepParts.Signals.{sending}
use Rattle.sl_host_law.specs.Questions.Answers.{set_reply_in, spot_in}
use Rattle.sl_host_law.specs.Questions.Jobs.{command_in, running_in}
use Rattle.sl_host_law.specs.Questions.Members.{exclusive_at}
use Rattle.sl_sector.specs.declared.sector.Rec.TheVariants.{RequestIs}
use Rattle.sl_trace.specs.Sessions.{is_present}
use Rattle.sl_trace.specs.declared.session.Session.{Session}
use Rattle.sl_trace.specs.Traces.{bytes_given, is_orphan}
use Rattle.sl_trace.specs.declared.command.Command.TheVariants.{Request}
use Rattle.sl_trace.specs.declared.command.Command.{Command}
use Rattle.sl_trace.specs.declared.command.ResourceArg.{ResourceArg}
use Rattle.sl_trace.specs.declared.effects.Op.TheVariants.{WriteRecord}
use Rattle.sl_trace.specs.declared.effects.Purpose.TheVariants.{RequestRead, RequestWrite, SeeRequest, ValueRead, ValueWrite}
use Rattle.sl_trace.specs.declared.input.Answer.TheVariants.{Failed, Read, Written}
use Rattle.sl_trace.specs.declared.input.Answer.{Answer}
use Rattle.sl_trace.specs.declared.input.Input.TheVariants.{Answer as Told}
use Rattle.sl_trace.specs.declared.reply.Reply.TheVariants.{Done, IoFault}
use Rattle.std.specs.Prelude.{List, None, Option, Some, cond, false, if◌then◌else◌, not, true, ℕ, ◌==◌, ◌≡◌}

-- For a job that runs: what a read gives, that a write is done, or the fault.
abbrev pub answering_job : ℕ → OpenCall → Answer → (List ℕ → HostState → HostState) → (HostState → HostState) → HostState → HostState
answering_job j c a on_bytes on_done h =
    elim (running_in h j) [ false ↦ h | true ↦ elim a [ Read bytes ↦ on_bytes bytes h | Written ↦ on_done h | Failed ↦ with_reply j (IoFault c.number) h ] ]

-- The request is written, to this owner.
abbrev pub writing_request : Session → ℕ → Option ℕ → ResourceArg → ℕ → ℕ → HostState → HostState
writing_request s j owner r asked force h =
    with_call s.number r.path (RequestWrite j owner) (request_offset h.config.layout r.offset)
    (WriteRecord (RequestIs (record { force = force; host = (if asked == 0 then 0 else s.id); lver = asked }))) h

-- It is written, or refused, after the read of leader and request.
abbrev pub requesting : Session → ℕ → List ℕ → Command → HostState → HostState
requesting s j bytes (Request r asked force) h =
    elim (request_refusal h.config.layout s.lockspace r asked force bytes) [
      | Some why ↦ with_reply j why h
      | None ↦ writing_request s j (owner_read h.config.layout bytes) r asked force h
    ]
requesting s j bytes c h = h

-- For the command of the job.
abbrev pub requesting_for : Session → ℕ → List ℕ → HostState → HostState
requesting_for s j bytes h = elim (command_in h j) [ None ↦ h | Some c ↦ requesting s j bytes c h ]

-- The holder under an exclusive lease is told of a request that asks for more.
abbrev pub seeing_request : MemberState → OpenCall → List ℕ → HostState → HostState
seeing_request m c bytes h =
    elim (exclusive_at h m (spot_in h.config.layout c)) [
      | None ↦ h
      | Some g ↦ cond (not (is_orphan g)) (elim (signal_of_request h.config.layout bytes g) [ None ↦ h | Some s ↦ sending g.process s h ]) h
    ]

-- What a read gave.
abbrev pub on_given : Answer → (List ℕ → HostState → HostState) → HostState → HostState
on_given a f h = elim (bytes_given a) [ None ↦ h | Some bytes ↦ f bytes h ]

-- The state is the host's after the answer, with what it makes due.
abbrev pub Follows : ℕ → Answer → HostState → Step → HostState → Type 0
Follows number a h x new = Stands (Told number a) new (after_answer (is_present (seen x)) number a (with_input (Told number a) x))

pub record RequestsFollow : Type 0 where
  pub read : (number : ℕ) (c : OpenCall) (a : Answer) (h : HostState) (x : Step) (k : ℕ) (m : MemberState) (j : ℕ) → IsAnswerTo number c a h x k m → m.refused ≡ false → c.purpose ≡ RequestRead j
      → Follows number a h x (answering_job j c a (requesting_for m.who j) (λ g. g) (heard_answer number a h))
  pub written : (number : ℕ) (c : OpenCall) (a : Answer) (h : HostState) (x : Step) (k : ℕ) (m : MemberState) (j : ℕ) (owner : Option ℕ) → IsAnswerTo number c a h x k m → m.refused ≡ false
      → c.purpose ≡ RequestWrite j owner → Follows number a h x (answering_job j c a (λ bytes g. g) (with_reply j Done) (heard_answer number a h))
  pub seen_one : (number : ℕ) (c : OpenCall) (a : Answer) (h : HostState) (x : Step) (k : ℕ) (m : MemberState) → IsAnswerTo number c a h x k m → m.refused ≡ false → c.purpose ≡ SeeRequest
      → Follows number a h x (on_given a (seeing_request (member_hearing h c a m) c) (heard_answer number a h))
  pub value_set : (number : ℕ) (c : OpenCall) (a : Answer) (h : HostState) (x : Step) (k : ℕ) (m : MemberState) (j : ℕ) → IsAnswerTo number c a h x k m → m.refused ≡ false → c.purpose ≡ ValueWrite j
      → Follows number a h x (answering_job j c a (λ bytes g. g) (with_reply j (set_reply_in c)) (heard_answer number a h))
  pub value_read : (number : ℕ) (c : OpenCall) (a : Answer) (h : HostState) (x : Step) (k : ℕ) (m : MemberState) (j : ℕ) → IsAnswerTo number c a h x k m → m.refused ≡ false → c.purpose ≡ ValueRead j
      → Follows number a h x (answering_job j c a (λ bytes g. with_reply j (value_reply g.config.layout bytes) g) (λ g. g) (heard_answer number a h))
