-- What an answer makes due, by what its call was for. A call of a job that has its reply already concludes nothing (`for_job`); a call of
-- a session that was gone before the answer neither.
use Rattle.sl_due.specs.CarriedDelta.{after_free, after_join_answer, after_renewal, after_survey}
use Rattle.sl_due.specs.CarriedLease.{after_lease_answer, with_command}
use Rattle.sl_due.specs.DueRequests.{after_request_read, after_see_request, after_value_read}
use Rattle.sl_due.specs.Steps.{Step, add_reply, seen, when, with_some}
use Rattle.sl_trace.specs.Leases.{value_written}
use Rattle.sl_trace.specs.Sessions.{session_numbered}
use Rattle.sl_trace.specs.declared.session.Session.{Session}
use Rattle.sl_trace.specs.Traces.{Submitted, bytes_given, call_numbered, is_running}
use Rattle.sl_trace.specs.declared.effects.Purpose.TheVariants.{RequestRead, RequestWrite, Joining, Lease, Leaving, Renewal, SeeRequest, Survey, ValueRead, ValueWrite}
use Rattle.sl_trace.specs.declared.effects.Purpose.{Purpose}
use Rattle.sl_trace.specs.declared.input.Answer.TheVariants.{Failed, Read, Written}
use Rattle.sl_trace.specs.declared.input.Answer.{Answer}
use Rattle.sl_trace.specs.declared.reply.Reply.TheVariants.{Done, IoFault, ValueSet}
use Rattle.sl_trace.specs.declared.reply.Reply.{Reply}
use Rattle.std.specs.Option.{option_map_or}
use Rattle.std.specs.Prelude.{Bool, List, false, true, ℕ}

-- For a job that runs: what a read gives, that a write is done, or the fault.
abbrev pub for_job : ℕ → Submitted → Answer → (List ℕ → Step → Step) → (Step → Step) → Step → Step
for_job j m answer on_bytes on_done x =
    elim (is_running (seen x) j) [
      | false ↦ x
      | true ↦ elim answer [ Read bytes ↦ on_bytes bytes x | Written ↦ on_done x | Failed ↦ add_reply j (IoFault m.call.number) x ]
    ]

-- What a read gave, whatever its account.
abbrev pub on_bytes_read : Answer → (List ℕ → Step → Step) → Step → Step
on_bytes_read answer f x = with_some (bytes_given answer) f x

-- The reply to a write of a value: the version that it wrote.
abbrev pub set_reply : Submitted → Reply
set_reply m = option_map_or (λ v. ValueSet v.lver v.seq) (value_written m) Done

-- By what the call was for.
unfoldable pub after_answer_of : Session → Submitted → Purpose → Answer → Step → Step
after_answer_of s m (Joining j step) answer x = after_join_answer s j step m answer x
after_answer_of s m Renewal answer x = after_renewal s m answer x
after_answer_of s m Survey answer x = on_bytes_read answer (after_survey s) x
after_answer_of s m (Leaving j) answer x = after_free s j m answer x
after_answer_of s m (Lease work step) answer x = after_lease_answer s work step m answer x
after_answer_of s m (RequestRead j) answer x = for_job j m answer (λ bytes. with_command j (after_request_read s j bytes)) (λ y. y) x
after_answer_of s m (RequestWrite j owner) answer x = for_job j m answer (λ bytes y. y) (add_reply j Done) x
after_answer_of s m SeeRequest answer x = on_bytes_read answer (after_see_request s m) x
after_answer_of s m (ValueWrite j) answer x = for_job j m answer (λ bytes y. y) (add_reply j (set_reply m)) x
after_answer_of s m (ValueRead j) answer x = for_job j m answer (λ bytes. after_value_read j bytes) (λ y. y) x

-- The answer of the call with this number, by the sessions that were there before it: that of a call of a session which is gone has
-- no effect, and another session may have its lockspace by now.
unfoldable pub after_answer : (Session → Bool) → ℕ → Answer → Step → Step
after_answer was_present number answer x =
    with_some (call_numbered (seen x) number) (λ m.
    with_some (session_numbered x.setting (seen x) m.call.session) (λ s. when (was_present s) (after_answer_of s m m.call.purpose answer))) x
