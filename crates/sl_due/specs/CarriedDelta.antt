-- How a session does what its delta lease decided: joining, renewal, the look at all ids, leaving.
use Rattle.sl_area.specs.AreaLayout.{delta_of, request_offset}
use Rattle.sl_due.specs.DueTimeOuts.{refuse, remove_connection, remove_of_refused}
use Rattle.sl_due.specs.DueRecovery.{signal_and_refuse}
use Rattle.sl_due.specs.Steps.{Step, add_call, add_call_at, add_move, add_reply, for_each, seen, when, with_some}
use Rattle.sl_trace.specs.Leases.{exclusive_on, lease_spots}
use Rattle.sl_sector.specs.Bitmaps.{is_bit_set}
use Rattle.sl_sector.specs.declared.sector.DeltaRec.{DeltaRec}
use Rattle.sl_sector.specs.declared.sector.Rec.TheVariants.{DeltaIs}
use Rattle.sl_trace.specs.DeltaDecisions.{delta_of_session, next_after_free, next_after_renewal, next_in_joining, own_offset}
use Rattle.sl_trace.specs.Sessions.{calls_of, generation_of, is_joined, recovery_of}
use Rattle.sl_trace.specs.declared.delta.DeltaNext.TheVariants.{Disconnect, Join, EndLeaving, MoveConnection, ReadOwn, RegisterAndRead, RefuseJoin, Nothing, WriteClaim, WriteFirst, WriteFree, WriteRenewal}
use Rattle.sl_trace.specs.declared.delta.DeltaNext.{DeltaNext}
use Rattle.sl_trace.specs.declared.session.Begun.{Begun}
use Rattle.sl_trace.specs.declared.session.Session.{Session}
use Rattle.sl_time.specs.Times.{fail}
use Rattle.sl_trace.specs.Traces.{Setting, Submitted, Trace, is_running}
use Rattle.sl_trace.specs.declared.effects.Grant.{Grant}
use Rattle.sl_trace.specs.declared.effects.JoinStep.TheVariants.{ClaimWrite, FirstRenewal}
use Rattle.sl_trace.specs.declared.effects.JoinStep.{JoinStep}
use Rattle.sl_trace.specs.declared.effects.Move.TheVariants.{Register, Renew}
use Rattle.sl_trace.specs.declared.effects.Op.TheVariants.{ReadSectors, WriteRecord}
use Rattle.sl_trace.specs.declared.effects.Purpose.TheVariants.{Joining, Leaving, Renewal, SeeRequest, Survey}
use Rattle.sl_trace.specs.declared.effects.Purpose.{Purpose}
use Rattle.sl_trace.specs.declared.effects.Spot.{Spot}
use Rattle.sl_trace.specs.declared.input.Answer.{Answer}
use Rattle.sl_trace.specs.declared.reply.Reply.TheVariants.{Generation}
use Rattle.sl_trace.specs.declared.reply.Reply.{Reply}
use Rattle.sl_words.specs.Words.{some_is}
use Rattle.std.specs.List.{list_any, range_with_len}
use Rattle.std.specs.Prelude.{Bool, List, None, Option, false, is_some, length, true, ℕ, ◌+◌, ◌==◌}

-- The own sector is read.
abbrev pub read_own_sector : Session → Purpose → Step → Step
read_own_sector s purpose x = add_call s purpose (own_offset x.setting s) (ReadSectors 1) x

-- The own sector is written.
abbrev pub write_own_sector : Session → Purpose → DeltaRec → Step → Step
write_own_sector s purpose d x = add_call s purpose (own_offset x.setting s) (WriteRecord (DeltaIs d)) x

-- The session registers until `fail` from now on.
abbrev pub register : Session → Step → Step
register s x = add_move (Register s.lockspace (x.reading + fail x.setting.timing)) x

-- All delta sectors are read.
abbrev pub survey : Session → Step → Step
survey s x = add_call s Survey s.offset (ReadSectors x.setting.layout.hosts) x

-- The connection moves to `fail` after a renewal's submission.
abbrev pub move_connection : Session → ℕ → Step → Step
move_connection s renewed x = add_move (Renew s.lockspace (renewed + fail x.setting.timing)) x

-- A leaving is over; its job is answered unless it was refused before.
abbrev pub end_leaving : Session → ℕ → Reply → Step → Step
end_leaving s j r x = when (is_running (seen x) j) (add_reply j r) (remove_connection s.lockspace x)

-- For the job of the session's joining.
abbrev pub for_joining : Session → (ℕ → Step → Step) → Step → Step
for_joining s f x = with_some s.job f x

-- What the session's delta lease decided is done.
unfoldable pub carry_delta : Session → DeltaNext → Step → Step
carry_delta s Nothing x = x
carry_delta s (RefuseJoin r) x = for_joining s (λ j. refuse j r) x
carry_delta s (ReadOwn step) x = for_joining s (λ j. read_own_sector s (Joining j step)) x
carry_delta s (RegisterAndRead step) x = for_joining s (λ j y. read_own_sector s (Joining j step) (register s y)) x
carry_delta s (WriteClaim d) x = for_joining s (λ j. write_own_sector s (Joining j ClaimWrite) d) x
carry_delta s Disconnect x = remove_connection s.lockspace x
carry_delta s (WriteFirst d) x = for_joining s (λ j. write_own_sector s (Joining j FirstRenewal) d) x
carry_delta s (Join generation renewed) x =
    for_joining s (λ j y. survey s (add_reply j (Generation generation) (move_connection s renewed y))) x
carry_delta s (MoveConnection renewed) x = survey s (move_connection s renewed x)
carry_delta s (WriteRenewal d) x = write_own_sector s Renewal d x
carry_delta s (WriteFree j d) x = write_own_sector s (Leaving j) d x
carry_delta s (EndLeaving j r) x = end_leaving s j r x

-- ---- answers of calls on delta sectors

-- Of a joining; one that was refused removes its connection now that its write is answered.
unfoldable pub after_join_answer : Session → ℕ → JoinStep → Submitted → Answer → Step → Step
after_join_answer s job step m answer x =
    elim (is_running (seen x) job) [
      | false ↦ remove_of_refused s x
      | true ↦ carry_delta s
          (next_in_joining (delta_of_session x.setting s) (generation_of (seen x) s) (calls_of (seen x) s) x.reading m step answer) x
    ]

-- Of a renewal.
unfoldable pub after_renewal : Session → Submitted → Answer → Step → Step
after_renewal s m answer x = carry_delta s (next_after_renewal (is_some (recovery_of x.setting (seen x) s)) m.reading answer) x

-- Of the free of the leaving of this job.
unfoldable pub after_free : Session → ℕ → Submitted → Answer → Step → Step
after_free s j m answer x = carry_delta s (next_after_free j m.call.number answer) x

-- Whether some id's record has the session's bit.
abbrev pub is_session_asked : Setting → Session → List ℕ → Bool
is_session_asked st s bytes =
    list_any (λ id. some_is (λ d. is_bit_set d.bitmap s.id) (delta_of st.layout bytes id)) (range_with_len 1 st.layout.hosts)

-- The request sector under a holding is read.
abbrev pub see_request : Session → Grant → Step → Step
see_request s g x = add_call_at s g.path SeeRequest (request_offset x.setting.layout g.offset) (ReadSectors 1) x

-- That of the session's lease on this area, where it holds it exclusively.
abbrev pub see_request_on : Session → Spot → Step → Step
see_request_on s at x = with_some (exclusive_on (seen x) s at) (see_request s) x

-- Those under its exclusive holdings, by place, also in recovery and in a leaving.
unfoldable pub see_requests : Session → Step → Step
see_requests s x = for_each (lease_spots x.setting (seen x) s) (see_request_on s) x

-- Whether recovery begins by the read that the newest entry brings: it hadn't begun before, nor at the head of this step.
abbrev pub begins_by_read : Trace → Option Begun → Bool
begins_by_read es begun = some_is (λ b. b.kills_from == length es) begun

-- A read of all ids may begin recovery, and may show that the session is asked. That of an ended session does nothing.
unfoldable pub after_survey : Session → List ℕ → Step → Step
after_survey s bytes x =
    when (is_joined (seen x) s) (λ y.
    when (is_session_asked y.setting s bytes) (see_requests s)
    (when (begins_by_read (seen y) (recovery_of y.setting (seen y) s)) (signal_and_refuse s None) y)) x
