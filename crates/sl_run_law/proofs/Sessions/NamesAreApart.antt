-- Sessions of one lockspace name follow one another.
use Rattle.sl_run.specs.LawfulDelta.{LawfulDeltaCall}
use Rattle.sl_run_law.proofs.Sessions.SessionNames.{absent}
use Rattle.sl_run_law.proofs.Sessions.UnansweredNotRemoved.{not_removed}
use Rattle.sl_run_law.specs.Sessions.SessionLaws.{NamesAreApart, WritersStay, front_of, made_as}
use Rattle.sl_trace.specs.Sessions.{is_join_call, is_present, session_named}
use Rattle.sl_trace.specs.declared.session.Session.{Session}
use Rattle.sl_trace.specs.Traces.{Setting, Submitted, Trace}
use Rattle.sl_trace.specs.declared.effects.JoinStep.TheVariants.{ClaimWrite, DecidingRead, FirstRead, FirstRenewal, VerifyRead, WatchRead}
use Rattle.sl_trace.specs.declared.effects.Purpose.TheVariants.{RequestRead, RequestWrite, Joining, Lease, Leaving, Renewal, SeeRequest, Survey, ValueRead, ValueWrite}
use Rattle.sl_trace.specs.declared.effects.Purpose.{Purpose}
use Rattle.sl_words.proofs.CaseLaws.{false_is_true, is_false}
use Rattle.std.specs.Prelude.{IsTrue, None, ◌≡◌}

nobody : (st : Setting) (t : Trace) (s : Session) (c : Submitted) (p : Purpose) → LawfulDeltaCall st t s c p → IsTrue (is_join_call FirstRead p) → session_named st t s.lockspace ≡ None
nobody st t s c (Joining j FirstRead) law is = law.apart
nobody st t s c (Joining j WatchRead) law is = absurd (false_is_true is)
nobody st t s c (Joining j DecidingRead) law is = absurd (false_is_true is)
nobody st t s c (Joining j ClaimWrite) law is = absurd (false_is_true is)
nobody st t s c (Joining j VerifyRead) law is = absurd (false_is_true is)
nobody st t s c (Joining j FirstRenewal) law is = absurd (false_is_true is)
nobody st t s c Renewal law is = absurd (false_is_true is)
nobody st t s c Survey law is = absurd (false_is_true is)
nobody st t s c (Leaving j) law is = absurd (false_is_true is)
nobody st t s c (Lease work step) law is = absurd (false_is_true is)
nobody st t s c (RequestRead j) law is = absurd (false_is_true is)
nobody st t s c (RequestWrite j o) law is = absurd (false_is_true is)
nobody st t s c SeeRequest law is = absurd (false_is_true is)
nobody st t s c (ValueWrite j) law is = absurd (false_is_true is)
nobody st t s c (ValueRead j) law is = absurd (false_is_true is)

pub names_are_apart : NamesAreApart
names_are_apart st es s m w is x there same =
    is_false (is_present (front_of w.made) x)
    (λ present. absent st (front_of w.made) s.lockspace x there same (nobody st (front_of w.made) s (made_as w.made) m.call.purpose w.lawful is) present)

pub writers_stay : WritersStay
writers_stay st es s h its waits = not_removed st es s h its waits
