-- What one lawful trace promises of one of its sessions, for the steps of an id. What each step asks of the one trace:
-- Decide: one deciding read (JoiningsAreOrdered); what it showed and that it was watched, registered and read in one entry
--   (CallsWereLawful with LawfulDeciding, FrontAnswersStay); one session of a lockspace after another (NamesAreApart).
-- TearClaim, LandClaim: own name, generation one above the base's (CallsWereLawful with LawfulClaim).
-- Verify: the claim was answered ok, the wait and its bound, registered in the entry of the read (CallsWereLawful with LawfulVerify).
-- LandOwn, Renew: own generation, seq one above the last (CallsWereLawful with LawfulFirstRenewal, LawfulRenewal, LawfulFree); one at
--   a time (its `alone`); nothing after the free (FreedAreSilent).
-- End: nothing is submitted from there on (EndedAreSilent); marks don't change (MarksStay).
-- Bounds: a write in flight has its connection, with a bounded expiry (WritesAreCovered, WritersStay).
use Rattle.sl_run.specs.Lawful.{Orderly}
use Rattle.sl_run.specs.LawfulDelta.{LawfulDeltaCall, is_on_own_sector}
use Rattle.sl_run.specs.LawfulConnections.{CoveredBy}
use Rattle.sl_run.specs.LawForms.{cut_at}
use Rattle.sl_trace.specs.Sessions.{calls_of, ended_after, free_write, has_open_delta, has_open_write, is_delta_purpose, is_join_call, is_present, is_survey_purpose, joined_after, refused_after, removed_after, same_join_step, session_numbered, sessions, stage_after, stage_of}
use Rattle.sl_trace.specs.declared.session.Session.{Session}
use Rattle.sl_trace.specs.declared.stage.Stage.TheVariants.{Deciding, Looking, Verifying, Waiting}
use Rattle.sl_trace.specs.declared.stage.Stage.{Stage}
use Rattle.sl_trace.specs.TraceLaws.{with_call}
use Rattle.sl_trace.specs.Traces.{Answered, Setting, Submitted, Trace, is_write, new_call, submitted}
use Rattle.sl_trace.specs.declared.effects.Call.{Call}
use Rattle.sl_trace.specs.declared.effects.Entry.{Entry}
use Rattle.sl_trace.specs.declared.effects.JoinStep.TheVariants.{ClaimWrite, DecidingRead, FirstRead, FirstRenewal, VerifyRead, WatchRead}
use Rattle.sl_trace.specs.declared.effects.JoinStep.{JoinStep}
use Rattle.sl_trace.specs.declared.effects.Purpose.TheVariants.{Joining, SeeRequest}
use Rattle.sl_trace.specs.declared.effects.Purpose.{Purpose}
use Rattle.std.specs.List.{list_all}
use Rattle.std.specs.Prelude.{Bool, Contains, IsTrue, List, None, Option, Some, [], false, is_some, length, not, slice_get, true, ℕ, ◌&&◌, ◌++◌, ◌∷◌, ◌≡◌}

-- A mark of a session, once it is there, never changes.
abbrev pub Stays : (Trace → Session → Option ℕ) → Type 0
Stays mark = (later es : Trace) (s : Session) (k : ℕ) → mark es s ≡ Some k → mark (later ++ es) s ≡ Some k

-- Joined, refused, removed, ended stay; and a refused session never joins.
pub record MarksStay : Type 0 where
  pub joined : Stays joined_after
  pub refused : Stays refused_after
  pub removed : Stays removed_after
  pub ended : Stays ended_after
  pub apart : (es : Trace) (s : Session) (k : ℕ) → refused_after es s ≡ Some k → joined_after es s ≡ None

-- Where a call was made: by which call of which entry, after which trace.
pub record IsMade (es : Trace) (m : Submitted) : Type 0 where
  pub later : Trace
  pub entry : Entry
  pub past : Trace
  pub whole : es ≡ later ++ entry ∷ past
  pub index : ℕ
  pub call : slice_get entry.effects.calls index ≡ Some m.call
  pub place : m.at ≡ length past
  pub reading : m.reading ≡ entry.reading

-- Each call was made by an entry: what the laws say of each call of an entry is said of it.
abbrev pub CallsAreMade : Type 0
CallsAreMade = (es : Trace) (m : Submitted) → Contains (submitted es) m → IsMade es m

-- An answered call never changes.
abbrev pub AnswersStay : Type 0
AnswersStay = (later es : Trace) (m : Submitted) (a : Answered) → Contains (submitted es) m → m.answer ≡ Some a → Contains (submitted (later ++ es)) m

-- The session is one of the trace's.
abbrev pub IsSession : Setting → Trace → Session → Type 0
IsSession st es s = session_numbered st es s.number ≡ Some s

-- A session that has ended, or was refused, submits nothing more.
abbrev pub EndedAreSilent : Type 0
EndedAreSilent =
    (st : Setting) (e : Entry) (past : Trace) (s : Session) → Orderly st (e ∷ past) → IsSession st (e ∷ past) s → (k : ℕ) → ended_after past s ≡ Some k
    → (i : ℕ) (c : Call) → slice_get e.effects.calls i ≡ Some c → c.session ≡ s.number → ⊥

-- A session keeps its number.
abbrev pub SessionsStay : Type 0
SessionsStay =
    (st : Setting) (later es : Trace) (n : ℕ) (s : Session) → session_numbered st es n ≡ Some s → session_numbered st (later ++ es) n ≡ Some s

-- The trace as it stood when the call was made, and the call as it was made.
abbrev pub front_of : {es : Trace} {m : Submitted} → IsMade es m → Trace
front_of d = cut_at d.index d.entry ∷ d.past

abbrev pub made_as : {es : Trace} {m : Submitted} → IsMade es m → Submitted
made_as {es} {m} d = new_call (length d.past) d.entry.reading m.call

-- A session's call kept the laws of delta sectors where it was made: its steps come in the order of a joining, with their waits and
-- contents; at its own sector; and one at a time.
pub record WasLawful (st : Setting) (es : Trace) (s : Session) (m : Submitted) : Type 0 where
  pub made : IsMade es m
  pub lawful : LawfulDeltaCall st (front_of made) s (made_as made) m.call.purpose
  pub placed : IsTrue (is_delta_purpose m.call.purpose && not (is_survey_purpose m.call.purpose)) → IsTrue (is_on_own_sector st s (made_as made))
  pub alone : IsTrue (is_delta_purpose m.call.purpose) → has_open_delta (front_of made) s ≡ false

-- Each call of a session did.
abbrev pub CallsWereLawful : Type 0
CallsWereLawful =
    (st : Setting) (es : Trace) (s : Session) (m : Submitted) → Orderly st es → IsSession st es s → Contains (submitted es) m → m.call.session ≡ s.number
    → WasLawful st es s m

-- Whether a joining may make a call for this, that writes or not.
abbrev pub fits_as : Purpose → Bool → Bool
fits_as (Joining j ClaimWrite) writes = true
fits_as (Joining j FirstRenewal) writes = true
fits_as (Joining j step) writes = not writes
fits_as p writes = false

abbrev pub fits : Submitted → Bool
fits m = fits_as m.call.purpose (is_write m.call.op)

abbrev pub has_reply : Submitted → Bool
has_reply m = is_some m.answer

abbrev pub all_done : List Submitted → Bool
all_done ms = list_all (λ m. fits m && has_reply m) ms

-- Whether each call is one of a joining, and all but the newest are answered.
abbrev pub is_in_turn : List Submitted → Bool
is_in_turn [] = true
is_in_turn (m ∷ ms) = fits m && all_done ms

-- The calls of a session that isn't joined are in turn.
abbrev pub JoiningsAreInTurn : Type 0
JoiningsAreInTurn =
    (st : Setting) (es : Trace) (s : Session) → Orderly st es → IsSession st es s → joined_after es s ≡ None → is_in_turn (calls_of es s) ≡ true

-- While a write of a session is unanswered its connection stands, and ends in time.
abbrev pub WritesAreCovered : Type 0
WritesAreCovered =
    (st : Setting) (es : Trace) (s : Session) → Orderly st es → IsSession st es s → has_open_write es s ≡ true → CoveredBy st es s

-- What a call's laws say of reads and writes that were answered when it was made is true of them ever after.
abbrev pub FrontAnswersStay : Type 0
FrontAnswersStay = (es : Trace) (m : Submitted) (d : IsMade es m) (r : Submitted) (a : Answered) → Contains (submitted (front_of d)) r → r.answer ≡ Some a → Contains (submitted es) r

-- Whether a joining in this stage may come to this step.
abbrev pub is_watching : JoinStep → Bool
is_watching WatchRead = true
is_watching DecidingRead = true
is_watching step = false

abbrev pub leads_to : Stage → JoinStep → Bool
leads_to Looking step = is_watching step
leads_to Deciding step = same_join_step ClaimWrite step
leads_to Waiting step = same_join_step VerifyRead step
leads_to Verifying step = same_join_step FirstRenewal step
leads_to stage step = false

-- Whether a call for the second may come directly after one for the first: after a look a look or the deciding read, after the
-- deciding read the claim, then the verify read, then the first renewal.
abbrev pub may_follow : Purpose → Purpose → Bool
may_follow (Joining i a) (Joining j b) = leads_to (stage_after a true) b
may_follow p q = false

-- Whether a joining may begin with it.
abbrev pub looks : Purpose → Bool
looks (Joining j FirstRead) = true
looks (Joining j WatchRead) = true
looks p = false

-- Whether it may come after these, the newest first.
abbrev pub may_come : List Submitted → Purpose → Bool
may_come [] p = looks p
may_come (m ∷ ms) p = may_follow m.call.purpose p

-- Whether these calls, the newest first, are in the order of a joining.
abbrev pub is_ordered : List Submitted → Bool
is_ordered [] = true
is_ordered (m ∷ ms) = may_come ms m.call.purpose && is_ordered ms

-- The calls of a session that isn't joined are in the order of a joining; so it decides once, claims once, verifies once.
abbrev pub JoiningsAreOrdered : Type 0
JoiningsAreOrdered =
    (st : Setting) (es : Trace) (s : Session) → Orderly st es → IsSession st es s → joined_after es s ≡ None → is_ordered (calls_of es s) ≡ true

-- Once its free is submitted a joined session submits nothing more.
abbrev pub FreedAreSilent : Type 0
FreedAreSilent =
    (st : Setting) (e : Entry) (past : Trace) (s : Session) → Orderly st (e ∷ past) → IsSession st (e ∷ past) s → (k : ℕ) → joined_after past s ≡ Some k
    → (m : Submitted) → free_write (calls_of past s) ≡ Some m → (i : ℕ) (c : Call) → slice_get e.effects.calls i ≡ Some c → c.session ≡ s.number → ⊥

-- Why the laws let only a joined session see a request: wherever a joining stands, a request that it sees sets it back to its watch.
abbrev pub SeeingSetsBack : Type 0
SeeingSetsBack =
    (es : Trace) (e : Entry) (c : Call) (s : Session) → joined_after (e ∷ es) s ≡ None → refused_after (e ∷ es) s ≡ None → c.purpose ≡ SeeRequest → c.session ≡ s.number
    → stage_of (with_call c e ∷ es) s ≡ Looking

-- A session is not removed while a write of it is unanswered.
abbrev pub WritersStay : Type 0
WritersStay = (st : Setting) (es : Trace) (s : Session) → Orderly st es → IsSession st es s → has_open_write es s ≡ true → removed_after es s ≡ None

-- Where a session makes its first read, no session of its lockspace's name is present: each has ended, with no write unanswered.
abbrev pub NamesAreApart : Type 0
NamesAreApart =
    (st : Setting) (es : Trace) (s : Session) (m : Submitted) (w : WasLawful st es s m) → IsTrue (is_join_call FirstRead m.call.purpose)
    → (x : Session) → Contains (sessions st (front_of w.made)) x → x.lockspace ≡ s.lockspace → is_present (front_of w.made) x ≡ false
