-- The sessions of a trace: when each begins, joins, recovers, leaves and ends. A session is named by its place among the daemon's
-- sessions, those of the setting first; a session of a run also by its machine and daemon. Generations and names are never identity.
--
-- Of each session these are asked, as a count of entries, so that "before" and "after" are numbers:
--
-- 1. `joined_after`: its joining's job was answered ok; at once for a session of the setting.
-- 2. `refused_after`: its joining's job was answered otherwise.
-- 3. `recovery_of`: the entry in which recovery began, by time or by a read of all ids that shows another in its place.
-- 4. `leaving_job`: the `rem_lockspace` that began its leaving.
-- 5. `removed_after`: its connection was removed once it had joined; `ended_after`: that, or it was refused.
--
-- `stage_of` is the state of the joining between them; `is_joined`, `is_active`, `is_present` are what the decisions ask.
use Rattle.sl_area.specs.AreaLayout.{delta_of}
use Rattle.sl_sector.specs.declared.sector.DeltaRec.{DeltaRec}
use Rattle.sl_sector.specs.declared.sector.Owner.{Owner}
use Rattle.sl_sector.specs.declared.sector.Rec.TheVariants.{DeltaIs}
use Rattle.sl_sector.specs.declared.sector.Rec.{Rec}
use Rattle.sl_trace.specs.declared.session.Begun.{Begun}
use Rattle.sl_trace.specs.declared.session.Renewing.{Renewing}
use Rattle.sl_trace.specs.declared.session.Session.{Session}
use Rattle.sl_trace.specs.declared.stage.Stage.TheVariants.{Claiming, Deciding, Ended, FirstRenewing, Freeing, Looking, Refused, Standing, Verifying, Waiting}
use Rattle.sl_trace.specs.declared.stage.Stage.{Stage}
use Rattle.sl_time.specs.Times.{fail}
use Rattle.sl_trace.specs.WatchdogConnections.{unregisters}
use Rattle.sl_trace.specs.Traces.{Job, Setting, Submitted, Trace, call_numbered, holdings, is_answered_ok, is_orphan, is_write, line_in, next_job, record_of, reply_to, same_place, submitted, unanswered}
use Rattle.sl_trace.specs.declared.command.Command.TheVariants.{AddLockspace, RemLockspace}
use Rattle.sl_trace.specs.declared.command.Command.{Command}
use Rattle.sl_trace.specs.declared.command.LockspaceArg.{LockspaceArg}
use Rattle.sl_trace.specs.declared.effects.Entry.{Entry}
use Rattle.sl_trace.specs.declared.effects.Grant.{Grant}
use Rattle.sl_trace.specs.declared.effects.JoinStep.TheVariants.{ClaimWrite, DecidingRead, FirstRead, FirstRenewal, VerifyRead, WatchRead}
use Rattle.sl_trace.specs.declared.effects.JoinStep.{JoinStep}
use Rattle.sl_trace.specs.declared.effects.Purpose.TheVariants.{Joining, Leaving, Renewal, Survey}
use Rattle.sl_trace.specs.declared.effects.Purpose.{Purpose}
use Rattle.sl_trace.specs.declared.input.Answer.TheVariants.{Read, Written}
use Rattle.sl_trace.specs.declared.input.Given.{Given}
use Rattle.sl_trace.specs.declared.input.Input.TheVariants.{Answer as Told}
use Rattle.sl_trace.specs.declared.input.Input.{Input}
use Rattle.sl_trace.specs.declared.reply.Reply.TheVariants.{Generation}
use Rattle.sl_trace.specs.declared.reply.Reply.{Reply}
use Rattle.sl_words.specs.Orders.{in_order, is_text_before, rising}
use Rattle.sl_words.specs.Words.{choose, some_is}
use Rattle.std.specs.List.{enumerate_from, list_any}
use Rattle.std.specs.Option.{option_map_or}
use Rattle.std.specs.Prelude.{Bool, List, None, Ok, Option, Result, Some, bytes_eq, false, filter, find, is_none, is_some, length, map, nat_le, not, option_and_then, option_map, slice_get, true, unwrap_or, [], ℕ, ◌&&◌, ◌++◌, ◌+◌, ◌==◌, ◌||◌, ◌∷◌}

-- Whether two steps of a joining are one.
abbrev pub same_join_step : JoinStep → JoinStep → Bool
same_join_step FirstRead FirstRead = true
same_join_step WatchRead WatchRead = true
same_join_step DecidingRead DecidingRead = true
same_join_step ClaimWrite ClaimWrite = true
same_join_step VerifyRead VerifyRead = true
same_join_step FirstRenewal FirstRenewal = true
same_join_step a b = false

-- Whether the call is at this step of a joining.
abbrev pub is_join_call : JoinStep → Purpose → Bool
is_join_call step (Joining j at) = same_join_step step at
is_join_call step p = false

-- The lockspace that a command joins.
abbrev pub added : Result Command ℕ → Option LockspaceArg
added (Ok (AddLockspace a)) = Some a
added c = None

-- The lockspace that a line joins.
abbrev pub added_by : Setting → Input → Option LockspaceArg
added_by st i = option_and_then (λ text. added (st.read text)) (line_in i)

-- A session that the setting gives.
abbrev pub given_session : ℕ × Given → Session
given_session p =
    record { number = p.0; job = None; lockspace = p.1.lockspace; id = p.1.id; path = p.1.path; offset = p.1.offset; renewed = p.1.renewed }

-- A session that the job with this number begins.
abbrev pub joining_session : ℕ → ℕ → LockspaceArg → Session
joining_session number job a =
    record { number = number; job = Some job; lockspace = a.name; id = a.id; path = a.path; offset = a.offset; renewed = 0 }

-- The session of this number that the entry after these begins: its `add_lockspace` submits a first read.
abbrev pub begun_in : Setting → Trace → ℕ → Entry → List Session
begun_in st es number e =
    elim (list_any (λ c. is_join_call FirstRead c.purpose) e.effects.calls) [
      | false ↦ []
      | true ↦ elim (added_by st e.input) [ None ↦ [] | Some a ↦ joining_session number (next_job st es) a ∷ [] ]
    ]

-- These sessions with that which the entry after those before it begins, if it does.
abbrev pub with_begun : Setting → Trace → List Session → Entry → List Session
with_begun st es ss e = ss ++ begun_in st es (length ss) e

-- All sessions of a daemon, by their numbers.
abbrev pub sessions : Setting → Trace → List Session
sessions st [] = map given_session (enumerate_from 0 st.given)
sessions st (e ∷ es) = with_begun st es (sessions st es) e

-- The session with this number.
abbrev pub session_numbered : Setting → Trace → ℕ → Option Session
session_numbered st es number = slice_get (sessions st es) number

-- The session of a joining's job.
abbrev pub session_of_job : Setting → Trace → ℕ → Option Session
session_of_job st es job = find (λ s. some_is (λ j. j == job) s.job) (sessions st es)

-- ---- its calls: what is asked of them is a function of the session's own list of calls, the newest first

-- Whether the call is the session's.
abbrev pub is_call_of : Session → Submitted → Bool
is_call_of s m = m.call.session == s.number

-- The session's calls, the newest first.
abbrev pub calls_of : Trace → Session → List Submitted
calls_of es s = filter (is_call_of s) (submitted es)

-- The session's calls without an answer.
abbrev pub open_calls_of : Trace → Session → List Submitted
open_calls_of es s = unanswered (calls_of es s)

-- Whether a write of the session is unanswered.
abbrev pub has_open_write : Trace → Session → Bool
has_open_write es s = list_any (λ m. is_write m.call.op) (open_calls_of es s)

-- Whether a call is on a delta sector.
abbrev pub is_delta_purpose : Purpose → Bool
is_delta_purpose (Joining j step) = true
is_delta_purpose Renewal = true
is_delta_purpose Survey = true
is_delta_purpose (Leaving j) = true
is_delta_purpose p = false

-- Whether a call on a delta sector is unanswered.
abbrev pub has_open_delta : Trace → Session → Bool
has_open_delta es s = list_any (λ m. is_delta_purpose m.call.purpose) (open_calls_of es s)

-- The newest call of this step of a joining.
abbrev pub join_call : List Submitted → JoinStep → Option Submitted
join_call ms step = find (λ m. is_join_call step m.call.purpose) ms

-- A delta record that a call writes.
abbrev pub delta_of_record : Rec → Option DeltaRec
delta_of_record (DeltaIs d) = Some d
delta_of_record r = None

-- The delta record that a call writes, if it does.
abbrev pub delta_written : Submitted → Option DeltaRec
delta_written m = option_and_then delta_of_record (record_of m.call.op)

-- The delta record that was submitted last.
abbrev pub last_delta : List Submitted → Option DeltaRec
last_delta [] = None
last_delta (m ∷ ms) = elim (delta_written m) [ Some d ↦ Some d | None ↦ last_delta ms ]

-- Generation and seq before any is submitted: 1 for a session of the setting.
abbrev pub given_number : Session → ℕ
given_number s = elim s.job [ None ↦ 1 | Some j ↦ 0 ]

-- The generation of a session with these calls: from its claim on; 1 for a session of the setting.
abbrev pub generation_in : Session → List Submitted → ℕ
generation_in s ms = option_map_or (λ d. d.generation) (last_delta ms) (given_number s)

-- The generation of a session.
abbrev pub generation_of : Trace → Session → ℕ
generation_of es s = generation_in s (calls_of es s)

-- The seq of the last delta record that was submitted; 1 at first for a session of the setting.
abbrev pub seq_in : Session → List Submitted → ℕ
seq_in s ms = option_map_or (λ d. d.seq) (last_delta ms) (given_number s)

-- The seq of the last delta record that the session submitted.
abbrev pub last_seq : Trace → Session → ℕ
last_seq es s = seq_in s (calls_of es s)

-- The session as ballots and leaders name it.
abbrev pub me : Trace → Session → Owner
me es s = record { id = s.id; generation = generation_of es s }

-- Whether the call is a renewal, the first one too.
abbrev pub is_renewal : Purpose → Bool
is_renewal Renewal = true
is_renewal (Joining j FirstRenewal) = true
is_renewal p = false

-- The submission reading of the last renewal, answered or not.
abbrev pub renewal_in : Session → List Submitted → ℕ
renewal_in s ms = option_map_or (λ m. m.reading) (find (λ m. is_renewal m.call.purpose) ms) s.renewed

-- The submission reading of the session's last renewal, answered or not.
abbrev pub last_renewal_submitted : Trace → Session → ℕ
last_renewal_submitted es s = renewal_in s (calls_of es s)

-- Whether the call is the write of a leaving's free record.
abbrev pub is_free_purpose : Purpose → Bool
is_free_purpose (Leaving j) = true
is_free_purpose p = false

-- The write of the free record.
abbrev pub free_write : List Submitted → Option Submitted
free_write ms = find (λ m. is_free_purpose m.call.purpose) ms

-- ---- joining and its end

-- Whether the reply says that the joining is done.
abbrev pub is_join_done : Reply → Bool
is_join_done (Generation g) = true
is_join_done r = false

-- After how many entries the session is joined, if it is: its job was answered ok, so it was not refused before.
abbrev pub joined_after : Trace → Session → Option ℕ
joined_after es s =
    elim s.job [ None ↦ Some 0 | Some j ↦ option_and_then (λ r. choose (is_join_done r.reply) (r.at + 1)) (reply_to es j) ]

-- After how many entries its joining is refused, if it is.
abbrev pub refused_after : Trace → Session → Option ℕ
refused_after es s =
    elim s.job [ None ↦ None | Some j ↦ option_and_then (λ r. choose (not (is_join_done r.reply)) (r.at + 1)) (reply_to es j) ]

-- Whether the entry after these removes the connection of a session that is joined.
abbrev pub removed_in : Trace → Session → Entry → Option ℕ
removed_in es s e = choose (is_some (joined_after es s) && list_any (unregisters s.lockspace) e.effects.moves) (length es + 1)

-- After how many entries a joined session has ended: its connection was removed.
abbrev pub removed_after : Trace → Session → Option ℕ
removed_after [] s = None
removed_after (e ∷ es) s = elim (removed_after es s) [ Some k ↦ Some k | None ↦ removed_in es s e ]

-- After how many entries the session has ended: it was removed, or its joining refused.
abbrev pub ended_after : Trace → Session → Option ℕ
ended_after es s = elim (joined_after es s) [ Some k ↦ removed_after es s | None ↦ refused_after es s ]

-- Joined and not ended.
abbrev pub is_joined : Trace → Session → Bool
is_joined es s = is_some (joined_after es s) && is_none (removed_after es s)

-- Whether its lockspace is in use: it hasn't ended, or its joining was refused and a write is unanswered.
abbrev pub is_present : Trace → Session → Bool
is_present es s = is_none (ended_after es s) || is_none (joined_after es s) && has_open_write es s

-- The sessions whose lockspaces are in use, by lockspace name.
abbrev pub present_sessions : Setting → Trace → List Session
present_sessions st es = in_order (λ a b. is_text_before a.lockspace b.lockspace) (filter (is_present es) (sessions st es))

-- The session that has the lockspace of this name.
abbrev pub session_named : Setting → Trace → List ℕ → Option Session
session_named st es name = find (λ s. bytes_eq s.lockspace name) (present_sessions st es)

-- ---- renewal and recovery

-- Whether the call is a read of all delta sectors.
abbrev pub is_survey_purpose : Purpose → Bool
is_survey_purpose Survey = true
is_survey_purpose p = false

-- Whether the bytes of all delta sectors show the session's own id under another name or generation.
abbrev pub shows_other_in : Setting → ℕ → ℕ → List ℕ → Bool
shows_other_in st id generation bytes =
    some_is (λ d. d.id == id && not (d.generation == generation && some_is (λ n. bytes_eq n st.name) d.host)) (delta_of st.layout bytes id)

-- The session's read of all delta sectors that the input answers, with its bytes.
abbrev pub survey_in : Trace → Session → Input → Option (List ℕ)
survey_in es s (Told call (Read bytes)) =
    choose (some_is (λ m. is_call_of s m && is_survey_purpose m.call.purpose) (call_numbered es call)) bytes
survey_in es s i = None

-- Whether the input brings such a read that shows another.
abbrev pub shows_other : Setting → Trace → Session → Input → Bool
shows_other st es s i = elim (survey_in es s i) [ None ↦ false | Some bytes ↦ shows_other_in st s.id (generation_of es s) bytes ]

-- The submission reading of the renewal of the session that the input answers ok.
abbrev pub renewed_by : Trace → Session → Input → Option ℕ
renewed_by es s (Told call Written) =
    option_and_then (λ m. choose (is_call_of s m && is_renewal m.call.purpose) m.reading) (call_numbered es call)
renewed_by es s i = None

-- Recovery begins in the entry after these.
abbrev pub recovers : Trace → Entry → ℕ → Renewing → Renewing
recovers es e kills_from r = record r { recovery = Some (record { at = length es; reading = e.reading; kills_from = kills_from }) }

-- The entry after these, from how the session stood before it: recovery begins where its reading is fail above the last renewal's,
-- or where it shows another in the session's place; else a renewal that it answers ok counts.
abbrev pub renewing_after : Setting → Trace → Session → Renewing → Entry → Renewing
renewing_after st es s r e =
    elim r.recovery [
      | Some b ↦ r
      | None ↦ elim (is_joined es s && nat_le (r.last + fail st.timing) e.reading) [
        | true ↦ recovers es e (length es) r
        | false ↦ elim (is_joined es s && shows_other st es s e.input) [
          | true ↦ recovers es e (length es + 1) r
          | false ↦ record r { last = unwrap_or (renewed_by es s e.input) r.last }
        ]
      ]
    ]

-- How the session stands with its renewals.
abbrev pub renewing : Setting → Trace → Session → Renewing
renewing st [] s = record { last = s.renewed; recovery = None }
renewing st (e ∷ es) s = renewing_after st es s (renewing st es s) e

-- The submission reading of the last renewal that was answered ok outside recovery.
abbrev pub last_renewal : Setting → Trace → Session → ℕ
last_renewal st es s = (renewing st es s).last

-- How recovery began, if it has.
abbrev pub recovery_of : Setting → Trace → Session → Option Begun
recovery_of st es s = (renewing st es s).recovery

-- Joined and in recovery.
abbrev pub is_recovering : Setting → Trace → Session → Bool
is_recovering st es s = is_joined es s && is_some (recovery_of st es s)

-- ---- leaving

-- Whether the words name this session's lockspace, id and area.
abbrev pub is_session_arg : Session → LockspaceArg → Bool
is_session_arg s a = bytes_eq a.name s.lockspace && a.id == s.id && same_place a.path a.offset s.path s.offset

-- Whether the command leaves the session.
abbrev pub leaves : Session → Result Command ℕ → Bool
leaves s (Ok (RemLockspace a)) = is_session_arg s a
leaves s c = false

-- The job by which the entry after these begins a leaving: a `rem_lockspace` that isn't answered in its own step.
abbrev pub leaving_in : Setting → Trace → Session → Entry → Option Job
leaving_in st es s e =
    elim (line_in e.input) [
      | None ↦ None
      | Some text ↦ elim (leaves s (st.read text)) [
        | false ↦ None
        | true ↦ choose (is_joined es s && not (list_any (λ a. a.job == next_job st es) e.effects.replies))
            (record { number = next_job st es; at = length es; reading = e.reading; command = st.read text })
      ]
    ]

-- The job of the session's leaving, if it has begun.
abbrev pub leaving_job : Setting → Trace → Session → Option Job
leaving_job st [] s = None
leaving_job st (e ∷ es) s = elim (leaving_job st es s) [ Some j ↦ Some j | None ↦ leaving_in st es s e ]

-- How the leaving began, if it has.
abbrev pub leaving_of : Setting → Trace → Session → Option Begun
leaving_of st es s = option_map (λ j. record { at = j.at; reading = j.reading; kills_from = j.at + 1 }) (leaving_job st es s)

-- Joined and leaving.
abbrev pub is_leaving : Setting → Trace → Session → Bool
is_leaving st es s = is_joined es s && is_some (leaving_job st es s)

-- Joined, neither in recovery nor leaving.
abbrev pub is_active : Setting → Trace → Session → Bool
is_active st es s = is_joined es s && is_none (recovery_of st es s) && is_none (leaving_job st es s)

-- ---- stages

-- The stage of a joining after this step, its call answered ok or not.
abbrev pub stage_after : JoinStep → Bool → Stage
stage_after FirstRead done = Looking
stage_after WatchRead done = Looking
stage_after DecidingRead done = Deciding
stage_after ClaimWrite false = Claiming
stage_after ClaimWrite true = Waiting
stage_after VerifyRead done = Verifying
stage_after FirstRenewal done = FirstRenewing

-- The stage of a joining, by its newest call.
abbrev pub stage_of_call : Submitted → Stage
stage_of_call m = elim m.call.purpose [ Joining j step ↦ stage_after step (is_answered_ok m) | _ ↦ Looking ]

-- The stage of a joining with these calls.
abbrev pub stage_in : List Submitted → Stage
stage_in [] = Looking
stage_in (m ∷ ms) = stage_of_call m

-- The stage of a session after a trace.
abbrev pub stage_of : Trace → Session → Stage
stage_of es s =
    elim (joined_after es s) [
      | Some k ↦ elim (removed_after es s) [
        | Some i ↦ Ended
        | None ↦ elim (free_write (calls_of es s)) [ Some m ↦ Freeing | None ↦ Standing ]
      ]
      | None ↦ elim (refused_after es s) [ Some k ↦ Refused | None ↦ stage_in (calls_of es s) ]
    ]

-- Whether a session has, in this stage, a connection to the watchdog daemon. (One whose joining was refused keeps its
-- connection while a write of it is unanswered.)
abbrev pub is_covered_stage : Stage → Bool
is_covered_stage Deciding = true
is_covered_stage Claiming = true
is_covered_stage Verifying = true
is_covered_stage FirstRenewing = true
is_covered_stage Standing = true
is_covered_stage Freeing = true
is_covered_stage stage = false

-- ---- its holdings

-- The holdings under the session, in the order of their grants.
abbrev pub holdings_of : Trace → Session → List Grant
holdings_of es s = filter (λ g. g.session == s.number) (holdings es)

-- The processes that hold under the session, in rising order. An orphan has none: nobody can be signalled for it.
abbrev pub holders_of : Trace → Session → List ℕ
holders_of es s = rising (map (λ g. g.process) (filter (λ g. not (is_orphan g)) (holdings_of es s)))
