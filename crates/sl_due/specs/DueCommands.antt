-- What a command makes due: it is decided as data on the trace before its line, its refusals in order; then the decision is carried out.
--
-- 1. `decided`: the first refusal that holds, else what the command comes to (`Decision`). Refusals come in this order: the session (none,
--    joining, recovering), the process, a holding in the way or missing, a call on the area without an answer, a limit.
-- 2. `answer_line`: a command that is answered at once is seen together with its reply.
-- 3. `carry_decision`: any other is seen, and then what it came to is done.
use Rattle.sl_area.specs.AreaLayout.{delta_offset, value_offset}
use Rattle.sl_due.specs.DueRecovery.{signal_and_refuse}
use Rattle.sl_due.specs.CarriedLease.{carry_lease, grant_for, read_area}
use Rattle.sl_due.specs.Steps.{Step, add_call_at, add_call_of, add_end, add_reply, seen, with_input}
use Rattle.sl_due.specs.declared.decision.Decision.TheVariants.{ConvertsTo, GetsValue, GivesUp, Joins, Leaves, ReadsArea, Replies, Requests, SetsValue, Shares, TakesOver}
use Rattle.sl_due.specs.declared.decision.Decision.{Decision}
use Rattle.sl_trace.specs.Counts.{busy_process, holds_already, limit_met, may_act, next_value_seq, other_holder, pending_call}
use Rattle.sl_trace.specs.KillPrograms.{is_killpath_limit}
use Rattle.sl_trace.specs.Jobs.{wanted_mode}
use Rattle.sl_trace.specs.Conversions.{convert_next}
use Rattle.sl_trace.specs.LeaseDecisions.{lease_place, within_turn}
use Rattle.sl_trace.specs.Releases.{release_next}
use Rattle.sl_trace.specs.declared.lease.Aim.TheVariants.{Converts, Releases}
use Rattle.sl_trace.specs.Leases.{holdings_on, known, orphan_on, shared_on, spot_of}
use Rattle.sl_sector.specs.declared.sector.Rec.TheVariants.{ValueIs}
use Rattle.sl_trace.specs.Sessions.{generation_of, holdings_of, is_active, is_joined, is_session_arg, last_renewal, last_seq, present_sessions, session_named, sessions}
use Rattle.sl_trace.specs.Sightings.{sessions_seen, states_seen}
use Rattle.sl_trace.specs.declared.session.Session.{Session}
use Rattle.sl_trace.specs.CountLimits.{most_lockspaces}
use Rattle.sl_trace.specs.Traces.{Setting, Trace, end_of, is_orphan, is_shared, next_job, no_process, spot_of_grant}
use Rattle.sl_trace.specs.declared.command.Command.TheVariants.{Acquire, AddLockspace, Convert, GetLvb, HostStatus, InqLockspace, Release, ReleaseOrphan, RemLockspace, Request, RunProgram, SetKillpath, SetLvb, Status, TakeOver}
use Rattle.sl_trace.specs.declared.command.Command.{Command}
use Rattle.sl_trace.specs.declared.command.LockspaceArg.{LockspaceArg}
use Rattle.sl_trace.specs.declared.command.ResourceArg.{ResourceArg}
use Rattle.sl_trace.specs.declared.effects.Grant.{Grant}
use Rattle.sl_trace.specs.declared.effects.JoinStep.TheVariants.{FirstRead}
use Rattle.sl_trace.specs.declared.effects.LeaseStep.TheVariants.{ReadArea}
use Rattle.sl_trace.specs.declared.effects.Mode.TheVariants.{Shared}
use Rattle.sl_trace.specs.declared.effects.Mode.{Mode}
use Rattle.sl_trace.specs.declared.effects.Op.TheVariants.{ReadSectors, WriteRecord}
use Rattle.sl_trace.specs.declared.effects.Purpose.TheVariants.{RequestRead, Joining, ValueRead, ValueWrite}
use Rattle.sl_trace.specs.declared.effects.Spot.{Spot}
use Rattle.sl_trace.specs.declared.effects.Work.TheVariants.{ForJob}
use Rattle.sl_trace.specs.declared.input.Input.TheVariants.{Line}
use Rattle.sl_trace.specs.declared.reply.Limited.TheVariants.{Killpaths, Lockspaces, Seq as SeqLimit}
use Rattle.sl_trace.specs.declared.reply.Reply.TheVariants.{BadCommand as Misread, Busy, Done, Generation, Granted, Hosts, Joined, Joining as StillJoining, Limit as LimitReached, NoOrphan, NoProcess, NoSession, NotHeld, Pending, Recovering, Sessions}
use Rattle.sl_trace.specs.declared.reply.Reply.{Reply}
use Rattle.sl_words.specs.Bounds.{is_number}
use Rattle.sl_words.specs.Results.{◌>>=◌}
use Rattle.sl_words.specs.Words.{choose, same_truth}
use Rattle.std.specs.List.{list_any}
use Rattle.std.specs.Option.{option_map_or, option_or}
use Rattle.std.specs.Prelude.{Bool, Err, List, None, Ok, Option, Result, Some, false, find, if◌then◌else◌, is_none, length, nat_le, not, option_and_then, option_map, true, [], ℕ, ◌&&◌, ◌++◌, ◌+◌, ◌==◌, ◌∷◌}

-- ---- refusals

-- The first refusal that holds, else what the command comes to.
abbrev pub unless_refused : List (Option Reply) → Decision → Decision
unless_refused [] decision = decision
unless_refused (r ∷ rs) decision = elim r [ Some why ↦ Replies why | None ↦ unless_refused rs decision ]

-- Where there is a session.
abbrev pub with_session : Option Session → (Session → Decision) → Decision
with_session None f = Replies NoSession
with_session (Some s) f = f s

-- What the session's state refuses: still joining, in recovery or leaving.
abbrev pub session_refusal : Setting → Trace → Session → Option Reply
session_refusal st es s =
    if not (is_joined es s) then Some StillJoining
    else choose (not (is_active st es s)) (Recovering (last_renewal st es s))

-- The session of this name, where id and area are right too.
abbrev pub matching_session : Setting → Trace → LockspaceArg → Option Session
matching_session st es a = option_and_then (λ s. choose (is_session_arg s a) s) (session_named st es a.name)

-- A process above 1000000 that is no running child.
abbrev pub process_refusal : Trace → ℕ → Option Reply
process_refusal es p = choose (not (may_act es p)) (NoProcess p)

-- A holding in the way.
abbrev pub busy_refusal : Trace → Spot → Option ℕ → Bool → Option Reply
busy_refusal es at asking shared = option_map (λ p. Busy p) (busy_process es at asking shared)

-- A call on the area that is unanswered.
abbrev pub pending_refusal : Setting → Trace → Spot → Option Reply
pending_refusal st es at = option_map (λ n. Pending n) (pending_call st es at)

-- A count that would pass its limit.
abbrev pub limit_refusal : Setting → Trace → Session → Spot → Bool → Option Reply
limit_refusal st es s at program = option_map (λ l. LimitReached l) (limit_met st es s at program)

-- ---- commands on a resource

-- Work on the lease begins, or the grant is given at once where the session has a shared holding.
abbrev pub acquiring : Trace → Session → ResourceArg → Bool → Decision
acquiring es s r shared =
    elim shared [ false ↦ ReadsArea s r | true ↦ elim (shared_on es s (spot_of r)) [ None ↦ ReadsArea s r | Some g ↦ Shares s g.lver ] ]

-- An acquire of a process, or a command's, whose process comes later.
abbrev pub decide_acquire : Setting → Trace → ResourceArg → Option ℕ → Bool → Bool → Decision
decide_acquire st es r asking shared program =
    with_session (session_named st es r.lockspace) (λ s.
    unless_refused (session_refusal st es s
    ∷ option_and_then (process_refusal es) asking
    ∷ busy_refusal es (spot_of r) asking shared
    ∷ pending_refusal st es (spot_of r)
    ∷ limit_refusal st es s (spot_of r) program ∷ []) (acquiring es s r shared))

-- The process's holding of the resource, in a mode that serves.
abbrev pub holding_of : Trace → Session → Spot → ℕ → (Grant → Bool) → Option Grant
holding_of es s at p serves = find (λ g. g.process == p && serves g) (holdings_on es s at)

-- A command of a process that holds the resource, in a mode that serves.
abbrev pub decide_holder : Setting → Trace → ResourceArg → ℕ → (Grant → Bool) → (Session → Grant → Decision) → Decision
decide_holder st es r p serves f =
    with_session (session_named st es r.lockspace) (λ s.
    unless_refused (session_refusal st es s
    ∷ process_refusal es p
    ∷ choose (is_none (holding_of es s (spot_of r) p serves)) NotHeld
    ∷ pending_refusal st es (spot_of r) ∷ []) (option_map_or (f s) (holding_of es s (spot_of r) p serves) (Replies NotHeld)))

-- A holding that has the mode already is answered at once.
abbrev pub converting : Session → ResourceArg → Mode → Grant → Decision
converting s r mode g = elim (same_truth (is_shared mode) (is_shared g.mode)) [ true ↦ Replies (Granted g.lver) | false ↦ ConvertsTo s r mode ]

-- A conversion of what the process holds; to exclusive no other process may hold the resource.
abbrev pub decide_convert : Setting → Trace → ResourceArg → ℕ → Mode → Decision
decide_convert st es r p mode =
    with_session (session_named st es r.lockspace) (λ s.
    unless_refused (session_refusal st es s
    ∷ process_refusal es p
    ∷ choose (is_none (holding_of es s (spot_of r) p (λ g. true))) NotHeld
    ∷ option_and_then (λ q. choose (not (is_shared mode)) (Busy q)) (other_holder es (spot_of r) p)
    ∷ pending_refusal st es (spot_of r) ∷ []) (option_map_or (converting s r mode) (holding_of es s (spot_of r) p (λ g. true)) (Replies NotHeld)))

-- The orphan of the resource, in a mode that serves.
abbrev pub serving_orphan : Trace → Session → Spot → (Grant → Bool) → Option Grant
serving_orphan es s at serves = option_and_then (λ g. choose (serves g) g) (orphan_on es s at)

-- A command on the orphan in a mode that serves, with what it is refused for after that.
abbrev pub decide_orphan : Setting → Trace → ResourceArg → Option ℕ → (Grant → Bool) → List (Option Reply) → (Session → Grant → Decision) → Decision
decide_orphan st es r asking serves refusals f =
    with_session (session_named st es r.lockspace) (λ s.
    unless_refused (session_refusal st es s
    ∷ option_and_then (process_refusal es) asking
    ∷ choose (is_none (serving_orphan es s (spot_of r) serves)) NoOrphan
    ∷ refusals ++ pending_refusal st es (spot_of r) ∷ []) (option_map_or (f s) (serving_orphan es s (spot_of r) serves) (Replies NoOrphan)))

-- A take-over, in the orphan's mode: no process that holds the resource itself may take it. It makes no call and meets no limit.
abbrev pub decide_take_over : Setting → Trace → ResourceArg → ℕ → Bool → Decision
decide_take_over st es r p shared =
    decide_orphan st es r (Some p) (λ g. same_truth shared (is_shared g.mode)) (option_map (λ q. Busy q) (holds_already es (spot_of r) p) ∷ [])
    (λ s g. TakesOver s g)

-- The value is written with the next seq, unless that would pass its limit.
abbrev pub setting_value : Session → Spot → Grant → ℕ → List ℕ → Decision
setting_value s at g seq bytes =
    elim (is_number seq) [
      | false ↦ Replies (LimitReached SeqLimit)
      | true ↦ SetsValue s at (record { host = s.id; lver = g.lver; seq = seq; bytes = bytes })
    ]

-- A request.
abbrev pub decide_request : Setting → Trace → ResourceArg → Decision
decide_request st es r =
    with_session (session_named st es r.lockspace) (λ s.
    unless_refused (session_refusal st es s ∷ pending_refusal st es (spot_of r) ∷ []) (Requests s r))

-- ---- commands on a lockspace

-- What an `add_lockspace` is refused for by the session of that name.
abbrev pub joined_refusal : Setting → Trace → Option Session → Option Reply
joined_refusal st es None = None
joined_refusal st es (Some s) = option_or (session_refusal st es s) (Some (Joined (generation_of es s)))

-- An `add_lockspace`.
abbrev pub decide_add : Setting → Trace → LockspaceArg → Decision
decide_add st es a =
    unless_refused (joined_refusal st es (session_named st es a.name)
    ∷ choose (nat_le most_lockspaces (length (present_sessions st es))) (LimitReached Lockspaces) ∷ []) (Joins (length (sessions st es)) a)

-- No seq is left for the free.
abbrev pub leave_refusal : Trace → Session → Option Reply
leave_refusal es s = choose (not (is_number (last_seq es s + 1))) (LimitReached SeqLimit)

-- An orphan under the session: nobody could be told to give it up.
abbrev pub orphan_refusal : Trace → Session → Option Reply
orphan_refusal es s = choose (list_any is_orphan (holdings_of es s)) (Busy no_process)

-- A `rem_lockspace`.
abbrev pub decide_leave : Setting → Trace → LockspaceArg → Decision
decide_leave st es a =
    with_session (matching_session st es a) (λ s.
    unless_refused (session_refusal st es s ∷ orphan_refusal es s ∷ leave_refusal es s ∷ []) (Leaves s))

-- A command that only tells of a session.
abbrev pub decide_report : Setting → Trace → LockspaceArg → (Session → Reply) → Decision
decide_report st es a answer =
    with_session (matching_session st es a) (λ s. unless_refused (session_refusal st es s ∷ []) (Replies (answer s)))

-- ---- kill programs

-- A `set_killpath`.
abbrev pub decide_killpath : Setting → Trace → ℕ → Decision
decide_killpath st es p = unless_refused (process_refusal es p ∷ choose (is_killpath_limit st es p) (LimitReached Killpaths) ∷ []) (Replies Done)

-- ---- all commands

-- What a command comes to at this reading, on the trace before its line.
unfoldable pub decided : Setting → Trace → ℕ → Command → Decision
decided st es now (AddLockspace a) = decide_add st es a
decided st es now (RemLockspace a) = decide_leave st es a
decided st es now (InqLockspace a) = decide_report st es a (λ s. Generation (generation_of es s))
decided st es now (HostStatus a) = decide_report st es a (λ s. Hosts (states_seen st es s now))
decided st es now (Acquire r shared p persistent) = decide_acquire st es r (Some p) shared false
decided st es now (TakeOver r shared p persistent) = decide_take_over st es r p shared
decided st es now (RunProgram r shared path) = decide_acquire st es r None shared true
decided st es now (Release r p) = decide_holder st es r p (λ g. true) (λ s g. GivesUp s g)
decided st es now (ReleaseOrphan r) = decide_orphan st es r None (λ g. true) [] (λ s g. GivesUp s g)
decided st es now (Convert r shared p) = decide_convert st es r p (wanted_mode (Convert r shared p))
decided st es now (Request r lver how) = decide_request st es r
decided st es now (GetLvb r p) = decide_holder st es r p (λ g. true) (λ s g. GetsValue s (spot_of r))
decided st es now (SetLvb r p bytes) =
    decide_holder st es r p (λ g. not (is_shared g.mode)) (λ s g. setting_value s (spot_of r) g (next_value_seq st es s (spot_of r) g.lver) bytes)
decided st es now (SetKillpath p path) = decide_killpath st es p
decided st es now Status = Replies (Sessions (sessions_seen st es))

-- ---- carried out

-- After a holding has ended: where it was the last under its lease the area is written, and the reply follows that write.
unfoldable pub after_end : Session → Spot → ℕ → Grant → Step → Step
after_end s at j g x =
    elim (holdings_on (seen x) s at) [
      | h ∷ hs ↦ add_reply j Done x
      | [] ↦ carry_lease s at (ForJob j)
          (within_turn (lease_place x.setting s) (known x.setting (seen x) s at) Releases
          (release_next (lease_place x.setting s) (known x.setting (seen x) s at) g.mode g.lver)) x
    ]

-- What the command of the job came to is done, where that is more than a reply.
unfoldable pub carry_decision : ℕ → Command → Decision → Step → Step
carry_decision j c (Replies r) x = x
carry_decision j c (Joins number a) x =
    add_call_of number a.path (Joining j FirstRead) (delta_offset x.setting.layout a.offset a.id) (ReadSectors 1) x
carry_decision j c (Leaves s) x = signal_and_refuse s (Some j) x
carry_decision j c (ReadsArea s r) x = read_area s (spot_of r) (ForJob j) (ReadArea r.name) x
carry_decision j c (Shares s lver) x = grant_for s j c Shared lver x
carry_decision j c (GivesUp s g) x = after_end s (spot_of_grant g) j g (add_end (end_of g) x)
carry_decision j c (TakesOver s g) x = grant_for s j c g.mode g.lver (add_end (end_of g) x)
carry_decision j c (ConvertsTo s r mode) x =
    carry_lease s (spot_of r) (ForJob j)
    (within_turn (lease_place x.setting s) (known x.setting (seen x) s (spot_of r)) (Converts mode)
    (convert_next (known x.setting (seen x) s (spot_of r)) mode r.name)) x
carry_decision j c (Requests s r) x = add_call_at s r.path (RequestRead j) r.offset (ReadSectors 2) x
carry_decision j c (SetsValue s at v) x =
    add_call_at s at.path (ValueWrite j) (value_offset x.setting.layout at.base) (WriteRecord (ValueIs v)) x
carry_decision j c (GetsValue s at) x = add_call_at s at.path (ValueRead j) (value_offset x.setting.layout at.base) (ReadSectors 1) x

-- The reply of a command that is answered at once.
abbrev pub reply_at_once : Decision → Option Reply
reply_at_once (Replies r) = Some r
reply_at_once decision = None

-- The line and its reply are seen together: a `rem_lockspace` that is refused begins no leaving.
abbrev pub answer_line : List ℕ → ℕ → Reply → Step → Step
answer_line text j r x = add_reply j r (with_input (Line text) x)

-- A command that was decided.
abbrev pub carry_command : List ℕ → ℕ → Command → Decision → Step → Step
carry_command text j c decision x =
    elim (reply_at_once decision) [ Some r ↦ answer_line text j r x | None ↦ carry_decision j c decision (with_input (Line text) x) ]

-- The command, or the column where its text fails.
abbrev pub carry_line : List ℕ → ℕ → Result (Command × Decision) ℕ → Step → Step
carry_line text j (Ok p) x = carry_command text j p.0 p.1 x
carry_line text j (Err column) x = answer_line text j (Misread column) x

-- What a text comes to.
abbrev pub decided_text : Setting → Trace → ℕ → List ℕ → Result (Command × Decision) ℕ
decided_text st es now text = st.read text >>= (λ c. Ok (c, decided st es now c))

-- A command line: decided before it is seen, then carried out.
unfoldable pub on_line : List ℕ → Step → Step
on_line text x = carry_line text (next_job x.setting (seen x)) (decided_text x.setting (seen x) x.reading text) x
