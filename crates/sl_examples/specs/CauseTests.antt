-- The causes of ok replies once more, as tests that compute, for trying them on runs.
use Rattle.sl_area.specs.AreaSizes.{Layout, record_in}
use Rattle.sl_area.specs.AreaLayout.{leader_of, read_at}
use Rattle.sl_run.specs.Caused.{Answering, after_entry, before_entry, converting_step, the_session}
use Rattle.sl_trace.specs.KillPrograms.{is_killpath_limit}
use Rattle.sl_trace.specs.Counts.{may_act}
use Rattle.sl_trace.specs.Jobs.{command_of, job_of_start}
use Rattle.sl_trace.specs.Leases.{Leader_freed, Leader_taken, Mode_cleared, StepKind, holdings_on, is_at, lver_written, spot_of, value_written}
use Rattle.sl_request.specs.Requests.{check_request}
use Rattle.sl_run.specs.Runs.{daemons_of}
use Rattle.sl_run.specs.Worlds.{World}
use Rattle.sl_sector.specs.SectorLayouts.{request_in, value_in}
use Rattle.sl_sector.specs.declared.sector.Rec.TheVariants.{RequestIs}
use Rattle.sl_sector.specs.declared.sector.Rec.{Rec}
use Rattle.sl_trace.specs.Sessions.{generation_of, is_active, is_join_call, is_session_arg, session_of_job}
use Rattle.sl_trace.specs.Sightings.{sessions_seen, states_seen}
use Rattle.sl_trace.specs.declared.session.Session.{Session}
use Rattle.sl_trace.specs.EffectTexts.{reply_text}
use Rattle.sl_trace.specs.Traces.{Setting, Submitted, Trace, entry_at, gave, is_of_job, is_orphan, is_shared, job_numbered, no_process, record_of, same_place, submitted}
use Rattle.sl_trace.specs.declared.command.Command.TheVariants.{Acquire, Convert, HostStatus, InqLockspace, Release, ReleaseOrphan, RemLockspace, Request, RunProgram, SetKillpath, SetLvb, Status, TakeOver}
use Rattle.sl_trace.specs.declared.command.Command.{Command}
use Rattle.sl_trace.specs.declared.command.LockspaceArg.{LockspaceArg}
use Rattle.sl_trace.specs.declared.command.ResourceArg.{ResourceArg}
use Rattle.sl_trace.specs.declared.effects.Entry.{Entry}
use Rattle.sl_trace.specs.declared.effects.Grant.{Grant}
use Rattle.sl_trace.specs.declared.effects.JoinStep.TheVariants.{FirstRenewal}
use Rattle.sl_trace.specs.declared.effects.Purpose.TheVariants.{Leaving, RequestRead, RequestWrite, ValueRead, ValueWrite}
use Rattle.sl_trace.specs.declared.effects.Purpose.{Purpose}
use Rattle.sl_trace.specs.declared.input.Answer.TheVariants.{Read, Written}
use Rattle.sl_trace.specs.declared.input.Answer.{Answer}
use Rattle.sl_trace.specs.declared.input.Input.TheVariants.{Spawned}
use Rattle.sl_trace.specs.declared.reply.Reply.TheVariants.{Done, Generation, Granted, Hosts, Sessions, Started, Value, ValueSet}
use Rattle.sl_trace.specs.declared.reply.Reply.{Reply}
use Rattle.sl_words.specs.Words.{same_truth, some_is}
use Rattle.std.specs.List.{list_all, list_any}
use Rattle.std.specs.Prelude.{Bool, List, None, Option, Some, bytes_eq, false, flat_map, length, nat_lt, not, option_and_then, true, [], ℕ, ◌&&◌, ◌++◌, ◌==◌, ◌||◌, ◌∷◌}

-- Whether the entry brings the command.
abbrev pub at_command : Answering → Bool
at_command x = x.job.at == length x.past

-- Whether it is the answer of a write that is done.
abbrev pub is_written : Answer → Bool
is_written Written = true
is_written a = false

-- What a read gave, by its answer.
abbrev pub is_read : Answer → Bool
is_read (Read bytes) = true
is_read a = false

-- Whether the entry answers a call of the job that passes, so.
abbrev pub answers_call : Answering → (Answer → Bool) → (Submitted → Bool) → Bool
answers_call x answered passes =
    list_any (λ c. is_of_job x.job.number c && some_is (λ a. a.at == length x.past && answered a.answer) c.answer && passes c) (submitted (after_entry x))

-- .. a write of its lease at this step, of this instance.
abbrev pub wrote_at : Answering → StepKind → ℕ → Bool
wrote_at x kind n = answers_call x is_written (λ c. is_at kind c && lver_written c == n)

-- Whether the entry grants this.
abbrev pub grants_to : Answering → ResourceArg → ℕ → Bool → Bool → ℕ → Bool
grants_to x r p shared persistent n =
    list_any (λ g. g.process == p && same_place g.path g.offset r.path r.offset && same_truth (is_shared g.mode) shared && same_truth g.persistent persistent && g.lver == n)
    x.entry.effects.grants

-- Whether the session held the resource so.
abbrev pub held_before : Answering → ResourceArg → (Grant → Bool) → Bool
held_before x r passes = some_is (λ s. list_any passes (holdings_on (before_entry x) s (spot_of r))) (the_session x)

-- Whether the command is granted what it asks.
abbrev pub granted_test : Answering → ℕ → Command → Bool
granted_test x n (Acquire r false p persistent) = grants_to x r p false persistent n && wrote_at x Leader_taken n
granted_test x n (Acquire r true p persistent) =
    grants_to x r p true persistent n
    && (at_command x && held_before x r (λ g. is_shared g.mode && g.lver == n) || wrote_at x Leader_freed n)
granted_test x n (TakeOver r shared p persistent) =
    grants_to x r p shared persistent n && at_command x && held_before x r (λ g. is_orphan g && same_truth (is_shared g.mode) shared && g.lver == n)
granted_test x n (Convert r shared p) =
    at_command x && held_before x r (λ g. g.process == p && same_truth (is_shared g.mode) shared && g.lver == n)
    || held_before x r (λ g. g.process == p && same_truth (is_shared g.mode) (not shared) && grants_to x r p shared g.persistent n) && wrote_at x (converting_step shared) n
granted_test x n c = false

-- Whether the child of the command was started and holds.
abbrev pub started_test : Answering → ℕ → ℕ → Command → Bool
started_test x n p (RunProgram r shared path) =
    elim x.entry.input [ Spawned q ok ↦ q == p && ok | _ ↦ false ] && some_is (λ j. j == x.job.number) (job_of_start x.past p)
    && held_before x r (λ g. g.process == p && same_truth (is_shared g.mode) shared && g.lver == n)
started_test x n p c = false

-- Whether the holding ended at the command, and what was to be written is.
abbrev pub released_test : Answering → ResourceArg → ℕ → Bool
released_test x r p =
    some_is (λ e. list_any (λ d. d.process == p && same_place d.path d.offset r.path r.offset) e.effects.ends) (entry_at (after_entry x) x.job.at)
    && (at_command x && some_is (λ s. nat_lt 0 (length (holdings_on (after_entry x) s (spot_of r)))) (the_session x)
    || answers_call x is_written (λ c. is_at Leader_freed c || is_at Mode_cleared c))

-- Whether what was read lets a request pass.
abbrev pub accepted_test : Layout → List ℕ → ℕ → ℕ → Bool
accepted_test g bytes asked force =
    some_is (λ l. elim (request_in (read_at g bytes 1)) [ None ↦ asked == 0 | Some q ↦ check_request l.lver q.lver asked force ]) (leader_of g bytes)

-- Whether a purpose is the read, or the write, of a job's request.
abbrev pub is_request_read : ℕ → Purpose → Bool
is_request_read job (RequestRead j) = j == job
is_request_read job p = false

abbrev pub is_request_write : ℕ → Purpose → Bool
is_request_write job (RequestWrite j owner) = j == job
is_request_write job p = false

-- Whether a record is this request.
abbrev pub is_request_of : ℕ → ℕ → Rec → Bool
is_request_of asked force (RequestIs q) = q.lver == asked && q.force == force
is_request_of asked force r = false

-- Whether the request was accepted and written.
abbrev pub requested_test : Answering → ℕ → ℕ → Bool
requested_test x asked force =
    list_any (λ d. is_request_read x.job.number d.call.purpose && some_is (λ bytes. accepted_test x.setting.layout bytes asked force) (gave d)) (submitted x.past)
    && answers_call x is_written (λ c. is_request_write x.job.number c.call.purpose && some_is (is_request_of asked force) (record_of c.call.op))

-- Whether a purpose is the free of a job's leaving, the read or the write of its value.
abbrev pub is_leaving_of : ℕ → Purpose → Bool
is_leaving_of job (Leaving j) = j == job
is_leaving_of job p = false

abbrev pub is_value_read_of : ℕ → Purpose → Bool
is_value_read_of job (ValueRead j) = j == job
is_value_read_of job p = false

abbrev pub is_value_write_of : ℕ → Purpose → Bool
is_value_write_of job (ValueWrite j) = j == job
is_value_write_of job p = false

-- Whether the command is done.
abbrev pub done_test : Answering → Command → Bool
done_test x (Release r p) = released_test x r p
done_test x (ReleaseOrphan r) = released_test x r no_process
done_test x (RemLockspace a) = answers_call x is_written (λ c. is_leaving_of x.job.number c.call.purpose)
done_test x (Request r asked force) = requested_test x asked force
done_test x (SetKillpath p path) = at_command x && may_act (before_entry x) p && not (is_killpath_limit x.setting (before_entry x) p)
done_test x c = false

-- Whether a session that the command names by all its parts tells this.
abbrev pub told_test : Answering → Option LockspaceArg → (Session → Bool) → Bool
told_test x named passes =
    at_command x && some_is (λ a. some_is (λ s. is_session_arg s a && is_active x.setting (before_entry x) s && passes s) (the_session x)) named

-- Of whom an inquiry asks.
abbrev pub inquired : Command → Option LockspaceArg
inquired (InqLockspace a) = Some a
inquired c = None

-- Of whose hosts a command asks.
abbrev pub hosts_asked : Command → Option LockspaceArg
hosts_asked (HostStatus a) = Some a
hosts_asked c = None

-- Whether a command asks of all sessions.
abbrev pub is_status : Command → Bool
is_status Status = true
is_status c = false

-- Whether a command sets these bytes.
abbrev pub sets_bytes : List ℕ → Command → Bool
sets_bytes bytes (SetLvb r p b) = bytes_eq b bytes
sets_bytes bytes c = false

-- Whether an ok reply has its cause; of other replies nothing is asked here.
abbrev pub cause_test : Answering → Reply → Bool
cause_test x Done = some_is (done_test x) (command_of x.job)
cause_test x (Generation generation) =
    told_test x (option_and_then inquired (command_of x.job)) (λ s. generation_of (before_entry x) s == generation)
    || some_is (λ s. generation_of x.past s == generation) (session_of_job x.setting x.past x.job.number)
    && answers_call x is_written (λ c. is_join_call FirstRenewal c.call.purpose)
cause_test x (Granted lver) = some_is (granted_test x lver) (command_of x.job)
cause_test x (Started lver process) = some_is (started_test x lver process) (command_of x.job)
cause_test x (Value lver seq bytes) =
    answers_call x is_read (λ c. is_value_read_of x.job.number c.call.purpose
    && some_is (λ sector. some_is (λ v. v.lver == lver && v.seq == seq && bytes_eq v.bytes bytes) (value_in (record_in x.setting.layout sector))) (gave c))
cause_test x (ValueSet lver seq) =
    answers_call x is_written (λ c. is_value_write_of x.job.number c.call.purpose
    && some_is (λ v. v.lver == lver && v.seq == seq && some_is (sets_bytes v.bytes) (command_of x.job)) (value_written c))
cause_test x (Hosts states) =
    told_test x (option_and_then hosts_asked (command_of x.job))
    (λ s. bytes_eq (reply_text (Hosts states)) (reply_text (Hosts (states_seen x.setting (before_entry x) s x.entry.reading))))
cause_test x (Sessions sessions) =
    at_command x && some_is is_status (command_of x.job)
    && bytes_eq (reply_text (Sessions sessions)) (reply_text (Sessions (sessions_seen x.setting (before_entry x))))
cause_test x r = true

-- Whether each ok reply of an entry has its cause.
abbrev pub causes_test : Setting → Trace → Entry → Bool
causes_test st past e =
    list_all (λ a. some_is (λ j. cause_test (record { setting = st; past = past; entry = e; job = j }) a.reply) (job_numbered st (e ∷ past) a.job)) e.effects.replies

-- The entries of a trace with an ok reply without cause.
abbrev pub uncaused_in : Setting → Trace → List ℕ
uncaused_in st [] = []
uncaused_in st (e ∷ es) = uncaused_in st es ++ elim (causes_test st es e) [ true ↦ [] | false ↦ length es ∷ [] ]

-- Those of all daemons of a world.
abbrev pub uncaused_in_world : World → List ℕ
uncaused_in_world w = flat_map (λ d. uncaused_in d.setting d.trace) (daemons_of w)
