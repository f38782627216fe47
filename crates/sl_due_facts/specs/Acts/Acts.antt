-- The acts of which a step is made, each with what `due` has tested before it. A step keeps whatever each of them keeps.
use Rattle.sl_due.specs.DueAnswers.{set_reply}
use Rattle.sl_due.specs.DueCommands.{answer_line, carry_decision, decided, reply_at_once}
use Rattle.sl_due.specs.CarriedDelta.{begins_by_read, carry_delta, see_request}
use Rattle.sl_due.specs.DueTimeOuts.{is_overdue, refuse, remove_connection, remove_of_refused}
use Rattle.sl_due.specs.DueRecovery.{kills_holders, send, signal_and_refuse, signal_holders}
use Rattle.sl_due.specs.DueInputs.{end_holdings, leave_holdings, refuse_jobs_of, started_reply, when_running}
use Rattle.sl_due.specs.CarriedLease.{carry_lease, goes_on, next_of_lease}
use Rattle.sl_due.specs.DueRequests.{after_request_read, after_value_read, bits_due, signal_of_request}
use Rattle.sl_due.specs.Steps.{Step, add_reply, add_signal, seen, with_input}
use Rattle.sl_due.specs.declared.decision.Decision.TheVariants.{Replies}
use Rattle.sl_due.specs.declared.decision.Decision.{Decision}
use Rattle.sl_trace.specs.Jobs.{aim_of, command_numbered, job_of_start}
use Rattle.sl_trace.specs.Conversions.{convert_next}
use Rattle.sl_trace.specs.LeaseDecisions.{lease_place, settle_begin, within_turn}
use Rattle.sl_trace.specs.Releases.{release_next}
use Rattle.sl_trace.specs.Leases.{exclusive_on, known, open_on, spot_of_call}
use Rattle.sl_trace.specs.declared.lease.Aim.TheVariants.{Converts, Releases, Settles}
use Rattle.sl_trace.specs.declared.lease.Aim.{Aim}
use Rattle.sl_trace.specs.declared.lease.LeaseNext.{LeaseNext}
use Rattle.sl_trace.specs.DeltaDecisions.{delta_known, delta_of_session, next_after_free, next_after_renewal, next_free, next_in_joining, next_on_wake, next_renewal}
use Rattle.sl_trace.specs.Sessions.{calls_of, generation_of, has_open_write, holdings_of, is_active, is_joined, is_present, open_calls_of, recovery_of, session_numbered}
use Rattle.sl_trace.specs.declared.session.Session.{Session}
use Rattle.sl_trace.specs.Traces.{Setting, Submitted, Trace, bytes_given, call_numbered, is_expected, is_orphan, is_running, next_job, no_process, stands_for, waiting_call}
use Rattle.sl_trace.specs.declared.command.Command.{Command}
use Rattle.sl_trace.specs.declared.effects.Grant.{Grant}
use Rattle.sl_trace.specs.declared.effects.JoinStep.{JoinStep}
use Rattle.sl_trace.specs.declared.effects.LeaseStep.{LeaseStep}
use Rattle.sl_trace.specs.declared.effects.Mode.{Mode}
use Rattle.sl_trace.specs.declared.effects.Purpose.TheVariants.{Joining, Lease, Leaving, Renewal, RequestRead, RequestWrite, SeeRequest, Survey, ValueRead, ValueWrite}
use Rattle.sl_trace.specs.declared.effects.Purpose.{Purpose}
use Rattle.sl_trace.specs.declared.effects.Signal.TheVariants.{Kill, Term}
use Rattle.sl_trace.specs.declared.effects.Signal.{Signal}
use Rattle.sl_trace.specs.declared.effects.Spot.{Spot}
use Rattle.sl_trace.specs.declared.effects.Work.TheVariants.{Settling}
use Rattle.sl_trace.specs.declared.effects.Work.{Work}
use Rattle.sl_trace.specs.declared.input.Answer.TheVariants.{Failed, Read, Written}
use Rattle.sl_trace.specs.declared.input.Answer.{Answer}
use Rattle.sl_trace.specs.declared.input.Input.TheVariants.{Answer as Told, Exit, Line, Number, Spawned, Wake}
use Rattle.sl_trace.specs.declared.input.Input.{Input}
use Rattle.sl_trace.specs.declared.reply.Reply.TheVariants.{BadCommand as Misread, Done, IoFault, IoTimeout, SpawnFault}
use Rattle.sl_trace.specs.declared.reply.Reply.{Reply}
use Rattle.std.specs.Prelude.{Bool, Err, IsSome, IsTrue, List, None, Ok, Option, Some, false, is_some, true, [], ℕ, ◌%◌, ◌==◌, ◌≡◌, ◌⊎◌}

-- What a settling of the session on the area does next.
abbrev pub next_of_settling : Setting → Trace → Session → Spot → LeaseNext
next_of_settling st es s at = within_turn (lease_place st s) (known st es s at) Settles (settle_begin (lease_place st s) (known st es s at))

-- What the release of the grant begins with.
abbrev pub next_of_release : Setting → Trace → Session → Spot → Grant → LeaseNext
next_of_release st es s at g = within_turn (lease_place st s) (known st es s at) Releases (release_next (lease_place st s) (known st es s at) g.mode g.lver)

-- What a conversion to the mode begins with.
abbrev pub next_of_conversion : Setting → Trace → Session → Spot → Mode → List ℕ → LeaseNext
next_of_conversion st es s at mode name = within_turn (lease_place st s) (known st es s at) (Converts mode) (convert_next (known st es s at) mode name)

-- The session is one of the trace so far.
abbrev pub Has : Step → Session → Type 0
Has x s = session_numbered x.setting (seen x) s.number ≡ Some s

-- The input may come after the entries before this step.
abbrev pub Expects : Step → Input → Type 0
Expects x i = IsTrue (is_expected x.setting x.past i)

-- The step's input answers this call of the session, as the trace so far has it; the session was present before it, and nothing has been
-- called, granted or ended yet: so a call is answered by one act.
pub record Hears (x : Step) (s : Session) (m : Submitted) (answer : Answer) : Type 0 where
  pub number : ℕ
  pub heard : x.input ≡ Told number answer
  pub call : call_numbered (seen x) number ≡ Some m
  pub session : session_numbered x.setting (seen x) m.call.session ≡ Some s
  pub present : is_present (seen (with_input Wake x)) s ≡ true
  pub bare : x.effects.calls ≡ []
  pub ungranted : x.effects.grants ≡ []
  pub unended : x.effects.ends ≡ []

-- The job of a call that is a job's only one at its area.
abbrev pub lone_job : Purpose → Option ℕ
lone_job (RequestRead j) = Some j
lone_job (RequestWrite j owner) = Some j
lone_job (ValueWrite j) = Some j
lone_job (ValueRead j) = Some j
lone_job p = None

-- What keeps J after each act, where I held before it.
pub record Acts (I J : Step → Type 0) : Type 0 where
  -- ---- first
  pub kills : (x : Step) (s : Session) → Has x s → kills_holders x.setting (seen x) s ≡ true → I x → J (signal_holders Kill s x)
  pub times_out : (x : Step) (j : ℕ) (m : Submitted) → x.input ≡ Wake → x.effects.calls ≡ [] → is_running (seen x) j ≡ true → waiting_call (seen x) j ≡ Some m →
      is_overdue x.setting x.reading m ≡ true → I x → J (refuse j (IoTimeout m.call.number m.reading x.reading) x)
  -- ---- the input is seen; what an answer makes due are the next acts
  pub hears : (x : Step) (number : ℕ) (answer : Answer) → x.input ≡ Wake → x.effects.calls ≡ [] → Expects x (Told number answer) → I x → J (with_input (Told number answer) x)
  pub counts : (x : Step) (text : List ℕ) → x.input ≡ Wake → x.effects.calls ≡ [] → I x → J (with_input (Number text) x)
  pub exits : (x : Step) (p : ℕ) → x.input ≡ Wake → x.effects.calls ≡ [] → (p == no_process) ≡ false → I x → J (refuse_jobs_of p (leave_holdings p (with_input (Exit p) x)))
  pub exits_as_none : (x : Step) (p : ℕ) → x.input ≡ Wake → x.effects.calls ≡ [] → (p == no_process) ≡ true → I x → J (with_input (Exit p) x)
  pub starts : (x : Step) (p : ℕ) (ok : Bool) → x.input ≡ Wake → x.effects.calls ≡ [] → Expects x (Spawned p ok) → I x → J (with_input (Spawned p ok) x)
  pub fails_to_start : (x : Step) (p : ℕ) → x.input ≡ Spawned p false → I x → J (when_running (job_of_start (seen x) p) SpawnFault (end_holdings p x))
  -- the process for which a kill program stood that was not started
  pub signals_instead : (x : Step) (p q : ℕ) → x.input ≡ Spawned p false → stands_for (seen x) p ≡ Some q → I x → J (add_signal q Term x)
  pub says_started : (x : Step) (p j : ℕ) → x.input ≡ Spawned p true → job_of_start (seen x) p ≡ Some j → is_running (seen x) j ≡ true → I x → J (add_reply j (started_reply (seen x) p) x)
  -- ---- a line: it is answered at once, or what it came to is done
  pub misreads : (x : Step) (text : List ℕ) (column : ℕ) → x.input ≡ Wake → x.effects.calls ≡ [] → x.setting.read text ≡ Err column → I x →
      J (answer_line text (next_job x.setting (seen x)) (Misread column) x)
  pub answers : (x : Step) (text : List ℕ) (c : Command) (r : Reply) → x.input ≡ Wake → x.effects.calls ≡ [] → x.setting.read text ≡ Ok c →
      decided x.setting (seen x) x.reading c ≡ Replies r → I x → J (answer_line text (next_job x.setting (seen x)) r x)
  pub carries : (x : Step) (text : List ℕ) (c : Command) (d : Decision) → x.input ≡ Wake → x.effects.calls ≡ [] → x.setting.read text ≡ Ok c →
      decided x.setting (seen x) x.reading c ≡ d → reply_at_once d ≡ None → I x → J (carry_decision (next_job x.setting (seen x)) c d (with_input (Line text) x))
  -- ---- an answer (where nothing is done for it, there is no act)
  pub joins_on : (x : Step) (s : Session) (j : ℕ) (step : JoinStep) (m : Submitted) (answer : Answer) → Hears x s m answer → m.call.purpose ≡ Joining j step →
      is_running (seen x) j ≡ true → I x →
      J (carry_delta s (next_in_joining (delta_of_session x.setting s) (generation_of (seen x) s) (calls_of (seen x) s) x.reading m step answer) x)
  pub ends_joining : (x : Step) (s : Session) (j : ℕ) (step : JoinStep) (m : Submitted) (answer : Answer) → Hears x s m answer → m.call.purpose ≡ Joining j step →
      is_running (seen x) j ≡ false → I x → J (remove_of_refused s x)
  pub renewed : (x : Step) (s : Session) (m : Submitted) (answer : Answer) → Hears x s m answer → m.call.purpose ≡ Renewal → I x →
      J (carry_delta s (next_after_renewal (is_some (recovery_of x.setting (seen x) s)) m.reading answer) x)
  pub freed : (x : Step) (s : Session) (j : ℕ) (m : Submitted) (answer : Answer) → Hears x s m answer → m.call.purpose ≡ Leaving j → I x →
      J (carry_delta s (next_after_free j m.call.number answer) x)
  pub shown : (x : Step) (s : Session) (m : Submitted) (bytes : List ℕ) → Hears x s m (Read bytes) → m.call.purpose ≡ Survey → is_joined (seen x) s ≡ true →
      begins_by_read (seen x) (recovery_of x.setting (seen x) s) ≡ true → I x → J (signal_and_refuse s None x)
  pub sees : (x : Step) (s : Session) (number : ℕ) (bytes : List ℕ) (at : Spot) (g : Grant) → Has x s → x.input ≡ Told number (Read bytes) → exclusive_on (seen x) s at ≡ Some g → I x →
      J (see_request s g x)
  pub leads_on : (x : Step) (s : Session) (work : Work) (step : LeaseStep) (m : Submitted) (answer : Answer) (aim : Aim) → Hears x s m answer → m.call.purpose ≡ Lease work step →
      goes_on x.setting (seen x) s work ≡ true → aim_of x.setting (seen x) work ≡ Some aim → I x →
      J (carry_lease s (spot_of_call x.setting.layout m) work (next_of_lease x.setting (seen x) s (spot_of_call x.setting.layout m) aim m step answer) x)
  pub fails : (x : Step) (s : Session) (m : Submitted) (j : ℕ) → Hears x s m Failed → lone_job m.call.purpose ≡ Some j → is_running (seen x) j ≡ true → I x →
      J (add_reply j (IoFault m.call.number) x)
  pub has_asked : (x : Step) (s : Session) (m : Submitted) (j : ℕ) (owner : Option ℕ) → Hears x s m Written → m.call.purpose ≡ RequestWrite j owner → is_running (seen x) j ≡ true → I x →
      J (add_reply j Done x)
  pub has_set : (x : Step) (s : Session) (m : Submitted) (j : ℕ) → Hears x s m Written → m.call.purpose ≡ ValueWrite j → is_running (seen x) j ≡ true → I x →
      J (add_reply j (set_reply m) x)
  pub asks : (x : Step) (s : Session) (m : Submitted) (j : ℕ) (bytes : List ℕ) (c : Command) → Hears x s m (Read bytes) → m.call.purpose ≡ RequestRead j → is_running (seen x) j ≡ true →
      command_numbered x.setting (seen x) j ≡ Some c → I x → J (after_request_read s j bytes c x)
  pub tells : (x : Step) (s : Session) (m : Submitted) (j : ℕ) (bytes : List ℕ) → Hears x s m (Read bytes) → m.call.purpose ≡ ValueRead j → is_running (seen x) j ≡ true → I x →
      J (after_value_read j bytes x)
  pub warns : (x : Step) (s : Session) (m : Submitted) (bytes : List ℕ) (g : Grant) (signal : Signal) → Hears x s m (Read bytes) → m.call.purpose ≡ SeeRequest →
      exclusive_on (seen x) s (spot_of_call x.setting.layout m) ≡ Some g → is_orphan g ≡ false → signal_of_request x.setting.layout bytes g ≡ Some signal → I x →
      J (send g.process signal x)
  -- ---- a wake
  pub joins_in_time : (x : Step) (s : Session) (j : ℕ) → Has x s → x.input ≡ Wake → s.job ≡ Some j → is_running (seen x) j ≡ true → I x →
      J (carry_delta s (next_on_wake (delta_of_session x.setting s) x.reading (calls_of (seen x) s)) x)
  pub renews : (x : Step) (s : Session) → Has x s → x.input ≡ Wake → is_joined (seen x) s ≡ true → I x →
      J (carry_delta s
      (next_renewal (delta_of_session x.setting s) x.reading (delta_known x.setting (seen x) s) (bits_due x.setting (calls_of (seen x) s) x.reading)) x)
  pub settles : (x : Step) (s : Session) (at : Spot) → Has x s → x.input ≡ Wake → is_active x.setting (seen x) s ≡ true → at.base % x.setting.layout.area ≡ 0 → open_on x.setting (seen x) at ≡ [] → I x →
      J (carry_lease s at Settling (next_of_settling x.setting (seen x) s at) x)
  -- ---- last
  pub parts : (x : Step) (s : Session) → Has x s → is_joined (seen x) s ≡ true → is_some (recovery_of x.setting (seen x) s) ≡ true → holdings_of (seen x) s ≡ [] →
      has_open_write (seen x) s ≡ false → I x → J (remove_connection s.lockspace x)
  pub frees : (x : Step) (s : Session) → Has x s → is_joined (seen x) s ≡ true → is_some (recovery_of x.setting (seen x) s) ≡ false → holdings_of (seen x) s ≡ [] →
      open_calls_of (seen x) s ≡ [] → I x → J (carry_delta s (next_free (delta_of_session x.setting s) x.reading (delta_known x.setting (seen x) s)) x)

-- The acts but those of an answer.
pub record OtherActs (J : Step → Type 0) : Type 0 where
  pub kills : (x : Step) (s : Session) → Has x s → kills_holders x.setting (seen x) s ≡ true → J x → J (signal_holders Kill s x)
  pub times_out : (x : Step) (j : ℕ) (m : Submitted) → x.input ≡ Wake → x.effects.calls ≡ [] → is_running (seen x) j ≡ true → waiting_call (seen x) j ≡ Some m →
      is_overdue x.setting x.reading m ≡ true → J x → J (refuse j (IoTimeout m.call.number m.reading x.reading) x)
  pub counts : (x : Step) (text : List ℕ) → x.input ≡ Wake → x.effects.calls ≡ [] → J x → J (with_input (Number text) x)
  pub exits : (x : Step) (p : ℕ) → x.input ≡ Wake → x.effects.calls ≡ [] → (p == no_process) ≡ false → J x → J (refuse_jobs_of p (leave_holdings p (with_input (Exit p) x)))
  pub exits_as_none : (x : Step) (p : ℕ) → x.input ≡ Wake → x.effects.calls ≡ [] → (p == no_process) ≡ true → J x → J (with_input (Exit p) x)
  pub starts : (x : Step) (p : ℕ) (ok : Bool) → x.input ≡ Wake → x.effects.calls ≡ [] → Expects x (Spawned p ok) → J x → J (with_input (Spawned p ok) x)
  pub fails_to_start : (x : Step) (p : ℕ) → x.input ≡ Spawned p false → J x → J (when_running (job_of_start (seen x) p) SpawnFault (end_holdings p x))
  pub signals_instead : (x : Step) (p q : ℕ) → x.input ≡ Spawned p false → stands_for (seen x) p ≡ Some q → J x → J (add_signal q Term x)
  pub says_started : (x : Step) (p j : ℕ) → x.input ≡ Spawned p true → job_of_start (seen x) p ≡ Some j → is_running (seen x) j ≡ true → J x → J (add_reply j (started_reply (seen x) p) x)
  pub misreads : (x : Step) (text : List ℕ) (column : ℕ) → x.input ≡ Wake → x.effects.calls ≡ [] → x.setting.read text ≡ Err column → J x →
      J (answer_line text (next_job x.setting (seen x)) (Misread column) x)
  pub answers : (x : Step) (text : List ℕ) (c : Command) (r : Reply) → x.input ≡ Wake → x.effects.calls ≡ [] → x.setting.read text ≡ Ok c →
      decided x.setting (seen x) x.reading c ≡ Replies r → J x → J (answer_line text (next_job x.setting (seen x)) r x)
  pub carries : (x : Step) (text : List ℕ) (c : Command) (d : Decision) → x.input ≡ Wake → x.effects.calls ≡ [] → x.setting.read text ≡ Ok c →
      decided x.setting (seen x) x.reading c ≡ d → reply_at_once d ≡ None → J x → J (carry_decision (next_job x.setting (seen x)) c d (with_input (Line text) x))
  pub joins_in_time : (x : Step) (s : Session) (j : ℕ) → Has x s → x.input ≡ Wake → s.job ≡ Some j → is_running (seen x) j ≡ true → J x →
      J (carry_delta s (next_on_wake (delta_of_session x.setting s) x.reading (calls_of (seen x) s)) x)
  pub renews : (x : Step) (s : Session) → Has x s → x.input ≡ Wake → is_joined (seen x) s ≡ true → J x →
      J (carry_delta s
      (next_renewal (delta_of_session x.setting s) x.reading (delta_known x.setting (seen x) s) (bits_due x.setting (calls_of (seen x) s) x.reading)) x)
  pub settles : (x : Step) (s : Session) (at : Spot) → Has x s → x.input ≡ Wake → is_active x.setting (seen x) s ≡ true → at.base % x.setting.layout.area ≡ 0 → open_on x.setting (seen x) at ≡ [] → J x →
      J (carry_lease s at Settling (next_of_settling x.setting (seen x) s at) x)
  pub parts : (x : Step) (s : Session) → Has x s → is_joined (seen x) s ≡ true → is_some (recovery_of x.setting (seen x) s) ≡ true → holdings_of (seen x) s ≡ [] →
      has_open_write (seen x) s ≡ false → J x → J (remove_connection s.lockspace x)
  pub frees : (x : Step) (s : Session) → Has x s → is_joined (seen x) s ≡ true → is_some (recovery_of x.setting (seen x) s) ≡ false → holdings_of (seen x) s ≡ [] →
      open_calls_of (seen x) s ≡ [] → J x → J (carry_delta s (next_free (delta_of_session x.setting s) x.reading (delta_known x.setting (seen x) s)) x)

-- Where nothing is due at an answer, by what its call is for.
abbrev pub IsIdle : Step → Session → Submitted → Answer → Purpose → Type 0
IsIdle x s m answer (Lease work step) = (goes_on x.setting (seen x) s work ≡ false) ⊎ (aim_of x.setting (seen x) work ≡ None)
IsIdle x s m answer Survey =
    (bytes_given answer ≡ None) ⊎ (is_joined (seen x) s ≡ false) ⊎ (begins_by_read (seen x) (recovery_of x.setting (seen x) s) ≡ false)
IsIdle x s m answer (RequestRead j) = (is_running (seen x) j ≡ false) ⊎ (answer ≡ Written) ⊎ (command_numbered x.setting (seen x) j ≡ None)
IsIdle x s m answer (RequestWrite j owner) = (is_running (seen x) j ≡ false) ⊎ IsSome (bytes_given answer)
IsIdle x s m answer SeeRequest = Unit {0}
IsIdle x s m answer (ValueWrite j) = (is_running (seen x) j ≡ false) ⊎ IsSome (bytes_given answer)
IsIdle x s m answer (ValueRead j) = (is_running (seen x) j ≡ false) ⊎ (answer ≡ Written)
IsIdle x s m answer p = ⊥

-- The acts of an answer, from what holds once it is heard (H) to what holds when all that it makes due is done (J): here nothing may be
-- left out, so where nothing is due that is said too.
pub record AnswerActs (H J : Step → Type 0) : Type 0 where
  pub hears : (x : Step) (number : ℕ) (answer : Answer) → x.input ≡ Wake → x.effects.calls ≡ [] → Expects x (Told number answer) → J x → H (with_input (Told number answer) x)
  -- of no call, of no session, of one that was gone, or nothing is due
  pub finds_none : (x : Step) (number : ℕ) (answer : Answer) → x.input ≡ Told number answer → call_numbered (seen x) number ≡ None → H x → J x
  pub finds_nobody : (x : Step) (number : ℕ) (answer : Answer) (m : Submitted) → x.input ≡ Told number answer → call_numbered (seen x) number ≡ Some m →
      session_numbered x.setting (seen x) m.call.session ≡ None → H x → J x
  pub comes_late : (x : Step) (number : ℕ) (answer : Answer) (m : Submitted) (s : Session) → x.input ≡ Told number answer →
      call_numbered (seen x) number ≡ Some m → session_numbered x.setting (seen x) m.call.session ≡ Some s →
      is_present (seen (with_input Wake x)) s ≡ false → H x → J x
  pub idles : (x : Step) (s : Session) (m : Submitted) (answer : Answer) → Hears x s m answer → IsIdle x s m answer m.call.purpose → H x → J x
  pub joins_on : (x : Step) (s : Session) (j : ℕ) (step : JoinStep) (m : Submitted) (answer : Answer) → Hears x s m answer → m.call.purpose ≡ Joining j step →
      is_running (seen x) j ≡ true → H x →
      J (carry_delta s (next_in_joining (delta_of_session x.setting s) (generation_of (seen x) s) (calls_of (seen x) s) x.reading m step answer) x)
  pub ends_joining : (x : Step) (s : Session) (j : ℕ) (step : JoinStep) (m : Submitted) (answer : Answer) → Hears x s m answer → m.call.purpose ≡ Joining j step →
      is_running (seen x) j ≡ false → H x → J (remove_of_refused s x)
  pub renewed : (x : Step) (s : Session) (m : Submitted) (answer : Answer) → Hears x s m answer → m.call.purpose ≡ Renewal → H x →
      J (carry_delta s (next_after_renewal (is_some (recovery_of x.setting (seen x) s)) m.reading answer) x)
  pub freed : (x : Step) (s : Session) (j : ℕ) (m : Submitted) (answer : Answer) → Hears x s m answer → m.call.purpose ≡ Leaving j → H x →
      J (carry_delta s (next_after_free j m.call.number answer) x)
  pub shown : (x : Step) (s : Session) (m : Submitted) (bytes : List ℕ) → Hears x s m (Read bytes) → m.call.purpose ≡ Survey → is_joined (seen x) s ≡ true →
      begins_by_read (seen x) (recovery_of x.setting (seen x) s) ≡ true → H x → J (signal_and_refuse s None x)
  pub sees : (x : Step) (s : Session) (number : ℕ) (bytes : List ℕ) (at : Spot) (g : Grant) → Has x s → x.input ≡ Told number (Read bytes) → exclusive_on (seen x) s at ≡ Some g → J x →
      J (see_request s g x)
  pub leads_on : (x : Step) (s : Session) (work : Work) (step : LeaseStep) (m : Submitted) (answer : Answer) (aim : Aim) → Hears x s m answer → m.call.purpose ≡ Lease work step →
      goes_on x.setting (seen x) s work ≡ true → aim_of x.setting (seen x) work ≡ Some aim → H x →
      J (carry_lease s (spot_of_call x.setting.layout m) work (next_of_lease x.setting (seen x) s (spot_of_call x.setting.layout m) aim m step answer) x)
  pub fails : (x : Step) (s : Session) (m : Submitted) (j : ℕ) → Hears x s m Failed → lone_job m.call.purpose ≡ Some j → is_running (seen x) j ≡ true → H x →
      J (add_reply j (IoFault m.call.number) x)
  pub has_asked : (x : Step) (s : Session) (m : Submitted) (j : ℕ) (owner : Option ℕ) → Hears x s m Written → m.call.purpose ≡ RequestWrite j owner → is_running (seen x) j ≡ true → H x →
      J (add_reply j Done x)
  pub has_set : (x : Step) (s : Session) (m : Submitted) (j : ℕ) → Hears x s m Written → m.call.purpose ≡ ValueWrite j → is_running (seen x) j ≡ true → H x →
      J (add_reply j (set_reply m) x)
  pub asks : (x : Step) (s : Session) (m : Submitted) (j : ℕ) (bytes : List ℕ) (c : Command) → Hears x s m (Read bytes) → m.call.purpose ≡ RequestRead j → is_running (seen x) j ≡ true →
      command_numbered x.setting (seen x) j ≡ Some c → H x → J (after_request_read s j bytes c x)
  pub tells : (x : Step) (s : Session) (m : Submitted) (j : ℕ) (bytes : List ℕ) → Hears x s m (Read bytes) → m.call.purpose ≡ ValueRead j → is_running (seen x) j ≡ true → H x →
      J (after_value_read j bytes x)
  pub warns : (x : Step) (s : Session) (m : Submitted) (bytes : List ℕ) (g : Grant) (signal : Signal) → Hears x s m (Read bytes) → m.call.purpose ≡ SeeRequest →
      exclusive_on (seen x) s (spot_of_call x.setting.layout m) ≡ Some g → is_orphan g ≡ false → signal_of_request x.setting.layout bytes g ≡ Some signal → H x →
      J (send g.process signal x)

-- What each act keeps.
abbrev pub IsKept : (Step → Type 0) → Type 0
IsKept I = Acts I I
