-- An input keeps what the acts keep.
use Rattle.sl_due_facts.proofs.Acts.AddedAtEnd.{not_is}
use Rattle.sl_due_facts.proofs.Acts.HeadsKeep.{IsUnused}
use Rattle.sl_due_facts.proofs.Acts.LoopsKeep.{for_each_keeps, when_keeps, with_some_keeps}
use Rattle.sl_due_facts.proofs.Acts.SessionsStay.{Stays, call_stays, itself, reply_stays}
use Rattle.sl_due_facts.specs.Acts.Acts.{Has, Hears, IsKept, OtherActs, lone_job}
use Rattle.sl_area.specs.AreaLayout.{request_offset}
use Rattle.sl_due.specs.DueAnswers.{after_answer, after_answer_of, for_job, set_reply}
use Rattle.sl_due.specs.DueCommands.{answer_line, carry_decision, carry_line, decided, on_line, reply_at_once}
use Rattle.sl_due.specs.CarriedDelta.{after_free, after_join_answer, after_renewal, after_survey, begins_by_read, carry_delta, is_session_asked, see_request, see_request_on, see_requests}
use Rattle.sl_due.specs.DueTimeOuts.{remove_of_refused}
use Rattle.sl_due.specs.DueRecovery.{send, signal_and_refuse, signal_holders}
use Rattle.sl_due.specs.DueInputs.{end_holdings, leave_holdings, on_exit, on_spawned, refuse_jobs_of, started_reply, take_input, when_running}
use Rattle.sl_due.specs.CarriedLease.{after_lease_answer, carry_lease, goes_on, next_of_lease, with_command}
use Rattle.sl_due.specs.DueRequests.{after_request_read, after_see_request, after_value_read, signal_of_request}
use Rattle.sl_due.specs.Steps.{Step, add_end, add_reply, add_signal, add_start, seen, when, with_input, with_some}
use Rattle.sl_due.specs.declared.decision.Decision.TheVariants.{Replies}
use Rattle.sl_due.specs.declared.decision.Decision.{Decision}
use Rattle.sl_trace.specs.KillPrograms.{stopper_of}
use Rattle.sl_trace.specs.Jobs.{aim_of, command_numbered, job_of_start, jobs_of_session}
use Rattle.sl_trace.specs.Leases.{exclusive_on, lease_spots, spot_of_call}
use Rattle.sl_trace.specs.DeltaDecisions.{delta_of_session, next_in_joining}
use Rattle.sl_trace.specs.Sessions.{calls_of, generation_of, holders_of, is_joined, is_present, last_renewal, recovery_of, session_numbered}
use Rattle.sl_trace.specs.declared.session.Session.{Session}
use Rattle.sl_trace.specs.Traces.{Submitted, call_numbered, end_of, holdings, is_orphan, is_running, next_child, next_job, no_process, stands_for}
use Rattle.sl_trace.specs.declared.command.Command.{Command}
use Rattle.sl_trace.specs.declared.effects.JoinStep.{JoinStep}
use Rattle.sl_trace.specs.declared.effects.LeaseStep.{LeaseStep}
use Rattle.sl_trace.specs.declared.effects.Op.TheVariants.{ReadSectors}
use Rattle.sl_trace.specs.declared.effects.Purpose.TheVariants.{Joining, Lease, Leaving, Renewal, RequestRead, RequestWrite, SeeRequest, Survey, ValueRead, ValueWrite}
use Rattle.sl_trace.specs.declared.effects.Purpose.{Purpose}
use Rattle.sl_trace.specs.declared.effects.Signal.TheVariants.{Term}
use Rattle.sl_trace.specs.declared.effects.Work.{Work}
use Rattle.sl_trace.specs.declared.input.Answer.TheVariants.{Failed, Read, Written}
use Rattle.sl_trace.specs.declared.input.Answer.{Answer}
use Rattle.sl_trace.specs.declared.input.Input.TheVariants.{Answer as Told, Exit, Line, Number, Spawned, Wake}
use Rattle.sl_trace.specs.declared.input.Input.{Input}
use Rattle.sl_trace.specs.declared.reply.Reply.TheVariants.{Done, IoFault, Recovering, SpawnFault}
use Rattle.sl_trace.specs.declared.reply.Reply.{Reply}
use Rattle.sl_run_law.proofs.Leases.NumberLaws.{number_is_place}
use Rattle.sl_words.proofs.CaseLaws.{none_some, some_value}
use Rattle.sl_words.specs.Results.{◌>>=◌}
use Rattle.sl_words.specs.Words.{some_is}
use Rattle.std.proofs.Common.{ap, refl, subst, ◌∙◌}
use Rattle.std.specs.Prelude.{Bool, Err, List, None, Ok, Option, Result, Some, false, filter, not, true, [], ℕ, ◌==◌, ◌≡◌}

-- ---- a line

decided_keeps : (I : Step → Type 0) → OtherActs I → (x : Step) (text : List ℕ) (c : Command) (d : Decision) → x.input ≡ Wake → x.effects.calls ≡ [] → x.setting.read text ≡ Ok c
    → decided x.setting (seen x) x.reading c ≡ d → (o : Option Reply) → reply_at_once d ≡ o → I x
    → I (elim o as (λ z. Step) [ Some r ↦ answer_line text (next_job x.setting (seen x)) r x | None ↦ carry_decision (next_job x.setting (seen x)) c d (with_input (Line text) x) ])
decided_keeps I k x text c d wake bare says is None at h = k.carries x text c d wake bare says is at h
decided_keeps I k x text c (Replies q) wake bare says is (Some r) at h = k.answers x text c r wake bare says (is ∙ ap (λ z. Replies z) (some_value q r at)) h
decided_keeps I k x text c d wake bare says is (Some r) at h = absurd (none_some r at)

line_by : (I : Step → Type 0) → OtherActs I → (x : Step) (text : List ℕ) → x.input ≡ Wake → x.effects.calls ≡ [] → (o : Result Command ℕ) → x.setting.read text ≡ o → I x
    → I (carry_line text (next_job x.setting (seen x)) (o >>= (λ c. Ok (c, decided x.setting (seen x) x.reading c))) x)
line_by I k x text wake bare (Err column) is h = k.misreads x text column wake bare is h
line_by I k x text wake bare (Ok c) is h =
    decided_keeps I k x text c (decided x.setting (seen x) x.reading c) wake bare is refl (reply_at_once (decided x.setting (seen x) x.reading c)) refl h

line_keeps : (I : Step → Type 0) → OtherActs I → (x : Step) (text : List ℕ) → x.input ≡ Wake → x.effects.calls ≡ [] → I x → I (on_line text x)
unfolding on_line
line_keeps I k x text wake bare h = line_by I k x text wake bare (x.setting.read text) refl h

-- ---- an answer

running_by : (I : Step → Type 0) (x y : Step) (f : Step → Step) (b : Bool) → (b ≡ true → I x → I (f x)) → I x → I (elim b as (λ z. Step) [ false ↦ x | true ↦ f x ])
running_by I x y f true keeps h = keeps refl h
running_by I x y f false keeps h = h

job_keeps : (I : Step → Type 0) → IsKept I → (x : Step) (s : Session) (m : Submitted) (j : ℕ) (answer : Answer) → Hears x s m answer → lone_job m.call.purpose ≡ Some j
    → (on_bytes : List ℕ → Step → Step) (on_done : Step → Step)
    → ((bytes : List ℕ) → Hears x s m (Read bytes) → is_running (seen x) j ≡ true → I x → I (on_bytes bytes x)) → (Hears x s m Written → is_running (seen x) j ≡ true → I x → I (on_done x)) → I x
    → I (for_job j m answer on_bytes on_done x)
job_keeps I k x s m j (Read bytes) hears lone on_bytes on_done reads writes h = running_by I x x (on_bytes bytes) (is_running (seen x) j) (λ runs g. reads bytes hears runs g) h
job_keeps I k x s m j Written hears lone on_bytes on_done reads writes h = running_by I x x on_done (is_running (seen x) j) (λ runs g. writes hears runs g) h
job_keeps I k x s m j Failed hears lone on_bytes on_done reads writes h =
    running_by I x x (add_reply j (IoFault m.call.number)) (is_running (seen x) j) (λ runs g. k.fails x s m j hears lone runs g) h

joining_keeps : (I : Step → Type 0) → IsKept I → (x : Step) (s : Session) (j : ℕ) (step : JoinStep) (m : Submitted) (answer : Answer) → Hears x s m answer → m.call.purpose ≡ Joining j step
    → (b : Bool) → is_running (seen x) j ≡ b → I x
    → I (elim b as (λ z. Step) [
      | false ↦ remove_of_refused s x
      | true ↦ carry_delta s (next_in_joining (delta_of_session x.setting s) (generation_of (seen x) s) (calls_of (seen x) s) x.reading m step answer) x
    ])
joining_keeps I k x s j step m answer hears is true runs h = k.joins_on x s j step m answer hears is runs h
joining_keeps I k x s j step m answer hears is false runs h = k.ends_joining x s j step m answer hears is runs h

lease_keeps : (I : Step → Type 0) → IsKept I → (x : Step) (s : Session) (work : Work) (step : LeaseStep) (m : Submitted) (answer : Answer) → Hears x s m answer → m.call.purpose ≡ Lease work step → I x
    → I (after_lease_answer s work step m answer x)
unfolding after_lease_answer
lease_keeps I k x s work step m answer hears is h =
    running_by I x x
    (λ z. with_some (aim_of z.setting (seen z) work) (λ aim y.
    carry_lease s (spot_of_call y.setting.layout m) work (next_of_lease y.setting (seen y) s (spot_of_call y.setting.layout m) aim m step answer) y) z)
    (goes_on x.setting (seen x) s work)
    (λ on g. with_some_keeps I (aim_of x.setting (seen x) work)
    (λ aim y. carry_lease s (spot_of_call y.setting.layout m) work (next_of_lease y.setting (seen y) s (spot_of_call y.setting.layout m) aim m step answer) y) x
    (λ aim at f. k.leads_on x s work step m answer aim hears is on at f) g) h

abbrev Since : (Step → Type 0) → Step → Step → Type 0
Since I x y = I y × Stays x y

told_by : (x y : Step) (p : ℕ) (o : Option (List ℕ)) → Stays x y
    → Stays x (elim o as (λ z. Step) [ None ↦ add_signal p Term y | Some program ↦ add_start (record { process = next_child (seen y); program = program; job = None; stands_for = Some p }) y ])
told_by x y p None h = record { sessions = h.sessions; input = h.input }
told_by x y p (Some program) h = record { sessions = h.sessions; input = h.input }

pub stop_stays : (x y : Step) (s : Session) (kept : Option ℕ) → Stays x y → Stays x (signal_and_refuse s kept y)
unfolding signal_and_refuse
stop_stays x y s kept h =
    let z : Step = signal_holders Term s y in
    for_each_keeps (Stays x) (filter (λ j. not (some_is (λ n. n == j.number) kept)) (jobs_of_session z.setting (seen z) s))
    (λ j. add_reply j.number (Recovering (last_renewal z.setting (seen z) s))) z
    (λ j there w f. reply_stays x w j.number (Recovering (last_renewal z.setting (seen z) s)) f)
    (for_each_keeps (Stays x) (holders_of (seen y) s) (λ p. send p Term) y (λ p there w f. told_by x w p (stopper_of w.setting (seen w) p) f) h)

pub has_heard : (x : Step) (s : Session) (m : Submitted) (answer : Answer) → Hears x s m answer → Has x s
has_heard x s m answer hears = ap (λ n. session_numbered x.setting (seen x) n) (number_is_place x.setting (seen x) m.call.session s hears.session) ∙ hears.session

sees_after : (I : Step → Type 0) → IsKept I → (x : Step) (s : Session) (m : Submitted) (bytes : List ℕ) → Hears x s m (Read bytes) → (y : Step) (asked : Bool) → Since I x y → I (when asked (see_requests s) y)
unfolding see_requests
sees_after I k x s m bytes hears y false h = h.0
sees_after I k x s m bytes hears y true h =
    (for_each_keeps (Since I x) (lease_spots y.setting (seen y) s) (see_request_on s) y
    (λ at there z g. with_some_keeps (Since I x) (exclusive_on (seen z) s at) (see_request s) z
    (λ held is f. (
      k.sees z s hears.number bytes at held (f.1.sessions s (has_heard x s m (Read bytes) hears)) (f.1.input ∙ hears.heard) is f.0,
      call_stays x z s.number held.path SeeRequest (request_offset z.setting.layout held.offset) (ReadSectors 1) f.1,
    )) g) h).0

survey_keeps : (I : Step → Type 0) → IsKept I → (x : Step) (s : Session) (m : Submitted) (bytes : List ℕ) → Hears x s m (Read bytes) → m.call.purpose ≡ Survey → I x → I (after_survey s bytes x)
unfolding after_survey
survey_keeps I k x s m bytes hears is h =
    when_keeps I (is_joined (seen x) s)
    (λ y. when (is_session_asked y.setting s bytes) (see_requests s) (when (begins_by_read (seen y) (recovery_of y.setting (seen y) s)) (signal_and_refuse s None) y)) x
    (λ joined g.
    let first : Since I x (when (begins_by_read (seen x) (recovery_of x.setting (seen x) s)) (signal_and_refuse s None) x) =
    when_keeps (Since I x) (begins_by_read (seen x) (recovery_of x.setting (seen x) s)) (signal_and_refuse s None) x
    (λ begins f. (k.shown x s m bytes hears is joined begins f.0, stop_stays x x s None f.1)) (g, itself x) in
    sees_after I k x s m bytes hears (when (begins_by_read (seen x) (recovery_of x.setting (seen x) s)) (signal_and_refuse s None) x) (is_session_asked x.setting s bytes) first) h

looks_keep : (I : Step → Type 0) → IsKept I → (x : Step) (s : Session) (m : Submitted) (bytes : List ℕ) → Hears x s m (Read bytes) → m.call.purpose ≡ SeeRequest → I x → I (after_see_request s m bytes x)
unfolding after_see_request
looks_keep I k x s m bytes hears is h =
    with_some_keeps I (exclusive_on (seen x) s (spot_of_call x.setting.layout m)) (λ g. when (not (is_orphan g)) (with_some (signal_of_request x.setting.layout bytes g) (send g.process))) x
    (λ g held f. when_keeps I (not (is_orphan g)) (with_some (signal_of_request x.setting.layout bytes g) (send g.process)) x
    (λ own e. with_some_keeps I (signal_of_request x.setting.layout bytes g) (send g.process) x
    (λ signal says d. k.warns x s m bytes g signal hears is held (not_is (is_orphan g) own) says d) e) f) h

answer_of_keeps : (I : Step → Type 0) → IsKept I → (x : Step) (s : Session) (m : Submitted) (p : Purpose) (answer : Answer) → Hears x s m answer → m.call.purpose ≡ p → I x → I (after_answer_of s m p answer x)
unfolding after_answer_of after_join_answer after_renewal after_free
answer_of_keeps I k x s m (Joining j step) answer hears is h = joining_keeps I k x s j step m answer hears is (is_running (seen x) j) refl h
answer_of_keeps I k x s m Renewal answer hears is h = k.renewed x s m answer hears is h
answer_of_keeps I k x s m Survey (Read bytes) hears is h = survey_keeps I k x s m bytes hears is h
answer_of_keeps I k x s m Survey Written hears is h = h
answer_of_keeps I k x s m Survey Failed hears is h = h
answer_of_keeps I k x s m (Leaving j) answer hears is h = k.freed x s j m answer hears is h
answer_of_keeps I k x s m (Lease work step) answer hears is h = lease_keeps I k x s work step m answer hears is h
answer_of_keeps I k x s m (RequestRead j) answer hears is h =
    job_keeps I k x s m j answer hears (ap (λ p. lone_job p) is) (λ bytes. with_command j (after_request_read s j bytes)) (λ y. y)
    (λ bytes heard runs g. with_some_keeps I (command_numbered x.setting (seen x) j) (after_request_read s j bytes) x (λ c at f. k.asks x s m j bytes c heard is runs at f) g)
    (λ heard runs g. g) h
answer_of_keeps I k x s m (RequestWrite j o) answer hears is h =
    job_keeps I k x s m j answer hears (ap (λ p. lone_job p) is) (λ bytes y. y) (add_reply j Done) (λ bytes heard runs g. g)
    (λ heard runs g. k.has_asked x s m j o heard is runs g) h
answer_of_keeps I k x s m SeeRequest (Read bytes) hears is h = looks_keep I k x s m bytes hears is h
answer_of_keeps I k x s m SeeRequest Written hears is h = h
answer_of_keeps I k x s m SeeRequest Failed hears is h = h
answer_of_keeps I k x s m (ValueWrite j) answer hears is h =
    job_keeps I k x s m j answer hears (ap (λ p. lone_job p) is) (λ bytes y. y) (add_reply j (set_reply m)) (λ bytes heard runs g. g)
    (λ heard runs g. k.has_set x s m j heard is runs g) h
answer_of_keeps I k x s m (ValueRead j) answer hears is h =
    job_keeps I k x s m j answer hears (ap (λ p. lone_job p) is) (λ bytes. after_value_read j bytes) (λ y. y)
    (λ bytes heard runs g. k.tells x s m j bytes heard is runs g) (λ heard runs g. g) h

pub told_keeps : (I : Step → Type 0) → IsKept I → (x : Step) (was : Session → Bool) (number : ℕ) (answer : Answer) → x.input ≡ Told number answer → IsUnused x
    → ((s : Session) → was s ≡ true → is_present (seen (with_input Wake x)) s ≡ true) → I x → I (after_answer was number answer x)
unfolding after_answer
told_keeps I k x was number answer heard bare before h =
    with_some_keeps I (call_numbered (seen x) number) (λ m. with_some (session_numbered x.setting (seen x) m.call.session) (λ s. when (was s) (after_answer_of s m m.call.purpose answer))) x
    (λ m call g. with_some_keeps I (session_numbered x.setting (seen x) m.call.session) (λ s. when (was s) (after_answer_of s m m.call.purpose answer)) x
    (λ s session f. when_keeps I (was s) (after_answer_of s m m.call.purpose answer) x
    (λ there e. answer_of_keeps I k x s m m.call.purpose answer (record { number = number; heard = heard; call = call; session = session; present = before s there; bare = bare.0; ungranted = bare.1; unended = bare.2 }) refl e) f) g) h

-- ---- exits and starts

said_by : (I : Step → Type 0) (x : Step) (o : Option ℕ) (r : Reply) → ((j : ℕ) → o ≡ Some j → is_running (seen x) j ≡ true → I x → I (add_reply j r x)) → I x → I (when_running o r x)
said_by I x None r keeps h = h
said_by I x (Some j) r keeps h = when_keeps I (is_running (seen x) j) (add_reply j r) x (λ runs g. keeps j refl runs g) h

-- The end of what a child held and the reply to its job leave the input.
failed_input : (x : Step) (p : ℕ) → x.input ≡ Spawned p false → (when_running (job_of_start (seen x) p) SpawnFault (end_holdings p x)).input ≡ Spawned p false
failed_input x p heard =
    said_by (λ z. z.input ≡ Spawned p false) (end_holdings p x) (job_of_start (seen x) p) SpawnFault (λ j is runs g. g)
    (for_each_keeps (λ z. z.input ≡ Spawned p false) (filter (λ g. g.process == p) (holdings (seen x))) (λ g. add_end (end_of g)) x (λ g there z f. f) heard)

pub started_keeps : (I : Step → Type 0) → OtherActs I → (x : Step) (p : ℕ) (ok : Bool) → x.input ≡ Spawned p ok → I x → I (on_spawned p ok x)
unfolding on_spawned
started_keeps I k x p true heard h = said_by I x (job_of_start (seen x) p) (started_reply (seen x) p) (λ j is runs g. k.says_started x p j heard is runs g) h
started_keeps I k x p false heard h =
    let y : Step = when_running (job_of_start (seen x) p) SpawnFault (end_holdings p x) in
    with_some_keeps I (stands_for (seen y) p) (λ q. add_signal q Term) y (λ q is g. k.signals_instead y p q (failed_input x p heard) is g) (k.fails_to_start x p heard h)

exit_by : (I : Step → Type 0) → OtherActs I → (x : Step) (p : ℕ) → x.input ≡ Wake → x.effects.calls ≡ [] → (none : Bool) → (p == no_process) ≡ none → I x
    → I (when (not none) (λ y. refuse_jobs_of p (leave_holdings p y)) (with_input (Exit p) x))
exit_by I k x p wake bare true is h = k.exits_as_none x p wake bare is h
exit_by I k x p wake bare false is h = k.exits x p wake bare is h

-- ---- the whole

-- The step with the start of a child; of that it is asked that it was expected.
abbrev pub Arrives : (Step → Type 0) → Step → Input → Type 0
Arrives I x (Spawned p ok) = I (with_input (Spawned p ok) x)
Arrives I x i = Unit {0}

pub was_there : (x : Step) (i : Input) → x.input ≡ Wake → (s : Session) → is_present (seen x) s ≡ true → is_present (seen (with_input Wake (with_input i x))) s ≡ true
was_there x i wake s is = subst (λ k. is_present (seen (with_input k x)) s ≡ true) wake is

pub others_keep : (I : Step → Type 0) → OtherActs I → (x : Step) (i : Input) → x.input ≡ Wake → x.effects.calls ≡ []
    → (((number : ℕ) (answer : Answer) → i ≡ Told number answer → I (take_input i x))) → Arrives I x i → I x → I (take_input i x)
unfolding take_input on_exit
others_keep I k x (Line text) wake bare answers arrives h = line_keeps I k x text wake bare h
others_keep I k x (Number text) wake bare answers arrives h = k.counts x text wake bare h
others_keep I k x (Told number answer) wake bare answers arrives h = answers number answer refl
others_keep I k x (Exit p) wake bare answers arrives h = exit_by I k x p wake bare (p == no_process) refl h
others_keep I k x (Spawned p ok) wake bare answers arrives h = started_keeps I k (with_input (Spawned p ok) x) p ok refl arrives
others_keep I k x Wake wake bare answers arrives h = h

pub answer_keeps : (I : Step → Type 0) → IsKept I → (x : Step) (number : ℕ) (answer : Answer) → x.input ≡ Wake → IsUnused x → I (with_input (Told number answer) x)
    → I (take_input (Told number answer) x)
unfolding take_input
answer_keeps I k x number answer wake bare heard = told_keeps I k (with_input (Told number answer) x) (is_present (seen x)) number answer refl bare (was_there x (Told number answer) wake) heard

-- The acts but those of an answer.
pub other_acts : (I : Step → Type 0) → IsKept I → OtherActs I
other_acts I k =
    record {
      kills = k.kills;
      times_out = k.times_out;
      counts = k.counts;
      exits = k.exits;
      exits_as_none = k.exits_as_none;
      starts = k.starts;
      fails_to_start = k.fails_to_start;
      signals_instead = k.signals_instead;
      says_started = k.says_started;
      misreads = k.misreads;
      answers = k.answers;
      carries = k.carries;
      joins_in_time = k.joins_in_time;
      renews = k.renews;
      settles = k.settles;
      parts = k.parts;
      frees = k.frees;
    }
