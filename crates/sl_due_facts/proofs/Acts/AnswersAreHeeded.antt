-- All that an answer makes due is done: from what holds once it is heard to what holds at the entry's end.
use Rattle.sl_due_facts.proofs.Acts.AddedAtEnd.{not_is}
use Rattle.sl_due_facts.proofs.Acts.InputsKeep.{has_heard, stop_stays}
use Rattle.sl_due_facts.proofs.Acts.LoopsKeep.{for_each_keeps, when_keeps, with_some_keeps}
use Rattle.sl_due_facts.proofs.Acts.SessionsStay.{Stays, call_stays, itself}
use Rattle.sl_due_facts.proofs.Acts.HeadsKeep.{IsUnused}
use Rattle.sl_due_facts.proofs.Acts.StepsKeep.{arrives_as_expected, at_input, bare_at_input, expected_there, step_by}
use Rattle.sl_due_facts.specs.Acts.Acts.{AnswerActs, Expects, Hears, IsIdle, OtherActs, lone_job}
use Rattle.sl_area.specs.AreaLayout.{request_offset}
use Rattle.sl_due.specs.Due.{due_step}
use Rattle.sl_due.specs.DueAnswers.{after_answer, after_answer_of, for_job, set_reply}
use Rattle.sl_due.specs.CarriedDelta.{after_free, after_join_answer, after_renewal, after_survey, begins_by_read, carry_delta, is_session_asked, see_request, see_request_on, see_requests}
use Rattle.sl_due.specs.DueRecovery.{begin_recoveries, send, signal_and_refuse}
use Rattle.sl_due.specs.DueTimeOuts.{remove_of_refused}
use Rattle.sl_due.specs.DueInputs.{take_input}
use Rattle.sl_due.specs.CarriedLease.{after_lease_answer, carry_lease, goes_on, next_of_lease, with_command}
use Rattle.sl_due.specs.DueRequests.{after_request_read, after_see_request, after_value_read, signal_of_request}
use Rattle.sl_due.specs.Steps.{Step, add_reply, begin_step, seen, when, with_input, with_some}
use Rattle.sl_trace.specs.Jobs.{aim_of, command_numbered}
use Rattle.sl_trace.specs.Leases.{exclusive_on, lease_spots, spot_of_call}
use Rattle.sl_trace.specs.DeltaDecisions.{delta_of_session, next_in_joining}
use Rattle.sl_trace.specs.Sessions.{calls_of, generation_of, is_joined, is_present, recovery_of, session_numbered}
use Rattle.sl_trace.specs.declared.session.Session.{Session}
use Rattle.sl_trace.specs.Traces.{Setting, Submitted, Trace, bytes_given, call_numbered, is_expected, is_orphan, is_running}
use Rattle.sl_trace.specs.declared.effects.JoinStep.{JoinStep}
use Rattle.sl_trace.specs.declared.effects.LeaseStep.{LeaseStep}
use Rattle.sl_trace.specs.declared.effects.Op.TheVariants.{ReadSectors}
use Rattle.sl_trace.specs.declared.effects.Purpose.TheVariants.{Joining, Lease, Leaving, Renewal, RequestRead, RequestWrite, SeeRequest, Survey, ValueRead, ValueWrite}
use Rattle.sl_trace.specs.declared.effects.Purpose.{Purpose}
use Rattle.sl_trace.specs.declared.effects.Work.{Work}
use Rattle.sl_trace.specs.declared.input.Answer.TheVariants.{Failed, Read, Written}
use Rattle.sl_trace.specs.declared.input.Answer.{Answer}
use Rattle.sl_trace.specs.declared.input.Input.TheVariants.{Answer as Told, Wake}
use Rattle.sl_trace.specs.declared.input.Input.{Input}
use Rattle.sl_trace.specs.declared.reply.Reply.TheVariants.{Done, IoFault}
use Rattle.std.proofs.Common.{ap, inl, inr, refl, subst, sym, ◌∙◌}
use Rattle.std.specs.Prelude.{Bool, IsSome, IsTrue, List, None, Option, Some, false, not, true, ℕ, ◌≡◌}

-- ---- either something is due, or nothing

where_some : (H J : Step → Type 0) {A : Type 0} (o : Option A) (f : A → Step → Step) (x : Step) → (o ≡ None → H x → J x) → ((a : A) → o ≡ Some a → H x → J (f a x)) → H x → J (with_some o f x)
where_some H J None f x idle acts h = idle refl h
where_some H J (Some a) f x idle acts h = acts a refl h

where_true : (H J : Step → Type 0) (b : Bool) (f : Step → Step) (x : Step) → (b ≡ false → H x → J x) → (b ≡ true → H x → J (f x)) → H x → J (when b f x)
where_true H J true f x idle acts h = acts refl h
where_true H J false f x idle acts h = idle refl h

runs_or_not : (H J : Step → Type 0) (x : Step) (f : Step → Step) (b : Bool) → (b ≡ false → H x → J x) → (b ≡ true → H x → J (f x)) → H x → J (elim b as (λ z. Step) [ false ↦ x | true ↦ f x ])
runs_or_not H J x f true idle acts h = acts refl h
runs_or_not H J x f false idle acts h = idle refl h

-- ---- by what the call was for

joining_heeded : (H J : Step → Type 0) → AnswerActs H J → (x : Step) (s : Session) (j : ℕ) (step : JoinStep) (m : Submitted) (answer : Answer) → Hears x s m answer → m.call.purpose ≡ Joining j step
    → (b : Bool) → is_running (seen x) j ≡ b → H x
    → J (elim b as (λ z. Step) [
      | false ↦ remove_of_refused s x
      | true ↦ carry_delta s (next_in_joining (delta_of_session x.setting s) (generation_of (seen x) s) (calls_of (seen x) s) x.reading m step answer) x
    ])
joining_heeded H J k x s j step m answer hears is true runs h = k.joins_on x s j step m answer hears is runs h
joining_heeded H J k x s j step m answer hears is false runs h = k.ends_joining x s j step m answer hears is runs h

-- Nothing is due, by what the call was for.
idle : (H J : Step → Type 0) → AnswerActs H J → (x : Step) (s : Session) (m : Submitted) (answer : Answer) (p : Purpose) → Hears x s m answer → m.call.purpose ≡ p → IsIdle x s m answer p → H x → J x
idle H J k x s m answer p hears is none h = k.idles x s m answer hears (subst (λ z. IsIdle x s m answer z) (sym is) none) h

lease_heeded : (H J : Step → Type 0) → AnswerActs H J → (x : Step) (s : Session) (work : Work) (step : LeaseStep) (m : Submitted) (answer : Answer) → Hears x s m answer → m.call.purpose ≡ Lease work step → H x
    → J (after_lease_answer s work step m answer x)
unfolding after_lease_answer
lease_heeded H J k x s work step m answer hears is h =
    runs_or_not H J x
    (λ z. with_some (aim_of z.setting (seen z) work) (λ aim y.
    carry_lease s (spot_of_call y.setting.layout m) work (next_of_lease y.setting (seen y) s (spot_of_call y.setting.layout m) aim m step answer) y) z)
    (goes_on x.setting (seen x) s work) (λ stops g. idle H J k x s m answer (Lease work step) hears is (inl stops) g)
    (λ on g. where_some H J (aim_of x.setting (seen x) work)
    (λ aim y. carry_lease s (spot_of_call y.setting.layout m) work (next_of_lease y.setting (seen y) s (spot_of_call y.setting.layout m) aim m step answer) y) x
    (λ none f. idle H J k x s m answer (Lease work step) hears is (inr none) f) (λ aim at f. k.leads_on x s work step m answer aim hears is on at f) g) h

sees_more : (H J : Step → Type 0) → AnswerActs H J → (x : Step) (s : Session) (m : Submitted) (bytes : List ℕ) → Hears x s m (Read bytes) → (y : Step) (asked : Bool) → J y × Stays x y → J (when asked (see_requests s) y)
unfolding see_requests
sees_more H J k x s m bytes hears y false h = h.0
sees_more H J k x s m bytes hears y true h =
    (for_each_keeps (λ z. J z × Stays x z) (lease_spots y.setting (seen y) s) (see_request_on s) y
    (λ at there z g. with_some_keeps (λ w. J w × Stays x w) (exclusive_on (seen z) s at) (see_request s) z
    (λ held is f. (
      k.sees z s hears.number bytes at held (f.1.sessions s (has_heard x s m (Read bytes) hears)) (f.1.input ∙ hears.heard) is f.0,
      call_stays x z s.number held.path SeeRequest (request_offset z.setting.layout held.offset) (ReadSectors 1) f.1,
    )) g) h).0

survey_heeded : (H J : Step → Type 0) → AnswerActs H J → (x : Step) (s : Session) (m : Submitted) (bytes : List ℕ) → Hears x s m (Read bytes) → m.call.purpose ≡ Survey → H x → J (after_survey s bytes x)
unfolding after_survey
survey_heeded H J k x s m bytes hears is h =
    where_true H J (is_joined (seen x) s)
    (λ y. when (is_session_asked y.setting s bytes) (see_requests s) (when (begins_by_read (seen y) (recovery_of y.setting (seen y) s)) (signal_and_refuse s None) y)) x
    (λ apart g. idle H J k x s m (Read bytes) Survey hears is (inr (inl apart)) g)
    (λ joined g.
    let first : J (when (begins_by_read (seen x) (recovery_of x.setting (seen x) s)) (signal_and_refuse s None) x) =
    where_true H J (begins_by_read (seen x) (recovery_of x.setting (seen x) s)) (signal_and_refuse s None) x (λ calm f. idle H J k x s m (Read bytes) Survey hears is (inr (inr calm)) f)
    (λ begins f. k.shown x s m bytes hears is joined begins f) g in
    let stays : Stays x (when (begins_by_read (seen x) (recovery_of x.setting (seen x) s)) (signal_and_refuse s None) x) =
    when_keeps (Stays x) (begins_by_read (seen x) (recovery_of x.setting (seen x) s)) (signal_and_refuse s None) x (λ begins f. stop_stays x x s None f) (itself x) in
    sees_more H J k x s m bytes hears (when (begins_by_read (seen x) (recovery_of x.setting (seen x) s)) (signal_and_refuse s None) x) (is_session_asked x.setting s bytes) (first, stays)) h

looks_heeded : (H J : Step → Type 0) → AnswerActs H J → (x : Step) (s : Session) (m : Submitted) (bytes : List ℕ) → Hears x s m (Read bytes) → m.call.purpose ≡ SeeRequest → H x → J (after_see_request s m bytes x)
unfolding after_see_request
looks_heeded H J k x s m bytes hears is h =
    let none : H x → J x = λ g. idle H J k x s m (Read bytes) SeeRequest hears is tt g in
    where_some H J (exclusive_on (seen x) s (spot_of_call x.setting.layout m)) (λ g. when (not (is_orphan g)) (with_some (signal_of_request x.setting.layout bytes g) (send g.process))) x (λ no f. none f)
    (λ g held f. where_true H J (not (is_orphan g)) (with_some (signal_of_request x.setting.layout bytes g) (send g.process)) x (λ no e. none e)
    (λ own e. where_some H J (signal_of_request x.setting.layout bytes g) (send g.process) x (λ no d. none d)
    (λ signal says d. k.warns x s m bytes g signal hears is held (not_is (is_orphan g) own) says d) e) f) h

-- The one call of a job, by how it was answered.
job_heeded : (H J : Step → Type 0) → AnswerActs H J → (x : Step) (s : Session) (m : Submitted) (j : ℕ) (answer : Answer) → Hears x s m answer → lone_job m.call.purpose ≡ Some j
    → (on_bytes : List ℕ → Step → Step) (on_done : Step → Step) → (is_running (seen x) j ≡ false → H x → J x)
    → ((bytes : List ℕ) → answer ≡ Read bytes → is_running (seen x) j ≡ true → H x → J (on_bytes bytes x)) → (answer ≡ Written → is_running (seen x) j ≡ true → H x → J (on_done x)) → H x
    → J (for_job j m answer on_bytes on_done x)
job_heeded H J k x s m j (Read bytes) hears lone on_bytes on_done over reads writes h = runs_or_not H J x (on_bytes bytes) (is_running (seen x) j) over (λ runs g. reads bytes refl runs g) h
job_heeded H J k x s m j Written hears lone on_bytes on_done over reads writes h = runs_or_not H J x on_done (is_running (seen x) j) over (λ runs g. writes refl runs g) h
job_heeded H J k x s m j Failed hears lone on_bytes on_done over reads writes h =
    runs_or_not H J x (add_reply j (IoFault m.call.number)) (is_running (seen x) j) over (λ runs g. k.fails x s m j hears lone runs g) h

as_heard : (x : Step) (s : Session) (m : Submitted) (a b : Answer) → a ≡ b → Hears x s m a → Hears x s m b
as_heard x s m a b is hears = subst (λ z. Hears x s m z) is hears

by_purpose : (H J : Step → Type 0) → AnswerActs H J → (x : Step) (s : Session) (m : Submitted) (p : Purpose) (answer : Answer) → Hears x s m answer → m.call.purpose ≡ p → H x → J (after_answer_of s m p answer x)
unfolding after_answer_of after_join_answer after_renewal after_free
by_purpose H J k x s m (Joining j step) answer hears is h = joining_heeded H J k x s j step m answer hears is (is_running (seen x) j) refl h
by_purpose H J k x s m Renewal answer hears is h = k.renewed x s m answer hears is h
by_purpose H J k x s m Survey (Read bytes) hears is h = survey_heeded H J k x s m bytes hears is h
by_purpose H J k x s m Survey Written hears is h = idle H J k x s m Written Survey hears is (inl refl) h
by_purpose H J k x s m Survey Failed hears is h = idle H J k x s m Failed Survey hears is (inl refl) h
by_purpose H J k x s m (Leaving j) answer hears is h = k.freed x s j m answer hears is h
by_purpose H J k x s m (Lease work step) answer hears is h = lease_heeded H J k x s work step m answer hears is h
by_purpose H J k x s m (RequestRead j) answer hears is h =
    job_heeded H J k x s m j answer hears (ap (λ p. lone_job p) is) (λ bytes. with_command j (after_request_read s j bytes)) (λ y. y)
    (λ over g. idle H J k x s m answer (RequestRead j) hears is (inl over) g)
    (λ bytes read runs g. where_some H J (command_numbered x.setting (seen x) j) (after_request_read s j bytes) x
    (λ none f. idle H J k x s m answer (RequestRead j) hears is (inr (inr none)) f)
    (λ c at f. k.asks x s m j bytes c (as_heard x s m answer (Read bytes) read hears) is runs at f) g)
    (λ wrote runs g. idle H J k x s m answer (RequestRead j) hears is (inr (inl wrote)) g) h
by_purpose H J k x s m (RequestWrite j o) answer hears is h =
    job_heeded H J k x s m j answer hears (ap (λ p. lone_job p) is) (λ bytes y. y) (add_reply j Done)
    (λ over g. idle H J k x s m answer (RequestWrite j o) hears is (inl over) g)
    (λ bytes read runs g. idle H J k x s m answer (RequestWrite j o) hears is (inr (subst (λ a. IsSome (bytes_given a)) (sym read) refl)) g)
    (λ wrote runs g. k.has_asked x s m j o (as_heard x s m answer Written wrote hears) is runs g) h
by_purpose H J k x s m SeeRequest (Read bytes) hears is h = looks_heeded H J k x s m bytes hears is h
by_purpose H J k x s m SeeRequest Written hears is h = idle H J k x s m Written SeeRequest hears is tt h
by_purpose H J k x s m SeeRequest Failed hears is h = idle H J k x s m Failed SeeRequest hears is tt h
by_purpose H J k x s m (ValueWrite j) answer hears is h =
    job_heeded H J k x s m j answer hears (ap (λ p. lone_job p) is) (λ bytes y. y) (add_reply j (set_reply m))
    (λ over g. idle H J k x s m answer (ValueWrite j) hears is (inl over) g)
    (λ bytes read runs g. idle H J k x s m answer (ValueWrite j) hears is (inr (subst (λ a. IsSome (bytes_given a)) (sym read) refl)) g)
    (λ wrote runs g. k.has_set x s m j (as_heard x s m answer Written wrote hears) is runs g) h
by_purpose H J k x s m (ValueRead j) answer hears is h =
    job_heeded H J k x s m j answer hears (ap (λ p. lone_job p) is) (λ bytes. after_value_read j bytes) (λ y. y)
    (λ over g. idle H J k x s m answer (ValueRead j) hears is (inl over) g)
    (λ bytes read runs g. k.tells x s m j bytes (as_heard x s m answer (Read bytes) read hears) is runs g)
    (λ wrote runs g. idle H J k x s m answer (ValueRead j) hears is (inr wrote) g) h

-- ---- the answer

answer_heeded : (H J : Step → Type 0) → AnswerActs H J → (x : Step) (number : ℕ) (answer : Answer) → x.input ≡ Wake → IsUnused x → H (with_input (Told number answer) x)
    → J (take_input (Told number answer) x)
unfolding take_input after_answer
answer_heeded H J k y number answer wake bare h =
    let x : Step = with_input (Told number answer) y in
    where_some H J (call_numbered (seen x) number) (λ m. with_some (session_numbered x.setting (seen x) m.call.session) (λ s. when (is_present (seen y) s) (after_answer_of s m m.call.purpose answer))) x
    (λ none g. k.finds_none x number answer refl none g)
    (λ m call g. where_some H J (session_numbered x.setting (seen x) m.call.session) (λ s. when (is_present (seen y) s) (after_answer_of s m m.call.purpose answer)) x
    (λ none f. k.finds_nobody x number answer m refl call none f)
    (λ s session f. where_true H J (is_present (seen y) s) (after_answer_of s m m.call.purpose answer) x
    (λ gone e. k.comes_late x number answer m s refl call session (was y (Told number answer) wake s false gone) e)
    (λ there e. by_purpose H J k x s m m.call.purpose answer
    (record { number = number; heard = refl; call = call; session = session; present = was y (Told number answer) wake s true there; bare = bare.0; ungranted = bare.1; unended = bare.2 }) refl e) f) g) h where
      was : (y : Step) (i : Input) → y.input ≡ Wake → (s : Session) (b : Bool) → is_present (seen y) s ≡ b → is_present (seen (with_input Wake (with_input i y))) s ≡ b
      was y i wake s b is = subst (λ z. is_present (seen (with_input z y)) s ≡ b) wake is

-- ---- a step, and a trace

heeds_as_expected : (H J : Step → Type 0) → AnswerActs H J → (y : Step) (i : Input) → y.input ≡ Wake → IsUnused y → Expects y i → (number : ℕ) (answer : Answer) → i ≡ Told number answer
    → J y → J (take_input i y)
heeds_as_expected H J k y i wake bare expected number answer is h =
    subst (λ z. J (take_input z y)) (sym is) (answer_heeded H J k y number answer wake bare (k.hears y number answer wake bare.0 (subst (λ z. Expects y z) is expected) h))

-- A step at an input that is expected comes back to what held before it, where each act does, and an answer's by way of its being heard.
pub step_heeds : (H J : Step → Type 0) → OtherActs J → AnswerActs H J → (st : Setting) (past : Trace) (now : ℕ) (i : Input) → IsTrue (is_expected st past i)
    → J (begin_recoveries (begin_step st past now)) → J (due_step st past now i)
step_heeds H J others answers st past now i expected h =
    let bare = bare_at_input st past now in
    let there : Expects (at_input st past now) i = expected_there st past now i expected in
    step_by J others st past now i (heeds_as_expected H J answers (at_input st past now) i bare.0 bare.1 there)
    (arrives_as_expected J others (at_input st past now) i bare.0 bare.1.0 there) h
