-- Where all that an answer makes due is done, each session whose recovery or leaving began in the step has been stopped.
use Rattle.sl_due_facts.specs.Acts.Acts.{Hears, IsIdle, lone_job}
use Rattle.sl_due_facts.specs.Acts.TraceSoFar.{entry_of}
use Rattle.sl_area.specs.AreaLayout.{request_offset}
use Rattle.sl_due.specs.DueAnswers.{set_reply}
use Rattle.sl_due.specs.CarriedDelta.{begins_by_read}
use Rattle.sl_due.specs.DueRecovery.{signal_and_refuse}
use Rattle.sl_due.specs.CarriedLease.{next_of_lease}
use Rattle.sl_due.specs.DueRequests.{after_value_read, value_reply}
use Rattle.sl_due.specs.Steps.{Step, seen, with_input}
use Rattle.sl_due_facts.proofs.Jobs.EffectsAreAllowed.{delta, lease, removal, removal_of_refused, requested, sent, stopped}
use Rattle.sl_due_facts.proofs.Jobs.JobFactsGrow.{contains_left}
use Rattle.sl_due_facts.proofs.Jobs.NearlyPlainActs.{AnyMove, AnyStart, Anything, Nearly, NoLook, free_plain, freed_plain, joining_plain, lease_plain, renewed_plain, request_plain}
use Rattle.sl_due_facts.proofs.Jobs.QuietFactsAreKept.{Stopping, stop_stopping}
use Rattle.sl_due_facts.proofs.Jobs.QuietFactsConclude.{ReadBy, read_by}
use Rattle.sl_due_facts.proofs.Jobs.RepliesComeAfter.{joining_late}
use Rattle.sl_due_facts.proofs.Jobs.SessionsArePresent.{joined_present, session_has}
use Rattle.sl_run.specs.LawfulRecovery.{StopsSession}
use Rattle.sl_trace.specs.Leases.{spot_of_call}
use Rattle.sl_words.proofs.Lists.{find_inside}
use Rattle.sl_words.proofs.Numbers.{number_itself}
use Rattle.sl_words.proofs.Options.{some_of, some_there}
use Rattle.sl_due_law.proofs.Recovery.MayStop.{programs_when_told, stop_done}
use Rattle.sl_due_law.proofs.Recovery.RecoveriesStart.{BegunBefore, By_read, By_time, StartReason, Starts, begun_before, joined_unless, recovery_starts}
use Rattle.sl_due_law.proofs.Recovery.StopsAreKept.{HasStops, WithStops}
use Rattle.sl_due_law.proofs.Recovery.StopsBegin.{Says, stop_only_says, stopped_nearly, with_said}
use Rattle.sl_due_law.proofs.Recovery.StopsGrow.{stops_effects}
use Rattle.sl_due_law.specs.Recovery.Stops.{Denies, FreeTold, JustHeard, Partings, Stops}
use Rattle.sl_trace.specs.DeltaDecisions.{delta_known, delta_of_session, next_after_free, next_after_renewal, next_free, next_in_joining}
use Rattle.sl_trace.specs.Sessions.{begun_in, calls_of, generation_of, is_joined, is_present, is_survey_purpose, leaving_job, recovers, recovery_of, renewed_by, renewing, renewing_after, session_numbered, sessions, shows_other}
use Rattle.sl_trace.specs.declared.session.Begun.{Begun}
use Rattle.sl_trace.specs.declared.session.Renewing.{Renewing}
use Rattle.sl_trace.specs.declared.session.Session.{Session}
use Rattle.sl_due_facts.specs.Facts.ConcludingActs.{Concludes}
use Rattle.sl_due_facts.specs.Facts.HeardCall.{heard_by}
use Rattle.sl_time.specs.Times.{fail}
use Rattle.sl_trace.specs.WatchdogConnections.{unregisters}
use Rattle.sl_trace.specs.Traces.{Job, Setting, Submitted, Trace, bytes_given, call_numbered, submitted}
use Rattle.sl_trace.specs.declared.effects.Effects.{Effects}
use Rattle.sl_trace.specs.declared.effects.Entry.{Entry}
use Rattle.sl_trace.specs.declared.effects.Op.TheVariants.{ReadSectors}
use Rattle.sl_trace.specs.declared.effects.Purpose.{Purpose}
use Rattle.sl_trace.specs.declared.effects.Purpose.TheVariants.{Joining, Lease, Leaving, Renewal, RequestRead, RequestWrite, SeeRequest, Survey, ValueRead, ValueWrite}
use Rattle.sl_trace.specs.declared.input.Answer.{Answer}
use Rattle.sl_trace.specs.declared.input.Answer.TheVariants.{Failed, Read, Written}
use Rattle.sl_trace.specs.declared.input.Input.{Input}
use Rattle.sl_trace.specs.declared.input.Input.TheVariants.{Answer as Told, Wake}
use Rattle.sl_trace.specs.declared.reply.Reply.TheVariants.{Done, IoFault}
use Rattle.sl_words.proofs.CaseLaws.{false_is_true, is_false, none_some, not_both, one_value, true_is_false}
use Rattle.std.proofs.Common.{ap, arith, inl, inr, refl, subst, sym, ◌∙◌}
use Rattle.std.proofs.lemmas.Bool.{eqb-true}
use Rattle.std.specs.List.{list_any}
use Rattle.std.specs.Prelude.{Bool, Contains, List, None, Option, Some, false, is_some, length, nat_le, suc, true, unwrap_or, ℕ, ◌&&◌, ◌+◌, ◌<◌, ◌==◌, ◌∷◌, ◌≡◌, ◌≤◌, ◌⊎◌}

-- ---- an answer has just been heard

-- What has begun on a wake has begun, whatever the input.
pub wake_told : (st : Setting) (past : Trace) (now : ℕ) (fx : Effects) (i : Input) (s : Session) (b : Begun) → recovery_of st (record { reading = now; input = Wake; effects = fx } ∷ past) s ≡ Some b
    → recovery_of st (record { reading = now; input = i; effects = fx } ∷ past) s ≡ Some b
wake_told st past now fx i s b is = by (renewing st past s) is where
  never : (c : Bool) → (c && false) ≡ false
  never true = refl
  never false = refl

  by_read : (r : Renewing) (o : Bool) → o ≡ false → r.recovery ≡ None
      → (elim o as (λ z. Renewing) [ true ↦ recovers past (record { reading = now; input = Wake; effects = fx }) (length past + 1) r | false ↦ record { last = unwrap_or (renewed_by past s Wake) r.last; recovery = r.recovery } ]).recovery ≡ Some b → ⊥
  by_read r true no_one none h = true_is_false no_one
  by_read r false no_one none h = none_some b (sym none ∙ h)

  by_time : (r : Renewing) (o : Bool) → r.recovery ≡ None
      → (elim o as (λ z. Renewing) [
        | true ↦ recovers past (record { reading = now; input = Wake; effects = fx }) (length past) r
        | false ↦ elim (is_joined past s && shows_other st past s Wake) as (λ z. Renewing) [ true ↦ recovers past (record { reading = now; input = Wake; effects = fx }) (length past + 1) r | false ↦ record { last = unwrap_or (renewed_by past s Wake) r.last; recovery = r.recovery } ]
      ]).recovery ≡ Some b
      → (elim o as (λ z. Renewing) [
        | true ↦ recovers past (record { reading = now; input = i; effects = fx }) (length past) r
        | false ↦ elim (is_joined past s && shows_other st past s i) as (λ z. Renewing) [ true ↦ recovers past (record { reading = now; input = i; effects = fx }) (length past + 1) r | false ↦ record { last = unwrap_or (renewed_by past s i) r.last; recovery = r.recovery } ]
      ]).recovery ≡ Some b
  by_time r true none h = h
  by_time r false none h = absurd (by_read r (is_joined past s && shows_other st past s Wake) (never (is_joined past s)) none h)

  by : (r : Renewing) → (renewing_after st past s r (record { reading = now; input = Wake; effects = fx })).recovery ≡ Some b → (renewing_after st past s r (record { reading = now; input = i; effects = fx })).recovery ≡ Some b
  by r h = at r.recovery refl h where
    at : (o : Option Begun) → r.recovery ≡ o
        → (elim o as (λ z. Renewing) [
          | Some c ↦ r
          | None ↦ elim (is_joined past s && nat_le (r.last + fail st.timing) now) as (λ z. Renewing) [
            | true ↦ recovers past (record { reading = now; input = Wake; effects = fx }) (length past) r
            | false ↦ elim (is_joined past s && shows_other st past s Wake) as (λ z. Renewing) [ true ↦ recovers past (record { reading = now; input = Wake; effects = fx }) (length past + 1) r | false ↦ record { last = unwrap_or (renewed_by past s Wake) r.last; recovery = r.recovery } ]
          ]
        ]).recovery ≡ Some b
        → (elim o as (λ z. Renewing) [
          | Some c ↦ r
          | None ↦ elim (is_joined past s && nat_le (r.last + fail st.timing) now) as (λ z. Renewing) [
            | true ↦ recovers past (record { reading = now; input = i; effects = fx }) (length past) r
            | false ↦ elim (is_joined past s && shows_other st past s i) as (λ z. Renewing) [ true ↦ recovers past (record { reading = now; input = i; effects = fx }) (length past + 1) r | false ↦ record { last = unwrap_or (renewed_by past s i) r.last; recovery = r.recovery } ]
          ]
        ]).recovery ≡ Some b
    at (Some c) none g = g
    at None none g = by_time r (is_joined past s && nat_le (r.last + fail st.timing) now) none g

-- No free was answered by a wake.
pub unfreed_on_wake : (x : Step) (s : Session) → x.input ≡ Wake → FreeTold x s → ⊥
unfreed_on_wake x s wake f = true_is_false (ap (λ i. is_some (heard_by i)) (sym f.told ∙ wake))

pub just_heard : (x : Step) (n : ℕ) (answer : Answer) → x.input ≡ Wake → Denies x → Partings x → JustHeard (with_input (Told n answer) x)
just_heard x n answer wake denies partings = record { stands = stands; denies = denies wake } where
  e : Entry
  e = entry_of (with_input (Told n answer) x)

  stands : (s : Session) (b : Begun) → Contains (sessions x.setting x.past) s → recovery_of x.setting (entry_of (with_input (Told n answer) x) ∷ x.past) s ≡ Some b → b.kills_from ≡ suc (length x.past)
      → is_joined (entry_of (with_input (Told n answer) x) ∷ x.past) s ≡ true
  stands s b there is kills = by (recovery_starts x.setting e x.past s b is) where
    at_wake : recovery_of x.setting (seen x) s ≡ recovery_of x.setting (record { reading = x.reading; input = Wake; effects = x.effects } ∷ x.past) s
    at_wake = ap (λ i. recovery_of x.setting (record { reading = x.reading; input = i; effects = x.effects } ∷ x.past) s) wake

    -- nothing had begun before the read
    never : Starts x.setting x.past s (entry_of (with_input (Told n answer) x)) b → is_joined x.past s ≡ true → list_any (unregisters s.lockspace) x.effects.moves ≡ true → ⊥
    never new joined gone = on (partings s there joined gone) where
      on : (is_some (recovery_of x.setting (seen x) s) ≡ true) ⊎ FreeTold x s → ⊥
      on (inr freed) = unfreed_on_wake x s wake freed
      on (inl some_one) =
          let c = some_there (recovery_of x.setting (seen x) s) some_one in
          let now : recovery_of x.setting (record { reading = x.reading; input = Wake; effects = x.effects } ∷ x.past) s ≡ Some c.0 = sym at_wake ∙ c.1 in
          let same : c.0 ≡ b = one_value c.0 b (recovery_of x.setting (entry_of (with_input (Told n answer) x) ∷ x.past) s) (wake_told x.setting x.past x.reading x.effects (Told n answer) s c.0 now) is in
          earlier (recovery_starts x.setting (record { reading = x.reading; input = Wake; effects = x.effects }) x.past s b (subst (λ d. recovery_of x.setting (record { reading = x.reading; input = Wake; effects = x.effects } ∷ x.past) s ≡ Some d) same now))
        where
          earlier : (recovery_of x.setting x.past s ≡ Some b) ⊎ ((recovery_of x.setting x.past s ≡ None) × Starts x.setting x.past s (record { reading = x.reading; input = Wake; effects = x.effects }) b) → ⊥
          earlier (inl was) =
              let f : BegunBefore x.past b = begun_before x.setting x.past s b was in
              let less : b.at < length x.past = f.at in
              let most : b.kills_from ≤ b.at + 1 = f.most in omega (arith, less, most, kills)
          earlier (inr one) = reasoned one.1.reason where
            reasoned : StartReason x.setting x.past s (record { reading = x.reading; input = Wake; effects = x.effects }) b → ⊥
            reasoned (By_time time) = omega (arith, time, kills)
            reasoned (By_read read_one shows) = false_is_true shows

    by : (recovery_of x.setting x.past s ≡ Some b) ⊎ ((recovery_of x.setting x.past s ≡ None) × Starts x.setting x.past s (entry_of (with_input (Told n answer) x)) b) → is_joined (entry_of (with_input (Told n answer) x) ∷ x.past) s ≡ true
    by (inl was) =
        let f : BegunBefore x.past b = begun_before x.setting x.past s b was in
        let less : b.at < length x.past = f.at in
        let most : b.kills_from ≤ b.at + 1 = f.most in absurd (omega (arith, less, most, kills))
    by (inr new) = joined_unless e x.past s new.1.joined (is_false (list_any (unregisters s.lockspace) x.effects.moves) (λ gone. never new.1 new.1.joined gone))

-- ---- plain where no recovery begins by the read

nothing_and : (c : Bool) → (c && false) ≡ false
nothing_and true = refl
nothing_and false = refl

abbrev IsDone : Step → Type 0
IsDone x = Stops x None

stops_at : (x : Step) (n : ℕ) (answer : Answer) → HasStops x → x.input ≡ Told n answer
    → ((z : Session) (b : Begun) → Contains (sessions x.setting x.past) z → recovery_of x.setting (seen x) z ≡ Some b → b.kills_from ≡ suc (length x.past) → ReadBy x z n answer → ⊥) → IsDone x
stops_at x n answer h told none = record { recovers = recovers_one; leaves = h.leaves } where
  recovers_one : (z : Session) (b : Begun) → Contains (sessions x.setting x.past) z → recovery_of x.setting (seen x) z ≡ Some b → b.at ≡ length x.past → (false && begins_by_read (seen x) (Some b)) ≡ false
      → StopsSession x.setting x.past (entry_of x) z None
  recovers_one z b there is at other = by (begins_by_read (seen x) (Some b)) refl where
    by : (c : Bool) → begins_by_read (seen x) (Some b) ≡ c → StopsSession x.setting x.past (entry_of x) z None
    by true begins =
        absurd (none z b there is (eqb-true b.kills_from (suc (length x.past)) begins) (read_by x z n answer told (ap (λ o. begins_by_read (seen x) o) is ∙ begins)))
    by false begins = h.recovers z b there is at (ap (λ c. is_some (heard_by x.input) && c) begins ∙ nothing_and (is_some (heard_by x.input)))

no_survey : (m : Submitted) (p : Purpose) → m.call.purpose ≡ p → is_survey_purpose p ≡ false → is_survey_purpose m.call.purpose ≡ false
no_survey m p is other = ap (λ q. is_survey_purpose q) is ∙ other

lone_no_survey : (p : Purpose) (j : ℕ) → lone_job p ≡ Some j → is_survey_purpose p ≡ false
lone_no_survey Survey j is = absurd (none_some j is)
lone_no_survey (Joining k step) j is = refl
lone_no_survey Renewal j is = refl
lone_no_survey (Leaving k) j is = refl
lone_no_survey (Lease work step) j is = refl
lone_no_survey (RequestRead k) j is = refl
lone_no_survey (RequestWrite k owner) j is = refl
lone_no_survey SeeRequest j is = refl
lone_no_survey (ValueWrite k) j is = refl
lone_no_survey (ValueRead k) j is = refl

-- A session of before is one of the trace.
pub old_session : (x : Step) (z : Session) → Contains (sessions x.setting x.past) z → Contains (sessions x.setting (seen x)) z
old_session x z there = contains_left (sessions x.setting x.past) (begun_in x.setting x.past (length (sessions x.setting x.past)) (entry_of x)) z there

-- The call of the read is the one that was heard.
the_call : (x : Step) (z : Session) (n : ℕ) (answer : Answer) (m : Submitted) → WithStops x → (r : ReadBy x z n answer) → call_numbered (seen x) n ≡ Some m → r.call ≡ m
the_call x z n answer m h r found =
    one_value r.call m (call_numbered (seen x) n) (subst (λ k. call_numbered (seen x) k ≡ Some r.call) r.number (h.0.0.facts.calls.found r.call r.there)) found

-- And its session is the call's.
the_session : (x : Step) (z s : Session) (n : ℕ) (answer : Answer) (m : Submitted) → WithStops x → Contains (sessions x.setting x.past) z → (r : ReadBy x z n answer) → call_numbered (seen x) n ≡ Some m
    → session_numbered x.setting (seen x) m.call.session ≡ Some s → z ≡ s
the_session x z s n answer m h there r found session =
    let one : r.call ≡ m = the_call x z n answer m h r found in
    let its : m.call.session ≡ z.number = ap (λ (c : Submitted). c.call.session) (sym one) ∙ r.session in
    one_value z s (session_numbered x.setting (seen x) m.call.session)
    (ap (λ k. session_numbered x.setting (seen x) k) its ∙ session_has x.setting (seen x) z (old_session x z there)) session

-- A heard call that is no survey.
stops_heard : (x : Step) (s : Session) (m : Submitted) (answer : Answer) → WithStops x → Hears x s m answer → is_survey_purpose m.call.purpose ≡ false → IsDone x
stops_heard x s m answer h hears other =
    stops_at x hears.number answer h.1 hears.heard (λ z b there is kills r.
    let one : r.call ≡ m = the_call x z hears.number answer m h r hears.call in
    not_both (is_survey_purpose m.call.purpose) (subst (λ (c : Submitted). is_survey_purpose c.call.purpose ≡ true) one r.survey) other)

-- The survey of a session under which no recovery begins by it.
stops_survey : (x : Step) (s : Session) (m : Submitted) (answer : Answer) (n : ℕ) → WithStops x → JustHeard x → x.input ≡ Told n answer → call_numbered (seen x) n ≡ Some m → session_numbered x.setting (seen x) m.call.session ≡ Some s
    → (is_joined (seen x) s ≡ true → is_some (bytes_given answer) ≡ true → begins_by_read (seen x) (recovery_of x.setting (seen x) s) ≡ true → ⊥) → IsDone x
stops_survey x s m answer n h just told found session none =
    stops_at x n answer h.1 told (λ z b there is kills r.
    let same : z ≡ s = the_session x z s n answer m h there r found session in
    let joined : is_joined (seen x) s ≡ true = subst (λ (q : Session). is_joined (seen x) q ≡ true) same (just.stands z b there is kills) in
    let begins : begins_by_read (seen x) (recovery_of x.setting (seen x) s) ≡ true =
    subst (λ (q : Session). begins_by_read (seen x) (recovery_of x.setting (seen x) q) ≡ true) same (ap (λ o. begins_by_read (seen x) o) is ∙ (ap (λ k. k == suc (length x.past)) kills ∙ number_itself (suc (length x.past))))
    in
    none joined r.bytes begins)

idle_stops : (x : Step) (s : Session) (m : Submitted) (answer : Answer) → WithStops x → JustHeard x → Hears x s m answer → (p : Purpose) → m.call.purpose ≡ p → IsIdle x s m answer p → IsDone x
idle_stops x s m answer h just hears Survey is idle =
    stops_survey x s m answer hears.number h just hears.heard hears.call hears.session (λ joined bytes begins. by joined bytes begins idle) where
      by : is_joined (seen x) s ≡ true → is_some (bytes_given answer) ≡ true → begins_by_read (seen x) (recovery_of x.setting (seen x) s) ≡ true
          → (bytes_given answer ≡ None) ⊎ ((is_joined (seen x) s ≡ false) ⊎ (begins_by_read (seen x) (recovery_of x.setting (seen x) s) ≡ false)) → ⊥
      by joined bytes begins (inl none) = true_is_false (sym bytes ∙ ap (λ o. is_some o) none)
      by joined bytes begins (inr (inl gone)) = not_both (is_joined (seen x) s) joined gone
      by joined bytes begins (inr (inr other)) = not_both (begins_by_read (seen x) (recovery_of x.setting (seen x) s)) begins other
idle_stops x s m answer h just hears (Joining k step) is idle = stops_heard x s m answer h hears (no_survey m (Joining k step) is refl)
idle_stops x s m answer h just hears Renewal is idle = stops_heard x s m answer h hears (no_survey m Renewal is refl)
idle_stops x s m answer h just hears (Leaving k) is idle = stops_heard x s m answer h hears (no_survey m (Leaving k) is refl)
idle_stops x s m answer h just hears (Lease work step) is idle = stops_heard x s m answer h hears (no_survey m (Lease work step) is refl)
idle_stops x s m answer h just hears (RequestRead k) is idle = stops_heard x s m answer h hears (no_survey m (RequestRead k) is refl)
idle_stops x s m answer h just hears (RequestWrite k owner) is idle = stops_heard x s m answer h hears (no_survey m (RequestWrite k owner) is refl)
idle_stops x s m answer h just hears SeeRequest is idle = stops_heard x s m answer h hears (no_survey m SeeRequest is refl)
idle_stops x s m answer h just hears (ValueWrite k) is idle = stops_heard x s m answer h hears (no_survey m (ValueWrite k) is refl)
idle_stops x s m answer h just hears (ValueRead k) is idle = stops_heard x s m answer h hears (no_survey m (ValueRead k) is refl)

-- Recovery begins by the read: its session is stopped.
stops_shown : (x : Step) (s : Session) (m : Submitted) (bytes : List ℕ) → WithStops x → JustHeard x → Hears x s m (Read bytes) → IsDone (signal_and_refuse s None x)
stops_shown x s m bytes h just hears =
    at_end (signal_and_refuse s None x) (stop_stopping x s None) (stop_only_says x s None)
    (λ z k old. stopped (λ v. StopsSession x.setting x.past (entry_of v) z k) (λ v. StopsSession x.setting x.past (entry_of v) z k) Anything NoLook AnyStart AnyMove (stopped_nearly x.setting x.past z k) tt x s None (λ v g j inside. tt) old)
    (stop_done x s None (record { programs = programs_when_told x hears.number (Read bytes) hears.heard; ends = hears.unended; denied = just.denies }))
  where
    at_end : (y : Step) → Stopping x y → Says (λ a. Unit {0}) x y → ((z : Session) (k : Option ℕ) → StopsSession x.setting x.past (entry_of x) z k → StopsSession x.setting x.past (entry_of y) z k)
        → StopsSession x.setting x.past (entry_of y) s None → IsDone y
    at_end y k says_so grows done =
        subst (λ v. Stops v None) (sym says_so.is) (record {
          recovers = λ z b there is at other. subst (λ v. StopsSession x.setting x.past (entry_of v) z None) says_so.is (by z b there is at (begins_by_read (seen x) (Some b)) refl);
          leaves = λ z j there is at. subst (λ v. StopsSession x.setting x.past (entry_of v) z (Some j.number)) says_so.is (grows z (Some j.number) (h.1.leaves z j there (unsaid z j is) at));
        }) where
          by : (z : Session) (b : Begun) → Contains (sessions x.setting x.past) z → recovery_of x.setting (seen x) z ≡ Some b → b.at ≡ length x.past → (c : Bool) → begins_by_read (seen x) (Some b) ≡ c → StopsSession x.setting x.past (entry_of y) z None
          by z b there is at false begins = grows z None (h.1.recovers z b there is at (ap (λ c. is_some (heard_by x.input) && c) begins ∙ nothing_and (is_some (heard_by x.input))))
          by z b there is at true begins =
              let r : ReadBy x z hears.number (Read bytes) = read_by x z hears.number (Read bytes) hears.heard (ap (λ o. begins_by_read (seen x) o) is ∙ begins) in
              subst (λ (q : Session). StopsSession x.setting x.past (entry_of y) q None) (sym (the_session x z s hears.number (Read bytes) m h there r hears.call hears.session)) done

          unsaid : (z : Session) (j : Job) → leaving_job x.setting (seen (with_said x says_so.signals says_so.starts says_so.replies)) z ≡ Some j → leaving_job x.setting (seen x) z ≡ Some j
          unsaid z j is = k.leaving z j (subst (λ v. leaving_job v.setting (seen v) z ≡ Some j) (sym says_so.is) is)

-- ---- all acts

pub stops_conclude : Concludes (λ x. WithStops x × JustHeard x) (λ x. WithStops x × IsDone x) IsDone
unfolding after_value_read
stops_conclude =
    let p : Nearly IsDone = stops_effects (λ i. None) in
    record {
      finds_none = λ x n answer told none h.
          stops_at x n answer h.0.1 told (λ z b there is kills r. none_some r.call (sym none ∙ subst (λ k. call_numbered (seen x) k ≡ Some r.call) r.number (h.0.0.0.facts.calls.found r.call r.there)));
      finds_nobody = λ x n answer m told found nobody h.
          let there = (find_inside (λ (z : Submitted). z.call.number == n) (submitted (seen x)) m found).0 in
          let s = some_of (session_numbered x.setting (seen x) m.call.session) (h.0.0.0.facts.calls.owned m there) in absurd (none_some s.0 (sym nobody ∙ s.1));
      comes_late = λ x n answer m s told found session gone h.
          stops_survey x s m answer n h.0 h.1 told found session (λ joined bytes begins. not_both (is_present (seen (with_input Wake x)) s) (joined_present (seen (with_input Wake x)) s joined) gone);
      idles = λ x s m answer hears idle h. idle_stops x s m answer h.0 h.1 hears m.call.purpose refl idle;
      joins_on = λ x s j step m answer hears is runs h.
          delta IsDone IsDone Anything NoLook AnyStart AnyMove p x s (next_in_joining (delta_of_session x.setting s) (generation_of (seen x) s) (calls_of (seen x) s) x.reading m step answer)
          (joining_plain x s (next_in_joining (delta_of_session x.setting s) (generation_of (seen x) s) (calls_of (seen x) s) x.reading m step answer)
          (joining_late (delta_of_session x.setting s) (generation_of (seen x) s) (calls_of (seen x) s) x.reading m step answer)) (stops_heard x s m answer h.0 hears (no_survey m (Joining j step) is refl));
      ends_joining = λ x s j step m answer hears is stops h.
          removal_of_refused IsDone IsDone Anything NoLook AnyStart AnyMove p x s tt (stops_heard x s m answer h.0 hears (no_survey m (Joining j step) is refl));
      renewed = λ x s m answer hears is h.
          delta IsDone IsDone Anything NoLook AnyStart AnyMove p x s (next_after_renewal (is_some (recovery_of x.setting (seen x) s)) m.reading answer)
          (renewed_plain x s (is_some (recovery_of x.setting (seen x) s)) m.reading answer) (stops_heard x s m answer h.0 hears (no_survey m Renewal is refl));
      freed = λ x s j m answer hears is h.
          delta IsDone IsDone Anything NoLook AnyStart AnyMove p x s (next_after_free j m.call.number answer) (freed_plain x s j m.call.number answer) (stops_heard x s m answer h.0 hears (no_survey m (Leaving j) is refl));
      shown = λ x s m bytes hears is joined begins h. stops_shown x s m bytes h.0 h.1 hears;
      sees = λ x s number bytes spot g has input held h. p.calls x s g.path SeeRequest (request_offset x.setting.layout g.offset) (ReadSectors 1) refl h.1;
      leads_on = λ x s work step m answer aim hears is on aims h.
          lease IsDone IsDone Anything NoLook AnyStart AnyMove p x s (spot_of_call x.setting.layout m) work (next_of_lease x.setting (seen x) s (spot_of_call x.setting.layout m) aim m step answer)
          (lease_plain x s (spot_of_call x.setting.layout m) work (next_of_lease x.setting (seen x) s (spot_of_call x.setting.layout m) aim m step answer)) (stops_heard x s m answer h.0 hears (no_survey m (Lease work step) is refl));
      fails = λ x s m j hears lone runs h. p.replies x j (IoFault m.call.number) tt (stops_heard x s m Failed h.0 hears (lone_no_survey m.call.purpose j lone));
      has_asked = λ x s m j owner hears is runs h. p.replies x j Done tt (stops_heard x s m Written h.0 hears (no_survey m (RequestWrite j owner) is refl));
      has_set = λ x s m j hears is runs h. p.replies x j (set_reply m) tt (stops_heard x s m Written h.0 hears (no_survey m (ValueWrite j) is refl));
      asks = λ x s m j bytes c hears is runs reads_one h.
          requested IsDone IsDone Anything NoLook AnyStart AnyMove p x s j bytes c (request_plain x s j bytes c) (stops_heard x s m (Read bytes) h.0 hears (no_survey m (RequestRead j) is refl));
      tells = λ x s m j bytes hears is runs h. p.replies x j (value_reply x.setting.layout bytes) tt (stops_heard x s m (Read bytes) h.0 hears (no_survey m (ValueRead j) is refl));
      warns = λ x s m bytes g signal hears is held own says h. sent IsDone IsDone Anything NoLook AnyStart AnyMove p tt x g.process signal (stops_heard x s m (Read bytes) h.0 hears (no_survey m SeeRequest is refl));
      parts = λ x s has joined recovers_one free quiet h. removal IsDone IsDone Anything NoLook AnyStart AnyMove p x s.lockspace tt h.1;
      frees = λ x s has joined well free quiet h.
          delta IsDone IsDone Anything NoLook AnyStart AnyMove p x s (next_free (delta_of_session x.setting s) x.reading (delta_known x.setting (seen x) s))
          (free_plain x s (delta_of_session x.setting s) x.reading (delta_known x.setting (seen x) s)) h.1;
    }
