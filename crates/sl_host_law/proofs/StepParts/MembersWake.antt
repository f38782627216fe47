-- Parts of a wake and of a step's end, by what is kept of a member.
use Rattle.sl_host_law.specs.Decisions.CommandDecisions.{held_of, is_active_member, is_open_on}
use Rattle.sl_due.specs.CarriedDelta.{carry_delta}
use Rattle.sl_due.specs.DueTimeOuts.{remove_connection}
use Rattle.sl_due.specs.CarriedLease.{carry_lease, settle}
use Rattle.sl_due.specs.DueRequests.{bits_due}
use Rattle.sl_due.specs.DueWake.{end_if_done, finish_session, free_if_done, join_on_wake, renew_on_wake, settle_on_wake, settlings}
use Rattle.sl_due.specs.Steps.{Step, for_each, seen, when, with_some}
use Rattle.sl_host_law.proofs.SharedFacts.IdleJobs.{any_reversed}
use Rattle.sl_host_law.proofs.SharedFacts.KeptJobs.{kept_is_running}
use Rattle.sl_host_law.proofs.SharedFacts.MembersAreSessions.{member_inside}
use Rattle.sl_host_law.proofs.SharedFacts.PlainLists.{all_as, all_both, any_mapped, each_of, in_back, in_front}
use Rattle.sl_host_state.specs.HeardInputs.{setting_of}
use Rattle.sl_host_state.specs.KeptState.{Config, HostState, MemberState}
use Rattle.sl_host_state.specs.MadeEffects.{has_write_open}
use Rattle.sl_host_state.specs.HostStands.{Keeps, MemberStands, bits_of, is_joining, kept_call, newest_of}
use Rattle.sl_trace.specs.LeaseDecisions.{LeasePlace, settle_begin, within_turn}
use Rattle.sl_trace.specs.Leases.{is_on, known, lease_spots, open_on, LeaseKnown}
use Rattle.sl_host_law.specs.StepParts.Wakes.{MembersWake, bits_in, delta_in, is_free_at, next_by_newest}
use Rattle.sl_words.proofs.Lists.{any_found, any_of, contains_first, kept, kept_inside}
use Rattle.sl_words.proofs.Options.{none_is}
use Rattle.sl_host_law.proofs.Questions.MembersAnswer.{members_answer}
use Rattle.sl_host_law.specs.Questions.Answers.{place_in, settling_in}
use Rattle.sl_host_law.specs.Questions.Jobs.{running_in}
use Rattle.sl_host_law.specs.Questions.Members.{IsMemberAt, MemberAnswers, has_call_open}
use Rattle.sl_trace.specs.DeltaDecisions.{DeltaLease, delta_known, delta_of_session, join_step_of, next_by_time, next_free, next_on_wake, next_renewal}
use Rattle.sl_trace.specs.Sessions.{added, begun_in, calls_of, given_session, has_open_write, is_join_call, is_join_done, joining_session, open_calls_of, recovery_of, removed_after, sessions}
use Rattle.sl_trace.specs.declared.delta.DeltaNext.TheVariants.{Nothing}
use Rattle.sl_trace.specs.declared.delta.DeltaNext.{DeltaNext}
use Rattle.sl_trace.specs.declared.session.Begun.{Begun}
use Rattle.sl_trace.specs.declared.session.Session.{Session}
use Rattle.sl_trace.specs.Traces.{Answered, Job, Replied, Setting, Submitted, Trace, is_running, job_in, jobs, line_in, next_job, outstanding, reply_to, running_jobs}
use Rattle.sl_trace.specs.declared.command.LockspaceArg.{LockspaceArg}
use Rattle.sl_trace.specs.declared.effects.Entry.{Entry}
use Rattle.sl_trace.specs.declared.effects.JoinStep.TheVariants.{FirstRead}
use Rattle.sl_trace.specs.declared.effects.JoinStep.{JoinStep}
use Rattle.sl_trace.specs.declared.effects.Spot.{Spot}
use Rattle.sl_trace.specs.declared.effects.Work.TheVariants.{Settling}
use Rattle.sl_trace.specs.declared.input.Given.{Given}
use Rattle.sl_trace.specs.declared.input.Input.{Input}
use Rattle.sl_words.proofs.CaseLaws.{is_false, none_some, some_value, true_is_false}
use Rattle.sl_words.specs.Words.{choose, is_empty}
use Rattle.sl_trace.specs.declared.lease.LeaseNext.{LeaseNext}
use Rattle.sl_due_facts.specs.Acts.Acts.{next_of_settling}
use Rattle.sl_trace.specs.declared.lease.Aim.TheVariants.{Settles}
use Rattle.std.proofs.Common.{ap, refl, subst, sym, ◌∙◌}
use Rattle.std.proofs.lemmas.Bool.Decides.{Decides-eqb}
use Rattle.std.specs.List.{AllByRecursion, enumerate_from, list_any}
use Rattle.std.specs.Prelude.{Bool, Contains, List, None, Option, Some, cond, false, filter, is_none, is_some, length, map, not, option_and_then, option_map, slice_get, true, [], ℕ, ◌&&◌, ◌+◌, ◌==◌, ◌||◌, ◌∷◌, ◌≡◌}

-- ---- the job of a session is one of the trace's

-- There is such a job.
abbrev HasJob : List Job → Session → Type 0
HasJob js s = (n : ℕ) → s.job ≡ Some n → (j : Job) × Contains js j × (j.number ≡ n)

given_jobs : (js : List Job) (k : ℕ) (gs : List Given) → AllByRecursion (HasJob js) (map given_session (enumerate_from k gs))
given_jobs js k [] = tt
given_jobs js k (g ∷ gs) = (λ n is. absurd (none_some n is), given_jobs js (k + 1) gs)

begun_jobs : (st : Setting) (es : Trace) (n : ℕ) (e : Entry) → AllByRecursion (HasJob (job_in st es (next_job st es) e)) (begun_in st es n e)
begun_jobs st es n e = by (list_any (λ c. is_join_call FirstRead c.purpose) e.effects.calls) (line_in e.input) where
  by : (b : Bool) (o : Option (List ℕ))
      → AllByRecursion (HasJob (elim o as (λ z. List Job) [ None ↦ [] | Some text ↦ record { number = next_job st es; at = length es; reading = e.reading; command = st.read text } ∷ [] ]))
      (elim b as (λ z. List Session) [
        | false ↦ []
        | true ↦ elim (option_and_then (λ text. added (st.read text)) o) as (λ z. List Session) [ None ↦ [] | Some a ↦ joining_session n (next_job st es) a ∷ [] ]
      ])
  by false o = tt
  by true None = tt
  by true (Some text) = within (added (st.read text)) where
    job : Job
    job = record { number = next_job st es; at = length es; reading = e.reading; command = st.read text }

    within : (a : Option LockspaceArg) → AllByRecursion (HasJob (job ∷ [])) (elim a as (λ z. List Session) [ None ↦ [] | Some b ↦ joining_session n (next_job st es) b ∷ [] ])
    within None = tt
    within (Some b) = (λ k is. (job, contains_first job [], some_value (next_job st es) k is), tt)

session_jobs : (st : Setting) (es : Trace) → AllByRecursion (HasJob (jobs st es)) (sessions st es)
session_jobs st [] = given_jobs [] 0 st.given
session_jobs st (e ∷ es) =
    all_both (HasJob (jobs st (e ∷ es))) (sessions st es) (begun_in st es (length (sessions st es)) e)
    (all_as (HasJob (jobs st es)) (HasJob (jobs st (e ∷ es))) (sessions st es)
    (λ s has n is. (let j = has n is in (j.0, in_front (jobs st es) (job_in st es (next_job st es) e) j.0 j.1, j.2))) (session_jobs st es))
    (all_as (HasJob (job_in st es (next_job st es) e)) (HasJob (jobs st (e ∷ es))) (begun_in st es (length (sessions st es)) e)
    (λ s has n is. (let j = has n is in (j.0, in_back (jobs st es) (job_in st es (next_job st es) e) j.0 j.1, j.2))) (begun_jobs st es (length (sessions st es)) e))

runs_by : (h : HostState) (st : Setting) (es : Trace) (j : Job) → Keeps h st es → Contains (jobs st es) j → is_running es j.number ≡ running_in h j.number
runs_by h st es j k there = by (is_running es j.number) refl ∙ sym (kept_is_running h st es j.number k) where
  by : (b : Bool) → is_running es j.number ≡ b → is_running es j.number ≡ list_any (λ z. z.number == j.number) (running_jobs st es)
  by true is =
      is ∙ sym (any_of (λ (z : Job). z.number == j.number) (running_jobs st es) j ((Decides-eqb j.number j.number).1 refl) (kept (λ (z : Job). is_running es z.number) (jobs st es) j is there))
  by false is =
      is ∙ sym (is_false (list_any (λ (z : Job). z.number == j.number) (running_jobs st es)) (λ some.
      (let f = any_found (λ (z : Job). z.number == j.number) (running_jobs st es) some in
      let runs : is_running es f.0.number ≡ true = (kept_inside (λ (z : Job). is_running es z.number) (jobs st es) f.0 f.1).1 in
      true_is_false (sym (subst (λ n. is_running es n ≡ true) ((Decides-eqb f.0.number j.number).0 f.2) runs) ∙ is))))

-- Whether the job of a member runs.
member_runs : (h : HostState) (st : Setting) (es : Trace) (k : ℕ) (m : MemberState) (n : ℕ) → Keeps h st es → slice_get h.members k ≡ Some m → m.who.job ≡ Some n → is_running es n ≡ running_in h n
member_runs h st es k m n keeps there is =
    let j = each_of (HasJob (jobs st es)) (sessions st es) m.who (session_jobs st es) (member_inside h st es k m keeps there).0 n is in
    subst (λ z. is_running es z ≡ running_in h z) j.2 (runs_by h st es j.0 keeps j.1)

-- ---- joinings

-- While its job runs it is still joining.
still_joining : (st : Setting) (es : Trace) (m : MemberState) (n : ℕ) → MemberStands st es m → m.who.job ≡ Some n → is_running es n ≡ true → is_joining m ≡ true
still_joining st es m n s is runs =
    ap (λ b. not b && not m.refused) (sym s.joined ∙ ap (λ o. is_some o && is_none (removed_after es m.who)) (mark (λ r. choose (is_join_done r.reply) (r.at + 1)) (Some 0) m.who.job is))
    ∙ ap not (sym s.refused ∙ ap (λ o. is_some o) (mark (λ r. choose (not (is_join_done r.reply)) (r.at + 1)) None m.who.job is)) where
      mark : (f : Replied → Option ℕ) (given : Option ℕ) (o : Option ℕ) → o ≡ Some n → elim o as (λ z. Option ℕ) [ None ↦ given | Some j ↦ option_and_then f (reply_to es j) ] ≡ None
      mark f given None at = absurd (none_some n at)
      mark f given (Some j) at = ap (λ z. option_and_then f (reply_to es z)) (some_value j n at) ∙ ap (option_and_then f) (none_is (reply_to es n) runs)

by_newest : (l : DeltaLease) (now : ℕ) (ms : List Submitted) → next_on_wake l now ms ≡ next_by_newest l now (newest_of ms)
unfolding next_on_wake
by_newest l now [] = refl
by_newest l now (m ∷ ms) = by m.answer (join_step_of m.call.purpose) where
  by : (a : Option Answered) (step : Option JoinStep)
      → elim a as (λ z. DeltaNext) [ None ↦ Nothing | Some r ↦ elim step as (λ z. DeltaNext) [ None ↦ Nothing | Some t ↦ next_by_time l now m.reading r.reading t ] ]
      ≡ next_by_newest l now (option_map (λ t. record { step = t; made = m.reading; answered = option_map (λ r. r.reading) a }) step)
  by None None = refl
  by None (Some t) = refl
  by (Some r) None = refl
  by (Some r) (Some t) = refl

-- ---- by the configuration

delta_is : (h : HostState) (st : Setting) (es : Trace) (m : MemberState) → Keeps h st es → delta_of_session st m.who ≡ delta_in h m
delta_is h st es m k = ap (λ (c : Config). record { timing = c.timing; layout = c.layout; host = c.name; lockspace = m.who.lockspace; id = m.who.id }) k.config

-- ---- open calls

none_empty : {A : Type 0} (p : A → Bool) (xs : List A) → is_empty (filter p xs) ≡ not (list_any p xs)
none_empty p [] = refl
none_empty {A} p (x ∷ xs) = by (p x) (none_empty p xs) where
  by : (b : Bool) → is_empty (filter p xs) ≡ not (list_any p xs) → is_empty (cond b (x ∷ filter p xs) (filter p xs)) ≡ not (b || list_any p xs)
  by true rest = refl
  by false rest = rest

free_is : (h : HostState) (st : Setting) (es : Trace) (at : Spot) → Keeps h st es → is_empty (open_on st es at) ≡ is_free_at h at
free_is h st es at k =
    none_empty (λ (c : Submitted). is_on st.layout at c.call) (outstanding es)
    ∙ ap not (sym (any_mapped (is_open_on st.layout at) kept_call (outstanding es)) ∙ (ap (list_any (is_open_on st.layout at)) k.unanswered ∙ any_reversed (is_open_on st.layout at) h.unanswered))
    ∙ ap (λ (c : Config). not (list_any (is_open_on c.layout at) h.unanswered)) k.config

-- ---- the parts

module _ (i : Input) (h : HostState) (x : Step) (k : ℕ) (m : MemberState) (at : IsMemberAt i h x k m) where
  says : MemberAnswers h x m
  says = members_answer i h x k m at

  stands : MemberStands x.setting (seen x) m
  stands = at.stands.keeps.members k m at.there

  joining : join_on_wake m.who x ≡ with_some m.who.job (λ j. when (running_in h j) (carry_delta m.who (next_by_newest (delta_in h m) h.reading m.joining.newest))) x
  unfolding join_on_wake
  joining = by m.who.job refl where
    due : (n : ℕ) → m.who.job ≡ Some n → (b : Bool) → is_running (seen x) n ≡ b
        → when b (carry_delta m.who (next_on_wake (delta_of_session x.setting m.who) x.reading (calls_of (seen x) m.who))) x
        ≡ when b (carry_delta m.who (next_by_newest (delta_in h m) h.reading m.joining.newest)) x
    due n is false runs = refl
    due n is true runs =
        ap (λ d. carry_delta m.who d x)
        (by_newest (delta_of_session x.setting m.who) x.reading (calls_of (seen x) m.who)
        ∙ ap (next_by_newest (delta_of_session x.setting m.who) x.reading) (stands.joining (still_joining x.setting (seen x) m n stands is runs)).newest
        ∙ ap (λ l. next_by_newest l x.reading m.joining.newest) (delta_is h x.setting (seen x) m at.stands.keeps)
        ∙ ap (λ t. next_by_newest (delta_in h m) t m.joining.newest) at.stands.reading)

    by : (o : Option ℕ) → m.who.job ≡ o
        → with_some o (λ j y. when (is_running (seen y) j) (carry_delta m.who (next_on_wake (delta_of_session y.setting m.who) y.reading (calls_of (seen y) m.who))) y) x
        ≡ with_some o (λ j. when (running_in h j) (carry_delta m.who (next_by_newest (delta_in h m) h.reading m.joining.newest))) x
    by None is = refl
    by (Some n) is =
        due n is (is_running (seen x) n) refl
        ∙ ap (λ b. when b (carry_delta m.who (next_by_newest (delta_in h m) h.reading m.joining.newest)) x) (member_runs h x.setting (seen x) k m n at.stands.keeps at.there is)

  bits_are : bits_due x.setting (calls_of (seen x) m.who) x.reading ≡ bits_in h m
  bits_are =
      says.bits x.reading
      ∙ ap (λ (c : Config). bits_of (record { timing = c.timing; grace = c.grace; layout = c.layout; machine = c.machine; name = c.name; first = x.setting.first; given = x.setting.given; read = c.read }) m.asked x.reading) at.stands.keeps.config
      ∙ ap (bits_of (setting_of h) m.asked) at.stands.reading

  renewal : renew_on_wake m.who x ≡ when m.joined (carry_delta m.who (next_renewal (delta_in h m) h.reading m.known (bits_in h m))) x
  unfolding renew_on_wake
  renewal =
      ap (λ b. when b (λ y. carry_delta m.who (next_renewal (delta_of_session y.setting m.who) y.reading (delta_known y.setting (seen y) m.who) (bits_due y.setting (calls_of (seen y) m.who) y.reading)) y) x) says.joined
      ∙ ap (λ l. when m.joined (λ y. carry_delta m.who (next_renewal l x.reading (delta_known x.setting (seen x) m.who) (bits_due x.setting (calls_of (seen x) m.who) x.reading)) y) x) (delta_is h x.setting (seen x) m at.stands.keeps)
      ∙ ap (λ t. when m.joined (carry_delta m.who (next_renewal (delta_in h m) t (delta_known x.setting (seen x) m.who) (bits_due x.setting (calls_of (seen x) m.who) x.reading))) x) at.stands.reading
      ∙ ap (λ d. when m.joined (carry_delta m.who (next_renewal (delta_in h m) h.reading d (bits_due x.setting (calls_of (seen x) m.who) x.reading))) x) stands.known
      ∙ ap (λ bs. when m.joined (carry_delta m.who (next_renewal (delta_in h m) h.reading m.known bs)) x) bits_are

  these_settlings : settlings m.who x ≡ when (is_active_member m) (for_each (map (λ l. l.spot) m.leases) (settle_on_wake m.who)) x
  unfolding settlings
  these_settlings =
      ap (λ b. when b (for_each (lease_spots x.setting (seen x) m.who) (settle_on_wake m.who)) x) says.active
      ∙ ap (λ ss. when (is_active_member m) (for_each ss (settle_on_wake m.who)) x) says.spots

  known_is : (spot : Spot) → next_of_settling x.setting (seen x) m.who spot ≡ settling_in h m x spot
  known_is spot =
      ap (λ (c : Config). next_by (record { layout = c.layout; lockspace = m.who.lockspace }) (known x.setting (seen x) m.who spot)) at.stands.keeps.config
      ∙ ap (next_by (place_in h m)) (says.lease spot) where
        next_by : LeasePlace → LeaseKnown → LeaseNext
        next_by p k = within_turn p k Settles (settle_begin p k)

  settling : (spot : Spot) → settle_on_wake m.who spot x ≡ when (is_free_at h spot) (carry_lease m.who spot Settling (settling_in h m x spot)) x
  unfolding settle_on_wake settle
  settling spot =
      ap (λ b. when b (λ y. carry_lease m.who spot Settling (next_of_settling y.setting (seen y) m.who spot) y) x) (free_is h x.setting (seen x) spot at.stands.keeps)
      ∙ ap (λ d. when (is_free_at h spot) (carry_lease m.who spot Settling d) x) (known_is spot)

  ending : end_if_done m.who x ≡ when (is_empty (held_of h m) && not (has_write_open h m.who.number)) (remove_connection m.who.lockspace) x
  ending =
      ap (λ gs. when (is_empty gs && not (has_open_write (seen x) m.who)) (remove_connection m.who.lockspace) x) says.holdings
      ∙ ap (λ b. when (is_empty (held_of h m) && not b) (remove_connection m.who.lockspace) x) says.writes

  freeing : free_if_done m.who x ≡ when (is_empty (held_of h m) && not (has_call_open h m.who.number)) (carry_delta m.who (next_free (delta_in h m) h.reading m.known)) x
  freeing =
      ap (λ gs. when (is_empty gs && is_empty (open_calls_of (seen x) m.who)) (λ y. carry_delta m.who (next_free (delta_of_session y.setting m.who) y.reading (delta_known y.setting (seen y) m.who)) y) x) says.holdings
      ∙ ap (λ b. when (is_empty (held_of h m) && b) (carry_delta m.who (next_free (delta_of_session x.setting m.who) x.reading (delta_known x.setting (seen x) m.who))) x) says.idle
      ∙ ap (λ l. when (is_empty (held_of h m) && not (has_call_open h m.who.number)) (carry_delta m.who (next_free l x.reading (delta_known x.setting (seen x) m.who))) x) (delta_is h x.setting (seen x) m at.stands.keeps)
      ∙ ap (λ t. when (is_empty (held_of h m) && not (has_call_open h m.who.number)) (carry_delta m.who (next_free (delta_in h m) t (delta_known x.setting (seen x) m.who))) x) at.stands.reading
      ∙ ap (λ d. when (is_empty (held_of h m) && not (has_call_open h m.who.number)) (carry_delta m.who (next_free (delta_in h m) h.reading d)) x) stands.known

  finish : finish_session m.who x ≡ when m.joined (λ y. elim (is_some m.renewing.recovery) as (λ z. Step) [ true ↦ end_if_done m.who y | false ↦ free_if_done m.who y ]) x
  unfolding finish_session
  finish =
      ap (λ b. when b (λ y. elim (is_some (recovery_of y.setting (seen y) m.who)) as (λ z. Step) [ true ↦ end_if_done m.who y | false ↦ free_if_done m.who y ]) x) says.joined
      ∙ by m.joined where
        by : (b : Bool)
            → when b (λ y. elim (is_some (recovery_of y.setting (seen y) m.who)) as (λ z. Step) [ true ↦ end_if_done m.who y | false ↦ free_if_done m.who y ]) x
            ≡ when b (λ y. elim (is_some m.renewing.recovery) as (λ z. Step) [ true ↦ end_if_done m.who y | false ↦ free_if_done m.who y ]) x
        by false = refl
        by true = ap (λ (o : Option Begun). elim (is_some o) as (λ z. Step) [ true ↦ end_if_done m.who x | false ↦ free_if_done m.who x ]) says.recovery

pub members_wake : MembersWake
members_wake i h x k m at =
    record {
      joining = joining i h x k m at;
      renewal = renewal i h x k m at;
      settlings = these_settlings i h x k m at;
      settling = settling i h x k m at;
      finish = finish i h x k m at;
      ending = ending i h x k m at;
      freeing = freeing i h x k m at;
    }
