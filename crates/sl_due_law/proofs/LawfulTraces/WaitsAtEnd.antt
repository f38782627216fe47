-- A job that waits at an entry's end is busy.
use Rattle.sl_due.specs.IdleJobs.{IsBusy, NoIdleJob, has_open_start, is_leaving_job, is_waiting_call, is_waiting_joining}
use Rattle.sl_due_law.specs.LawfulTraces.Busy.{AllWait, For_call, For_child, For_leaving, For_session, Waits}
use Rattle.sl_due_leases.proofs.Holdings.HoldersSpared.{joining}
use Rattle.sl_due_facts.proofs.Jobs.SessionsArePresent.{session_has}
use Rattle.sl_due_facts.proofs.Jobs.SessionsHaveJobs.{one_session}
use Rattle.sl_run.specs.Lawful.{Orderly}
use Rattle.sl_run.specs.LawfulArea.{is_area_work}
use Rattle.sl_trace.specs.Jobs.{command_numbered}
use Rattle.sl_words.proofs.Lists.{any_of, contains_first, contains_more, find_fails, find_inside, kept, kept_inside}
use Rattle.sl_words.proofs.Numbers.{number_itself}
use Rattle.sl_words.proofs.Options.{some_of}
use Rattle.sl_due_facts.proofs.Sessions.NamesAreAllowed.{caller_joined}
use Rattle.sl_trace.specs.Sessions.{calls_of, is_call_of, is_free_purpose, is_survey_purpose, joined_after, leaving_job, session_numbered, session_of_job, sessions}
use Rattle.sl_trace.specs.declared.session.Session.{Session}
use Rattle.sl_due_facts.specs.Facts.JobFacts.{FitsCommand, JobFacts}
use Rattle.sl_due_facts.specs.Facts.SessionFacts.{NameFacts}
use Rattle.sl_trace.specs.Traces.{Answered, Child, Job, Setting, Submitted, Trace, children, is_of_job, is_ok_answer, is_running, job_of, jobs, outstanding, running_jobs, submitted, waiting_call}
use Rattle.sl_trace.specs.declared.effects.JoinStep.{JoinStep}
use Rattle.sl_trace.specs.declared.effects.Purpose.{Purpose}
use Rattle.sl_trace.specs.declared.effects.Purpose.TheVariants.{Joining, Lease, Leaving, Renewal, RequestRead, RequestWrite, SeeRequest, Survey, ValueRead, ValueWrite}
use Rattle.sl_words.proofs.CaseLaws.{none_some, not_both, true_is_false}
use Rattle.sl_words.proofs.WordLaws.{some_is_true}
use Rattle.sl_words.specs.Words.{is_empty, some_is}
use Rattle.std.proofs.Common.{ap, ap₂, inl, inr, refl, subst, sym, ◌∙◌}
use Rattle.std.proofs.lemmas.Bool.{eqb-true}
use Rattle.std.specs.List.{AllByRecursion}
use Rattle.std.specs.Prelude.{Bool, Contains, List, None, Option, Some, [], false, is_none, is_some, true, ℕ, ◌&&◌, ◌==◌, ◌||◌, ◌∷◌, ◌≡◌, ◌⊎◌}

all_by : {A : Type 0} (P : A → Type 0) (xs : List A) → ((d : A) → Contains xs d → P d) → AllByRecursion P xs
all_by P [] h = tt
all_by P (x ∷ xs) h = (h x (contains_first x xs), all_by P xs (λ d there. h d (contains_more x xs d there)))

busy_by : (a b c d : Bool) → (a ≡ true) ⊎ ((b ≡ true) ⊎ ((c ≡ true) ⊎ (d ≡ true))) → (a || b || c || d) ≡ true
busy_by true b c d h = refl
busy_by false true c d h = refl
busy_by false false true d h = refl
busy_by false false false true h = refl
busy_by false false false false (inl h) = h
busy_by false false false false (inr (inl h)) = h
busy_by false false false false (inr (inr (inl h))) = h
busy_by false false false false (inr (inr (inr h))) = h

-- A call without an answer is waited for.
open_waits : (t : Trace) (j : ℕ) (m : Submitted) → Contains (submitted t) m → m.answer ≡ None → job_of m.call.purpose ≡ Some j → is_some (waiting_call t j) ≡ true
open_waits t j m there opens of = by (waiting_call t j) refl where
  mine : is_of_job j m ≡ true
  mine = ap (λ o. some_is (λ k. k == j) o) of ∙ number_itself j

  inside : Contains (outstanding t) m
  inside = kept (λ (d : Submitted). is_none d.answer) (submitted t) m (ap (λ o. is_none o) opens) there

  by : (o : Option Submitted) → waiting_call t j ≡ o → is_some (waiting_call t j) ≡ true
  by (Some d) found = ap (λ o. is_some o) found
  by None found = absurd (not_both (is_of_job j m) mine (find_fails (is_of_job j) (outstanding t) m found inside))

abbrev is_renewal_only : Purpose → Bool
is_renewal_only Renewal = true
is_renewal_only p = false

abbrev is_seeing : Purpose → Bool
is_seeing SeeRequest = true
is_seeing p = false

-- A joining has a call open, or waits for a moment.
joining_waits : (st : Setting) (t : Trace) (s : Session) (j : ℕ) → NameFacts st t None → JobFacts st t None → Orderly st t → Contains (sessions st t) s → s.job ≡ Some j → is_running t j ≡ true
    → (is_some (waiting_call t j) ≡ true) ⊎ (some_is (λ z. is_waiting_call (calls_of t z)) (session_of_job st t j) ≡ true)
joining_waits st t s j names jobs orderly there its runs = by (calls_of t s) refl where
  unjoined : joined_after t s ≡ None
  unjoined = (joining t s j its runs).unjoined

  -- its calls are its job's
  its_job : (m : Submitted) → Contains (calls_of t s) m → job_of m.call.purpose ≡ Some j
  its_job m inside = by_purpose m.call.purpose refl where
    mine : Contains (submitted t) m × (is_call_of s m ≡ true)
    mine = kept_inside (is_call_of s) (submitted t) m inside

    session : session_numbered st t m.call.session ≡ Some s
    session = ap (λ n. session_numbered st t n) (eqb-true m.call.session s.number (kept_inside (is_call_of s) (submitted t) m inside).1) ∙ session_has st t s there

    never : ((i : ℕ) (step : JoinStep) → m.call.purpose ≡ Joining i step → ⊥) → job_of m.call.purpose ≡ Some j
    never none = absurd (true_is_false (sym (caller_joined st t s m orderly (session_has st t s there) inside none) ∙ ap (λ o. is_some o) unjoined))

    by_purpose : (p : Purpose) → m.call.purpose ≡ p → job_of m.call.purpose ≡ Some j
    by_purpose (Joining i step) is =
        let of : job_of m.call.purpose ≡ Some i = ap (λ p. job_of p) is in
        let named = some_of (command_numbered st t i) (jobs.called m i mine.0 of) in
        let f : FitsCommand st s m named.0 m.call.purpose = jobs.fits m i s named.0 mine.0 of session named.1 in
        let own : s.job ≡ Some i = subst (λ p. FitsCommand st s m named.0 p) is f in of ∙ (sym own ∙ its)
    by_purpose Renewal is = never (λ i step joins. true_is_false (ap (λ p. is_renewal_only p) (sym is ∙ joins)))
    by_purpose Survey is = never (λ i step joins. true_is_false (ap (λ p. is_survey_purpose p) (sym is ∙ joins)))
    by_purpose (Leaving k) is = never (λ i step joins. true_is_false (ap (λ p. is_free_purpose p) (sym is ∙ joins)))
    by_purpose (Lease work step) is = never (λ i at joins. true_is_false (ap (λ p. is_area_work p) (sym is ∙ joins)))
    by_purpose (RequestRead k) is = never (λ i step joins. true_is_false (ap (λ p. is_area_work p) (sym is ∙ joins)))
    by_purpose (RequestWrite k owner) is = never (λ i step joins. true_is_false (ap (λ p. is_area_work p) (sym is ∙ joins)))
    by_purpose SeeRequest is = never (λ i step joins. true_is_false (ap (λ p. is_seeing p) (sym is ∙ joins)))
    by_purpose (ValueWrite k) is = never (λ i step joins. true_is_false (ap (λ p. is_area_work p) (sym is ∙ joins)))
    by_purpose (ValueRead k) is = never (λ i step joins. true_is_false (ap (λ p. is_area_work p) (sym is ∙ joins)))

  first : (m : Submitted) (ms : List Submitted) → calls_of t s ≡ m ∷ ms → Contains (calls_of t s) m
  first m ms is = subst (λ ds. Contains ds m) (sym is) (contains_first m ms)

  moment : (m : Submitted) (ms : List Submitted) (a : Answered) → calls_of t s ≡ m ∷ ms → m.answer ≡ Some a → some_is (λ z. is_waiting_call (calls_of t z)) (session_of_job st t j) ≡ true
  moment m ms a is answered =
      ap (λ o. some_is (λ z. is_waiting_call (calls_of t z)) o) found
      ∙ (ap (λ ds. is_waiting_call ds) is
      ∙ ap₂ (λ p q. p && q) (names.waits s j m ms there its runs is (ap (λ o. is_some o) answered) (λ heard. none_some m.call.number heard))
      (ap (λ o. some_is (λ (b : Answered). is_ok_answer b.answer) o) answered ∙ names.done s j m a there its runs (first m ms is) answered (λ heard. none_some m.call.number heard)))
    where
      found : session_of_job st t j ≡ Some s
      found = found_by (session_of_job st t j) refl where
        found_by : (o : Option Session) → session_of_job st t j ≡ o → session_of_job st t j ≡ Some s
        found_by None none = absurd (not_both (some_is (λ k. k == j) s.job) (ap (λ o. some_is (λ k. k == j) o) its ∙ number_itself j) (find_fails (λ (z : Session). some_is (λ k. k == j) z.job) (sessions st t) s none there))
        found_by (Some z) at =
            let inside = find_inside (λ (v : Session). some_is (λ k. k == j) v.job) (sessions st t) z at in
            let own = some_is_true (λ k. k == j) z.job inside.1 in
            at ∙ ap (λ v. Some v) (one_session st t z s j inside.0 there (own.1 ∙ ap (λ k. Some k) (eqb-true own.0 j own.2)) its)

  by : (ms : List Submitted) → calls_of t s ≡ ms → (is_some (waiting_call t j) ≡ true) ⊎ (some_is (λ z. is_waiting_call (calls_of t z)) (session_of_job st t j) ≡ true)
  by [] is = absurd (true_is_false (sym (ap (λ ds. is_empty ds) is) ∙ names.begun s j there its))
  by (m ∷ ms) is = answered m.answer refl where
    answered : (o : Option Answered) → m.answer ≡ o → (is_some (waiting_call t j) ≡ true) ⊎ (some_is (λ z. is_waiting_call (calls_of t z)) (session_of_job st t j) ≡ true)
    answered None opens = inl (open_waits t j m (kept_inside (is_call_of s) (submitted t) m (first m ms is)).0 opens (its_job m (first m ms is)))
    answered (Some a) done = inr (moment m ms a is done)

pub none_idle : (st : Setting) (t : Trace) → NameFacts st t None → JobFacts st t None → Orderly st t → AllWait st t None None → NoIdleJob st t
none_idle st t names facts orderly waits =
    all_by (IsBusy st t) (running_jobs st t) (λ j there.
    let inside = kept_inside (λ (i : Job). is_running t i.number) (jobs st t) j there in busy j inside.1 (waits j inside.0 inside.1))
  where
    busy : (j : Job) → is_running t j.number ≡ true → Waits st t None None j.number → IsBusy st t j
    busy j runs w = busy_by (is_some (waiting_call t j.number)) (has_open_start t j) (is_waiting_joining st t j) (is_leaving_job st t j) (by w) where
      by : Waits st t None None j.number → (is_some (waiting_call t j.number) ≡ true) ⊎ ((has_open_start t j ≡ true) ⊎ ((is_waiting_joining st t j ≡ true) ⊎ (is_leaving_job st t j ≡ true)))
      by (For_session s there its) = elim (joining_waits st t s j.number names facts orderly there its runs) [ inl opens ↦ inl opens | inr moment ↦ inr (inr (inl moment)) ]
      by (For_call m there (inl opens) of) = inl (open_waits t j.number m there opens of)
      by (For_call m there (inr heard) of) = absurd (none_some m.call.number heard)
      by (For_child k there its (inl opens)) =
          inr (inl (any_of (λ (c : Child). some_is (λ n. n == j.number) c.job && is_none c.answer) (children t) k (ap₂ (λ p q. p && q) (ap (λ o. some_is (λ n. n == j.number) o) its ∙ number_itself j.number) (ap (λ o. is_none o) opens)) (find_inside (λ (c : Child). c.process == k.process) (children t) k there).0))
      by (For_child k there its (inr told)) = absurd (none_some k.process told)
      by (For_leaving s k there is number) =
          inr (inr (inr (any_of (λ (z : Session). some_is (λ (i : Job). i.number == j.number) (leaving_job st t z)) (sessions st t) s
          (ap (λ o. some_is (λ (i : Job). i.number == j.number) o) is ∙ (ap (λ n. n == j.number) number ∙ number_itself j.number)) there)))
