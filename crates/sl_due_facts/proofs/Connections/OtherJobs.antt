-- Which jobs are no joining's: their commands join nothing.
use Rattle.sl_due_facts.specs.Acts.Acts.{Hears}
use Rattle.sl_due.specs.Steps.{Step, seen}
use Rattle.sl_due_facts.proofs.Jobs.JobsAreNumbered.{found_after, found_before, next_is_new}
use Rattle.sl_due_facts.proofs.Jobs.SessionsHaveJobs.{contains_either, contains_only}
use Rattle.sl_due_facts.specs.Jobs.JobLaws.{HasJobFacts}
use Rattle.sl_trace.specs.Jobs.{child_of_job, command_numbered, command_of, is_command_that, is_job_of_process, job_of_start, jobs_of_session, lockspace_named, process_named, resource_named}
use Rattle.sl_words.proofs.Lists.{contains_none, find_inside, kept_inside}
use Rattle.sl_words.proofs.Numbers.{number_itself}
use Rattle.sl_words.proofs.Options.{some_of, then_value}
use Rattle.sl_due_facts.proofs.Connections.ConnectionEffects.{IsOtherJob}
use Rattle.sl_due_facts.proofs.Connections.ConnectionsChange.{IsAlone}
use Rattle.sl_due_facts.proofs.Connections.SessionParts.{at_work_is_present, unjoined_not}
use Rattle.sl_due_facts.proofs.Sessions.NameActs.{running_unrefused}
use Rattle.sl_due_facts.proofs.Sessions.NamesAreAllowed.{is_joining}
use Rattle.sl_due_facts.proofs.Sessions.NamesAtEnd.{running_unjoined}
use Rattle.sl_trace.specs.Sessions.{is_joined, joined_after, joining_session, session_numbered}
use Rattle.sl_trace.specs.declared.session.Session.{Session}
use Rattle.sl_due_facts.specs.Facts.JobFacts.{FitsCommand}
use Rattle.sl_due_facts.specs.Facts.AllFacts.{Whole}
use Rattle.sl_trace.specs.Traces.{Child, Job, Setting, Submitted, Trace, child_numbered, children, is_running, job_in, job_numbered, job_of, jobs, line_in, next_job, running_jobs, submitted}
use Rattle.sl_trace.specs.declared.command.Command.TheVariants.{Acquire, AddLockspace, Convert, GetLvb, HostStatus, InqLockspace, Release, ReleaseOrphan, RemLockspace, Request, RunProgram, SetKillpath, SetLvb, Status, TakeOver}
use Rattle.sl_trace.specs.declared.command.Command.{Command}
use Rattle.sl_trace.specs.declared.command.LockspaceArg.{LockspaceArg}
use Rattle.sl_trace.specs.declared.command.ResourceArg.{ResourceArg}
use Rattle.sl_trace.specs.declared.effects.Purpose.TheVariants.{Joining, Lease, Leaving, Renewal, RequestRead, RequestWrite, SeeRequest, Survey, ValueRead, ValueWrite}
use Rattle.sl_trace.specs.declared.effects.Purpose.{Purpose}
use Rattle.sl_trace.specs.declared.input.Answer.{Answer}
use Rattle.sl_words.proofs.CaseLaws.{false_is_true, none_some, one_value, true_is_false}
use Rattle.sl_words.specs.Words.{some_is}
use Rattle.std.proofs.Common.{ap, inl, inr, refl, subst, sym, ◌∙◌}
use Rattle.std.proofs.lemmas.Bool.{eqb-true}
use Rattle.std.proofs.lemmas.Slice.Eq.{bytes_eq-Decides}
use Rattle.std.specs.Prelude.{Bool, Contains, List, None, Option, Some, [], bytes_eq, cond, false, find, length, option_and_then, option_map, true, ℕ, ◌++◌, ◌==◌, ◌||◌, ◌∷◌, ◌≡◌, ◌⊎◌}

abbrev pub is_adding : Command → Bool
is_adding (AddLockspace a) = true
is_adding c = false

pub other_by_command : (x : Step) (j : ℕ) (c : Command) → HasJobFacts x → command_numbered x.setting (seen x) j ≡ Some c → is_adding c ≡ false → IsOtherJob x j
other_by_command x j c f reads_one no_join z there its =
    let a = f.joins z j there its in
    true_is_false (ap (λ d. is_adding d) (one_value (AddLockspace a.0) c (command_numbered x.setting (seen x) j) a.1 reads_one) ∙ no_join)

named_adds_none : (c : Command) (r : ResourceArg) → resource_named c ≡ Some r → is_adding c ≡ false
named_adds_none (AddLockspace a) r is = absurd (none_some r is)
named_adds_none (RemLockspace a) r is = refl
named_adds_none (InqLockspace a) r is = refl
named_adds_none (HostStatus a) r is = refl
named_adds_none (Acquire q shared p persistent) r is = refl
named_adds_none (TakeOver q shared p persistent) r is = refl
named_adds_none (Release q p) r is = refl
named_adds_none (ReleaseOrphan q) r is = refl
named_adds_none (Convert q shared p) r is = refl
named_adds_none (RunProgram q shared path) r is = refl
named_adds_none (Request q n force) r is = refl
named_adds_none (GetLvb q p) r is = refl
named_adds_none (SetLvb q p bytes) r is = refl
named_adds_none (SetKillpath p path) r is = refl
named_adds_none Status r is = refl

processed_adds_none : (c : Command) (p : ℕ) → some_is (λ q. q == p) (process_named c) ≡ true → is_adding c ≡ false
processed_adds_none (AddLockspace a) p is = absurd (false_is_true is)
processed_adds_none (RemLockspace a) p is = refl
processed_adds_none (InqLockspace a) p is = refl
processed_adds_none (HostStatus a) p is = refl
processed_adds_none (Acquire q shared n persistent) p is = refl
processed_adds_none (TakeOver q shared n persistent) p is = refl
processed_adds_none (Release q n) p is = refl
processed_adds_none (ReleaseOrphan q) p is = refl
processed_adds_none (Convert q shared n) p is = refl
processed_adds_none (RunProgram q shared path) p is = refl
processed_adds_none (Request q n force) p is = refl
processed_adds_none (GetLvb q n) p is = refl
processed_adds_none (SetLvb q n bytes) p is = refl
processed_adds_none (SetKillpath n path) p is = refl
processed_adds_none Status p is = refl

fitting_adds_none : (st : Setting) (s : Session) (m : Submitted) (c : Command) (p : Purpose) (j : ℕ) → job_of p ≡ Some j → is_joining p ≡ false → FitsCommand st s m c p → is_adding c ≡ false
fitting_adds_none st s m c (Joining i step) j of other h = absurd (true_is_false other)
fitting_adds_none st s m c Renewal j of other h = absurd (none_some j of)
fitting_adds_none st s m c Survey j of other h = absurd (none_some j of)
fitting_adds_none st s m c (Leaving i) j of other h = ap (λ d. is_adding d) h.1
fitting_adds_none st s m c (Lease work step) j of other h = named_adds_none c h.0 h.1
fitting_adds_none st s m c (RequestRead i) j of other h = ap (λ d. is_adding d) h.3
fitting_adds_none st s m c (RequestWrite i owner) j of other h = ap (λ d. is_adding d) h.3
fitting_adds_none st s m c SeeRequest j of other h = absurd (none_some j of)
fitting_adds_none st s m c (ValueWrite i) j of other h = ap (λ d. is_adding d) h.3
fitting_adds_none st s m c (ValueRead i) j of other h = ap (λ d. is_adding d) h.2

-- The job of a call that is none of a joining.
pub other_caller : (x : Step) (s : Session) (m : Submitted) (j : ℕ) → HasJobFacts x → Contains (submitted (seen x)) m → session_numbered x.setting (seen x) m.call.session ≡ Some s → job_of m.call.purpose ≡ Some j
    → is_joining m.call.purpose ≡ false → IsOtherJob x j
other_caller x s m j f there its of other =
    let c = some_of (command_numbered x.setting (seen x) j) (f.called m j there of) in
    other_by_command x j c.0 f c.1 (fitting_adds_none x.setting s m c.0 m.call.purpose j of other (f.fits m j s c.0 there of its c.1))

pub other_heard : (x : Step) (s : Session) (m : Submitted) (answer : Answer) (j : ℕ) (p : Purpose) → Whole x → Hears x s m answer → m.call.purpose ≡ p → job_of p ≡ Some j → is_joining p ≡ false → IsOtherJob x j
other_heard x s m answer j p h hears is of other =
    other_caller x s m j h.facts.jobs (find_inside (λ (z : Submitted). z.call.number == hears.number) (submitted (seen x)) m hears.call).0 hears.session
    (ap (λ q. job_of q) is ∙ of) (ap (λ q. is_joining q) is ∙ other)

-- The job of a child's start.
pub other_starter : (x : Step) (p j : ℕ) → HasJobFacts x → job_of_start (seen x) p ≡ Some j → IsOtherJob x j
other_starter x p j f is =
    let child = then_value (λ (k : Child). k.job) (child_numbered (seen x) p) j is in
    let there = find_inside (λ (k : Child). k.process == p) (children (seen x)) child.0 child.1 in
    let runs = f.starts child.0 j there.0 child.2 in other_by_command x j (RunProgram runs.0 runs.1 runs.2) f runs.3 refl

-- ---- jobs that are found in their list

pub numbered_found : (st : Setting) (es : Trace) (j : Job) → Contains (jobs st es) j → job_numbered st es j.number ≡ Some j
numbered_found st [] j there = absurd (contains_none j there)
numbered_found st (e ∷ es) j there = by (contains_either (jobs st es) (job_in st es (next_job st es) e) j there) (λ old. numbered_found st es j old) where
  newest : (o : Option (List ℕ)) → Contains (elim o as (λ z. List Job) [ None ↦ [] | Some text ↦ record { number = next_job st es; at = length es; reading = e.reading; command = st.read text } ∷ [] ]) j
      → find (λ (k : Job). k.number == j.number) (jobs st es ++ elim o as (λ z. List Job) [ None ↦ [] | Some text ↦ record { number = next_job st es; at = length es; reading = e.reading; command = st.read text } ∷ [] ]) ≡ Some j
  newest None inside = absurd (contains_none j inside)
  newest (Some text) inside =
      let made : Job = record { number = next_job st es; at = length es; reading = e.reading; command = st.read text } in
      let one : made ≡ j = contains_only made j inside in
      let number : next_job st es ≡ j.number = ap (λ (k : Job). k.number) one in
      found_after (λ (k : Job). k.number == j.number) (jobs st es) (made ∷ []) (subst (λ n. find (λ (k : Job). k.number == n) (jobs st es) ≡ None) number (next_is_new st es))
      ∙ (ap (λ b. cond b (Some made) None) (ap (λ n. n == j.number) number ∙ number_itself j.number) ∙ ap (λ k. Some k) one)

  by : Contains (jobs st es) j ⊎ Contains (job_in st es (next_job st es) e) j → (Contains (jobs st es) j → job_numbered st es j.number ≡ Some j) → job_numbered st (e ∷ es) j.number ≡ Some j
  by (inl old) more = found_before (λ (k : Job). k.number == j.number) (jobs st es) (job_in st es (next_job st es) e) j (more old)
  by (inr new) more = newest (line_in e.input) new

job_command : (st : Setting) (es : Trace) (j : Job) (c : Command) → Contains (jobs st es) j → command_of j ≡ Some c → command_numbered st es j.number ≡ Some c
job_command st es j c there is = ap (λ o. option_and_then command_of o) (numbered_found st es j there) ∙ is

-- A job of a process.
pub other_of_process : (x : Step) (p : ℕ) (j : Job) → HasJobFacts x → Contains (running_jobs x.setting (seen x)) j → is_job_of_process (seen x) p j ≡ true → IsOtherJob x j.number
other_of_process x p j f there is =
    by (is_command_that (λ c. some_is (λ q. q == p) (process_named c)) j) refl is where
      inside : Contains (jobs x.setting (seen x)) j
      inside = (kept_inside (λ (k : Job). is_running (seen x) k.number) (jobs x.setting (seen x)) j there).0

      by_command : (o : Option Command) → command_of j ≡ o → some_is (λ c. some_is (λ q. q == p) (process_named c)) o ≡ true → IsOtherJob x j.number
      by_command None none h = absurd (false_is_true h)
      by_command (Some c) reads_one h = other_by_command x j.number c f (job_command x.setting (seen x) j c inside reads_one) (processed_adds_none c p h)

      by_child : (o : Option Child) → find (λ (k : Child). some_is (λ n. n == j.number) k.job) (children (seen x)) ≡ o → some_is (λ q. q == p) (option_map (λ (k : Child). k.process) o) ≡ true → IsOtherJob x j.number
      by_child None none h = absurd (false_is_true h)
      by_child (Some k) found h = its (find_inside (λ (d : Child). some_is (λ n. n == j.number) d.job) (children (seen x)) k found) where
        its : Contains (children (seen x)) k × (some_is (λ n. n == j.number) k.job ≡ true) → IsOtherJob x j.number
        its t = of k.job refl t.1 where
          of : (o : Option ℕ) → k.job ≡ o → some_is (λ n. n == j.number) o ≡ true → IsOtherJob x j.number
          of None none h = absurd (false_is_true h)
          of (Some n) job same =
              let runs = f.starts k j.number t.0 (job ∙ ap (λ i. Some i) (eqb-true n j.number same)) in other_by_command x j.number (RunProgram runs.0 runs.1 runs.2) f runs.3 refl

      by : (b : Bool) → is_command_that (λ c. some_is (λ q. q == p) (process_named c)) j ≡ b → (b || some_is (λ q. q == p) (child_of_job (seen x) j.number)) ≡ true → IsOtherJob x j.number
      by true command h = by_command (command_of j) refl command
      by false command h = by_child (find (λ (k : Child). some_is (λ n. n == j.number) k.job) (children (seen x))) refl h

-- A job that names the lockspace of a joined session: a joining of that name would be another session that is present.
pub other_of_session : (x : Step) (s : Session) (j : Job) → HasJobFacts x → IsAlone x.setting (seen x) s → is_joined (seen x) s ≡ true → Contains (jobs_of_session x.setting (seen x) s) j → IsOtherJob x j.number
other_of_session x s j f alone joined there z inside its =
    by (command_of j) refl names.1 where
      names : Contains (running_jobs x.setting (seen x)) j × (is_command_that (λ c. some_is (λ n. bytes_eq n s.lockspace) (lockspace_named c)) j ≡ true)
      names = kept_inside (is_command_that (λ c. some_is (λ n. bytes_eq n s.lockspace) (lockspace_named c))) (running_jobs x.setting (seen x)) j there

      runs : Contains (jobs x.setting (seen x)) j × (is_running (seen x) j.number ≡ true)
      runs = kept_inside (λ (k : Job). is_running (seen x) k.number) (jobs x.setting (seen x)) j names.0

      a : (a : LockspaceArg) × (command_numbered x.setting (seen x) j.number ≡ Some (AddLockspace a)) × (z ≡ joining_session z.number j.number a)
      a = f.joins z j.number inside its

      by : (o : Option Command) → command_of j ≡ o → some_is (λ c. some_is (λ n. bytes_eq n s.lockspace) (lockspace_named c)) o ≡ true → ⊥
      by None none h = false_is_true h
      by (Some c) reads_one h =
          let same : AddLockspace a.0 ≡ c = one_value (AddLockspace a.0) c (command_numbered x.setting (seen x) j.number) a.1 (job_command x.setting (seen x) j c runs.0 reads_one) in
          let name : a.0.name ≡ s.lockspace = (bytes_eq-Decides a.0.name s.lockspace).0 (subst (λ d. some_is (λ n. bytes_eq n s.lockspace) (lockspace_named d) ≡ true) (sym same) h) in
          let unjoined : joined_after (seen x) z ≡ None = running_unjoined (seen x) z j.number its runs.1 in
          let one : z ≡ s = alone z inside (at_work_is_present (seen x) z unjoined (running_unrefused (seen x) z j.number its runs.1)) (ap (λ (q : Session). q.lockspace) a.2 ∙ name) in
          unjoined_not (seen x) s (subst (λ q. joined_after (seen x) q ≡ None) one unjoined) joined
