-- An entry that doesn't concern the acquire's call leaves it on its course.
use Rattle.sl_due.specs.Due.{IsHostTrace}
use Rattle.sl_due.specs.IdleJobs.{NoIdleJob}
use Rattle.sl_due_law.proofs.Causes.NamesBefore.{session_then}
use Rattle.sl_due_facts.proofs.Jobs.JobsAreNumbered.{command_read, command_stays, numbered_stays}
use Rattle.sl_due_law.proofs.LawfulTraces.AcquiresKeep.{acquires_keep_to_theirs}
use Rattle.sl_due_law.proofs.LawfulTraces.TracesHold.{traces_hold}
use Rattle.sl_due_facts.specs.Facts.AllFacts.{Facts}
use Rattle.sl_due_facts.specs.Jobs.Acquires.{AcquireFacts}
use Rattle.sl_due_law.specs.LawfulTraces.CarriedFacts.{Holds}
use Rattle.sl_due_law.proofs.DueIsLawful.{due_is_lawful}
use Rattle.sl_run.specs.Caused.{AnswersCall, Answering, CausedBy, IsCaused, the_session}
use Rattle.sl_run.specs.Lawful.{Lawful}
use Rattle.sl_run.specs.LawfulArea.{is_block_work}
use Rattle.sl_trace.specs.Jobs.{child_of_job, command_numbered, command_of}
use Rattle.sl_trace.specs.Leases.{is_block_read, is_lease_call, is_on, lease_calls, spot_of, spot_of_call}
use Rattle.sl_words.proofs.Lists.{contains_cases, contains_first, contains_more, contains_none, find_fails, find_inside, got_inside, kept, kept_inside}
use Rattle.sl_words.proofs.Numbers.{number_itself}
use Rattle.sl_words.proofs.Options.{none_is, some_there, then_value}
use Rattle.sl_headline.proofs.Quiet.NoDenial.NothingIsCaused.{nothing_is_caused}
use Rattle.sl_headline.proofs.Quiet.Start.FewerCounts.{all_pass}
use Rattle.sl_headline.proofs.Quiet.Leases.CallsStay.{both_kept, leases_stay, lease_is_work, marked_by, none_new, spot_is}
use Rattle.sl_headline.specs.Quiet.Events.CarriedStages.{AllDone, Asked, Frees_leader, IsCallAt, OthersKeepCourse, Reads_area, Reads_first, Reads_second, Sets_mode, Stage, Takes_leader, Writes_first, Writes_second, op_at, stages_before, step_at}
use Rattle.sl_headline.specs.Quiet.NoDenial.NothingIsCaused.{IsLeftAlone}
use Rattle.sl_headline.specs.Quiet.Leases.CallsStay.{IsAtWork}
use Rattle.sl_run.specs.Quiet.{job_calls}
use Rattle.sl_safety.proofs.Ballot.ReasonNames.{generation_stays}
use Rattle.sl_trace.specs.Sessions.{calls_of, is_active, is_call_of, is_joined, joined_after, leaving_job, me, recovery_of, removed_after, session_numbered, sessions}
use Rattle.sl_trace.specs.declared.session.Session.{Session}
use Rattle.sl_trace.specs.Traces.{Answered, Child, Job, Replied, Setting, Submitted, Trace, is_of_job, is_ok_answer, is_write, child_numbered, children, job_in, job_numbered, job_of, jobs, line_in, mark, new_call, next_job, outstanding, reply_to, submitted, waiting_call}
use Rattle.sl_trace.specs.declared.command.Command.TheVariants.{Acquire, AddLockspace, RunProgram}
use Rattle.sl_trace.specs.declared.command.Command.{Command}
use Rattle.sl_run_law.proofs.Front.JoinedLists.{contains_append}
use Rattle.sl_trace.specs.declared.effects.Call.{Call}
use Rattle.sl_trace.specs.declared.effects.Entry.{Entry}
use Rattle.sl_trace.specs.declared.effects.JobReply.{JobReply}
use Rattle.sl_trace.specs.declared.effects.Op.TheVariants.{ReadSectors}
use Rattle.sl_trace.specs.declared.effects.Purpose.TheVariants.{Lease}
use Rattle.sl_trace.specs.declared.effects.Spot.{Spot}
use Rattle.sl_trace.specs.declared.effects.Work.TheVariants.{ForJob}
use Rattle.sl_trace.specs.declared.input.Answer.{Answer}
use Rattle.sl_run_law.proofs.Sessions.CallsAreMade.{old_stays}
use Rattle.sl_run_law.proofs.Sessions.CallOwners.{session_more}
use Rattle.sl_words.proofs.CaseLaws.{false_is_true, none_some, one_value, true_is_false}
use Rattle.sl_words.proofs.WordLaws.{and_true, some_is_true}
use Rattle.sl_words.specs.Words.{some_is}
use Rattle.std.proofs.lemmas.Bool.{eqb-true}
use Rattle.std.proofs.Common.{ap, ap₂, arith, inl, inr, refl, subst, sym, ◌∙◌}
use Rattle.std.specs.Prelude.{Bool, Contains, IsTrue, List, None, Option, Some, [], false, filter, find, fold, is_none, is_some, length, nat_lt, option_map, suc, true, ℕ, ◌%◌, ◌&&◌, ◌^◌, ◌++◌, ◌<◌, ◌==◌, ◌∷◌, ◌≡◌, ◌||◌, ◌⊎◌}

-- ---- calls

of_job : (q : Asked) (stage : Stage) (m : Submitted) → IsCallAt q stage m → is_of_job q.job m ≡ true
of_job q stage m is = ap (λ p. some_is (λ j. j == q.job) (job_of p)) is.purpose ∙ number_itself q.job

-- Each call of the course reads blocks or writes.
works_at : (q : Asked) (stage : Stage) → (is_write (op_at q stage) || is_block_read (new_call 0 0 (record { number = 0; session = 0; purpose = Lease (ForJob q.job) (step_at q stage); path = []; offset = 0; op = ReadSectors 0 }))) ≡ true
works_at q Reads_area = refl
works_at q Writes_first = refl
works_at q Reads_first = refl
works_at q Writes_second = refl
works_at q Reads_second = refl
works_at q Takes_leader = refl
works_at q Sets_mode = refl
works_at q Frees_leader = refl

works : (q : Asked) (stage : Stage) (m : Submitted) → IsCallAt q stage m → is_block_work m ≡ true
works q stage m is =
    ap₂ (λ p o. is_write o || is_block_read (new_call 0 0 (record { number = 0; session = 0; purpose = p; path = []; offset = 0; op = ReadSectors 0 }))) is.purpose is.op ∙ works_at q stage

-- Those that are done have answers.
pub has_answer : (q : Asked) (stages : List Stage) (ms : List Submitted) (m : Submitted) → AllDone q stages ms → Contains ms m → m.answer ≡ None → ⊥
has_answer q [] [] m done there none = contains_none m there
has_answer q [] (x ∷ ms) m done there none = absurd done
has_answer q (stage ∷ stages) [] m done there none = absurd done
has_answer q (stage ∷ stages) (x ∷ ms) m done there none = by (λ more. has_answer q stages ms m done.2 more none) (contains_cases x ms m there) where
  by : (Contains ms m → ⊥) → (x ≡ m) ⊎ Contains ms m → ⊥
  by rest (inl same) = false_is_true (sym (ap (λ o. some_is (λ (a : Answered). is_ok_answer a.answer) o) (ap (λ (y : Submitted). y.answer) same ∙ none)) ∙ done.1)
  by rest (inr more) = rest more

-- A new call is among the calls of its entry.
pub new_inside : (at reading : ℕ) (cs : List Call) (ms : List Submitted) (c : Call) → Contains cs c → Contains (fold (λ xs d. new_call at reading d ∷ xs) ms cs) (new_call at reading c)
new_inside at reading [] ms c there = absurd (contains_none c there)
new_inside at reading (d ∷ cs) ms c there = by (λ more. new_inside at reading cs (new_call at reading d ∷ ms) c more) (contains_cases d cs c there) where
  by : (Contains cs c → Contains (fold (λ xs d. new_call at reading d ∷ xs) (new_call at reading d ∷ ms) cs) (new_call at reading c)) → (d ≡ c) ⊎ Contains cs c
      → Contains (fold (λ xs d. new_call at reading d ∷ xs) (new_call at reading d ∷ ms) cs) (new_call at reading c)
  by rest (inl same) = old_stays at reading cs (new_call at reading d ∷ ms) (new_call at reading c) (subst (λ z. Contains (new_call at reading d ∷ ms) (new_call at reading z)) same (contains_first (new_call at reading d) ms))
  by rest (inr more) = rest more

pub job_calls_are : (es : Trace) (j : ℕ) → job_calls es j ≡ both_kept (λ m. true) (is_of_job j) (submitted es)
job_calls_are es j = ap (λ ms. filter (is_of_job j) ms) (sym (all_pass (λ m. true) (submitted es) (λ m. refl)))

never_now : (n : ℕ) → n < n → ⊥
never_now n less = omega (arith, less)

-- ---- replies

replied_by : (j : ℕ) (past : Trace) (e : Entry) (o : Option Replied) (r : Option JobReply) → o ≡ None → find (λ (a : JobReply). a.job == j) e.effects.replies ≡ r → r ≡ None
    → elim o as (λ z. Option Replied) [ Some x ↦ Some x | None ↦ option_map (λ (a : JobReply). record { at = length past; reply = a.reply }) r ] ≡ None
replied_by j past e None None none is its = refl
replied_by j past e (Some x) r none is its = absurd (none_some x (sym none))
replied_by j past e None (Some a) none is its = absurd (none_some a (sym its))

-- ---- the job

below_both : (k : Job) (st : Setting) (past : Trace) (e : Entry) (o : Option (List ℕ)) → Contains (elim o as (λ z. List Job) [ None ↦ [] | Some text ↦ record { number = next_job st past; at = length past; reading = e.reading; command = st.read text } ∷ [] ]) k
    → k.at ≡ length past
below_both k st past e None there = absurd (contains_none k there)
below_both k st past e (Some text) there = by (contains_cases (record { number = next_job st past; at = length past; reading = e.reading; command = st.read text }) [] k there) where
  by : (record { number = next_job st past; at = length past; reading = e.reading; command = st.read text } ≡ k) ⊎ Contains [] k → k.at ≡ length past
  by (inl same) = ap (λ (z : Job). z.at) (sym same)
  by (inr none) = absurd (contains_none k none)

one_further : (a n : ℕ) → a < n → a < suc n
one_further a n less = omega (arith, less)

just_there : (a n : ℕ) → a ≡ n → a < suc n
just_there a n same = omega (arith, same)

-- A job came in an entry of its trace.
job_came : (st : Setting) (es : Trace) (k : Job) → Contains (jobs st es) k → k.at < length es
job_came st [] k there = absurd (contains_none k there)
job_came st (e ∷ es) k there = by (λ old. job_came st es k old) (contains_append (jobs st es) (job_in st es (next_job st es) e) k there) where
  by : (Contains (jobs st es) k → k.at < length es) → Contains (jobs st es) k ⊎ Contains (job_in st es (next_job st es) e) k → k.at < suc (length es)
  by rest (inl old) = one_further k.at (length es) (rest old)
  by rest (inr new) = just_there k.at (length es) (below_both k st es e (line_in e.input) new)

abbrev is_acquire : Command → Bool
is_acquire (Acquire r shared p persistent) = true
is_acquire c = false

same_job : (o : Option ℕ) (n : ℕ) → some_is (λ j. j == n) o ≡ true → o ≡ Some n
same_job o n is = let v = some_is_true (λ j. j == n) o is in v.1 ∙ ap (λ j. Some j) (eqb-true v.0 n v.2)

-- ---- all of it

pub others_keep_course : OthersKeepCourse
others_keep_course st past e q stage setting host asked c b = (
  record {
    call = c.call;
    older = c.older;
    command = command;
    runs = runs;
    calls = calls;
    lease = lease;
    waits = c.waits;
    is = c.is;
    done = c.done;
    session = session;
    active = b.active;
    self = self;
    name = c.name;
    turn = c.turn;
    mode = c.mode;
  },
  refl,
) where
  t : Trace
  t = e ∷ past

  j : ℕ
  j = q.job

  s : Session
  s = q.session

  at : Spot
  at = spot_of q.resource

  d : Submitted
  d = c.call

  host_before : IsHostTrace st past
  host_before = (host.0.1, host.1.1)

  well : Lawful st t × IsCaused st t × NoIdleJob st t
  well = due_is_lawful st t setting host

  law : Lawful st t
  law = well.0

  before : Holds st past
  before = traces_hold st past setting host_before

  facts : Facts st past None
  facts = before.whole.facts

  command : command_numbered st t j ≡ Some (Acquire q.resource q.shared q.process q.persistent)
  command = command_stays st e past j (Acquire q.resource q.shared q.process q.persistent) c.command

  session : session_numbered st t s.number ≡ Some s
  session = session_more st e past s.number s c.session

  joined : is_joined past s ≡ true
  joined = (and_true (is_joined past s) (is_none (recovery_of st past s)) (and_true (is_joined past s && is_none (recovery_of st past s)) (is_none (leaving_job st past s)) c.active).0).0

  self : me t s ≡ q.same.self
  self =
      let k = some_there (joined_after past s) (and_true (is_some (joined_after past s)) (is_none (removed_after past s)) joined).0 in
      ap (λ g. record { id = s.id; generation = g }) (generation_stays st (e ∷ []) past s k.0 law.orderly c.session k.1) ∙ c.self

  -- ---- the lease's calls

  in_lease : Contains (lease_calls st past s at) d
  in_lease = subst (λ ms. Contains ms d) (sym c.lease) (contains_first d (c.older ++ q.before))

  of_lease : (m : Submitted) → Contains (lease_calls st past s at) m → Contains (calls_of past s) m × ((is_lease_call m && is_on st.layout at m.call) ≡ true)
  of_lease m there = kept_inside (λ (x : Submitted). is_lease_call x && is_on st.layout at x.call) (calls_of past s) m there

  in_trace : (m : Submitted) → Contains (lease_calls st past s at) m → Contains (submitted past) m
  in_trace m there = (kept_inside (is_call_of s) (submitted past) m (of_lease m there).0).0

  parts : (m : Submitted) → Contains (lease_calls st past s at) m → (is_lease_call m ≡ true) × (is_on st.layout at m.call ≡ true)
  parts m there = and_true (is_lease_call m) (is_on st.layout at m.call) (of_lease m there).1

  even_base : at.base % st.layout.area ≡ 0
  even_base = eqb-true (at.base % st.layout.area) 0 (and_true (at.base % st.layout.area == 0) (nat_lt at.base (10 ^ 12)) asked.base).0

  on_it : (m : Submitted) → Contains (lease_calls st past s at) m → spot_of_call st.layout m ≡ at
  on_it m there = spot_is st.layout at m even_base (parts m there).1

  at_work : IsAtWork st past s at d
  at_work =
      record {
        base = asked.base;
        there = in_lease;
        waits = c.waits;
        works = works q stage d c.is;
        only = λ m there waits. ap (λ (x : Submitted). x.call.number)
            (facts.turns.one m d (in_trace m there) (in_trace d in_lease) (inl waits) (inl c.waits) (lease_is_work m.call.purpose (parts m there).0) (lease_is_work d.call.purpose (parts d in_lease).0)
            (on_it m there ∙ sym (on_it d in_lease)));
      }

  stay : lease_calls st t s at ≡ lease_calls st past s at
  stay = leases_stay st past e s at d law session at_work b.others

  lease : lease_calls st t s at ≡ d ∷ (c.older ++ q.before)
  lease = stay ∙ c.lease

  -- ---- the job's calls

  in_later : Contains (lease_calls st t s at) d
  in_later = subst (λ ms. Contains ms d) (sym stay) in_lease

  of_later : Contains (calls_of t s) d × ((is_lease_call d && is_on st.layout at d.call) ≡ true)
  of_later = kept_inside (λ (x : Submitted). is_lease_call x && is_on st.layout at x.call) (calls_of t s) d in_later

  there_later : Contains (submitted t) d × ((d.call.session == s.number) ≡ true)
  there_later = kept_inside (is_call_of s) (submitted t) d of_later.0

  acquires : AcquireFacts st t s q.resource j
  acquires =
      acquires_keep_to_theirs st t s q.resource j setting host (inr (q.shared, q.process, q.persistent, command))
      (inr (d, there_later.0, of_job q stage d c.is, eqb-true d.call.session s.number there_later.1))

  mine_before : (m : Submitted) → Contains (submitted past) m → is_of_job j m ≡ true → m.answer ≡ None → m ≡ d
  mine_before m there mine waits = by (contains_cases d c.older m (subst (λ ms. Contains ms m) c.calls (kept (is_of_job j) (submitted past) m mine there))) where
    by : (d ≡ m) ⊎ Contains c.older m → m ≡ d
    by (inl same) = sym same
    by (inr old) = absurd (has_answer q (stages_before stage) c.older m c.done old waits)

  none_new_of_job : (x : Call) → Contains e.effects.calls x → true ≡ true → is_of_job j (new_call (length past) e.reading x) ≡ true → ⊥
  none_new_of_job x there tt_is mine =
      let m : Submitted = new_call (length past) e.reading x in
      let fits = acquires.fits m (new_inside (length past) e.reading e.effects.calls (mark past e e.input (submitted past)) x there) mine in
      never_now (length past) (facts.calls.made m (in_trace m (subst (λ ms. Contains ms m) stay fits.2)))

  calls : job_calls t j ≡ d ∷ c.older
  calls =
      job_calls_are t j
      ∙ (none_new (λ m. true) (is_of_job j) (length past) e.reading e.effects.calls (mark past e e.input (submitted past)) none_new_of_job
      ∙ (marked_by (λ m. true) (is_of_job j) past e e.input (λ m n same. refl) (λ m n same. ap (λ (x : Call). some_is (λ i. i == j) (job_of x.purpose)) same) (submitted past)
      (λ n a told m there any mine number waits. b.others n a told (sym number ∙ ap (λ (x : Submitted). x.call.number) (mine_before m there mine waits)))
      ∙ (sym (job_calls_are past j) ∙ c.calls)))

  -- ---- no reply

  its : (k : Job) × (job_numbered st t j ≡ Some k) × (command_of k ≡ Some (Acquire q.resource q.shared q.process q.persistent))
  its = then_value command_of (job_numbered st t j) (Acquire q.resource q.shared q.process q.persistent) command

  was : (k : Job) × (job_numbered st past j ≡ Some k) × (command_of k ≡ Some (Acquire q.resource q.shared q.process q.persistent))
  was = then_value command_of (job_numbered st past j) (Acquire q.resource q.shared q.process q.persistent) c.command

  x : Answering
  x = record { setting = st; past = past; entry = e; job = its.0 }

  number : (its.0).number ≡ j
  number = eqb-true (its.0).number j (find_inside (λ (k : Job). k.number == j) (jobs st t) its.0 its.1).1

  one_job : was.0 ≡ its.0
  one_job = one_value was.0 its.0 (job_numbered st t j) (numbered_stays st e past j was.0 was.1) its.1

  acquires_before : AcquireFacts st past s q.resource j
  acquires_before =
      acquires_keep_to_theirs st past s q.resource j setting host_before (inr (q.shared, q.process, q.persistent, c.command))
      (inr (d, in_trace d in_lease, of_job q stage d c.is, eqb-true d.call.session s.number (kept_inside (is_call_of s) (submitted past) d (of_lease d in_lease).0).1))

  no_other : (z : Command) → command_numbered st past j ≡ Some z → is_acquire z ≡ false → ⊥
  no_other z is not_one = true_is_false (ap (λ y. is_acquire y) (one_value (Acquire q.resource q.shared q.process q.persistent) z (command_numbered st past j) c.command is) ∙ not_one)

  unanswered : (m : Submitted) (a : Answer) → AnswersCall x m a → ⊥
  unanswered m a h = by (contains_cases d c.older m (subst (λ ms. Contains ms m) calls (kept (is_of_job j) (submitted t) m (subst (λ n. is_of_job n m ≡ true) number h.of_job) h.submitted_before))) where
    by : (d ≡ m) ⊎ Contains c.older m → ⊥
    by (inl same) = none_some h.answered.0 (sym c.waits ∙ (ap (λ (y : Submitted). y.answer) same ∙ h.answered.1))
    by (inr old) =
        let there : Contains (submitted past) m = (kept_inside (is_of_job j) (submitted past) m (subst (λ ms. Contains ms m) (sym c.calls) (contains_more d c.older m old))).0 in
        never_now (length past) (subst (λ n. n < length past) h.answered.2 (facts.calls.later m h.answered.0 there h.answered.1).1)

  waits : waiting_call past j ≡ Some d
  waits = by (waiting_call past j) refl where
    d_open : Contains (outstanding past) d
    d_open = kept (λ (m : Submitted). is_none m.answer) (submitted past) d (ap (λ o. is_none o) c.waits) (in_trace d in_lease)

    by : (o : Option Submitted) → waiting_call past j ≡ o → o ≡ Some d
    by None none = absurd (true_is_false (sym (of_job q stage d c.is) ∙ find_fails (is_of_job j) (outstanding past) d none d_open))
    by (Some m) found =
        let inside = find_inside (is_of_job j) (outstanding past) m found in
        let opens = kept_inside (λ (y : Submitted). is_none y.answer) (submitted past) m inside.0 in
        ap (λ y. Some y) (mine_before m opens.0 inside.1 (none_is m.answer opens.1))

  sessions_have : Contains (sessions st past) s
  sessions_have = got_inside (sessions st past) s.number s c.session

  the_one : the_session x ≡ Some s
  the_one =
      session_then x (Acquire q.resource q.shared q.process q.persistent) s before.whole sessions_have joined (command_read its.0 (Acquire q.resource q.shared q.process q.persistent) its.2)
      (ap (λ n. Some n) (sym asked.lockspace))

  alone : IsLeftAlone x q.resource q.shared q.process q.persistent d
  alone =
      record {
        command = command_read its.0 (Acquire q.resource q.shared q.process q.persistent) its.2;
        earlier = λ now. never_now (length past)
            (subst (λ n. n < length past) (ap (λ (k : Job). k.at) one_job ∙ now) (job_came st past was.0 (find_inside (λ (k : Job). k.number == j) (jobs st past) was.0 was.1).0));
        unanswered = unanswered;
        in_time = record {
          waits = ap (λ n. waiting_call past n) number ∙ waits;
          timely = b.timely;
          active = λ z is. subst (λ y. IsTrue (is_active st t y)) (one_value s z (the_session x) the_one is) b.active;
        };
        stays = b.stays;
        childless = ap (λ n. child_of_job past n) number ∙ acquires_before.childless;
        startless = λ p is.
            let k = then_value (λ (y : Child). y.job) (child_numbered past p) (its.0).number is in
            let f = facts.jobs.starts k.0 j (find_inside (λ (y : Child). y.process == p) (children past) k.0 k.1).0 (k.2 ∙ ap (λ n. Some n) number) in
            no_other (RunProgram f.0 f.1 f.2) f.3 refl;
        joinless = λ z is.
            let f = find_inside (λ (y : Session). some_is (λ i. i == (its.0).number) y.job) (sessions st past) z is in
            let g = facts.jobs.joins z j f.0 (same_job z.job (its.0).number f.1 ∙ ap (λ n. Some n) number) in
            no_other (AddLockspace g.0) g.1 refl;
      }

  denied : (a : JobReply) → find (λ (y : JobReply). y.job == j) e.effects.replies ≡ Some a → ⊥
  denied a found =
      let inside = find_inside (λ (y : JobReply). y.job == j) e.effects.replies a found in
      let same : a.job ≡ j = eqb-true a.job j inside.1 in
      let k = (well.1).0.running a inside.0 in
      let one : k.0 ≡ its.0 = one_value k.0 its.0 (job_numbered st t j) (subst (λ n. job_numbered st t n ≡ Some k.0) same k.1) its.1 in
      nothing_is_caused.alone x q.resource q.shared q.process q.persistent d alone a.reply
      (subst (λ (y : Job). CausedBy (record { setting = st; past = past; entry = e; job = y }) a.reply) one k.3)

  runs : reply_to t j ≡ None
  runs = by (find (λ (a : JobReply). a.job == j) e.effects.replies) refl where
    by : (o : Option JobReply) → find (λ (a : JobReply). a.job == j) e.effects.replies ≡ o → reply_to t j ≡ None
    by None none = replied_by j past e (reply_to past j) (find (λ (a : JobReply). a.job == j) e.effects.replies) c.runs refl none
    by (Some a) found = absurd (denied a found)
