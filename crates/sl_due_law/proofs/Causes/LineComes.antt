-- What the entry of a line does, by what its command came to; and what the entry of an exit does to the jobs of the process.
use Rattle.sl_due_facts.specs.Acts.TraceSoFar.{entry_of}
use Rattle.sl_due.specs.Due.{IsDue, after_input, before_input, due, due_step}
use Rattle.sl_due.specs.DueCommands.{answer_line, carry_command, carry_decision, carry_line, decided, reply_at_once}
use Rattle.sl_due.specs.DueInputs.{leave_holdings, on_exit, refuse_jobs_of, take_input}
use Rattle.sl_due.specs.DueWake.{finish}
use Rattle.sl_due.specs.Steps.{Step, begin_step, seen, when, with_input}
use Rattle.sl_due.specs.declared.decision.Decision.{Decision}
use Rattle.sl_due.specs.declared.decision.Decision.TheVariants.{Replies}
use Rattle.sl_due_law.proofs.Causes.AtOnceAreCaused.{at_once_is}
use Rattle.sl_due_law.proofs.Causes.HeadsAreEarly.{heads_are_early, last_is_silent}
use Rattle.sl_due_law.proofs.Causes.LeavingsRefuse.{line_reads}
use Rattle.sl_due_law.proofs.Causes.LinesAreWell.{line_done}
use Rattle.sl_due_law.proofs.Causes.PlainMakings.{Adds, NoStart, PlainCall, adds, adds_nothing}
use Rattle.sl_due_law.proofs.Causes.ToldProcesses.{carried_told, child_stays}
use Rattle.sl_due_leases.proofs.Grants.EndsAreLawful.{StandsAt, left_ending}
use Rattle.sl_due_leases.proofs.Grants.WorksByExits.{ran_on}
use Rattle.sl_due_facts.proofs.Jobs.CallsHaveFacts.{find_mapped}
use Rattle.sl_due_facts.proofs.Jobs.EffectsAreAllowed.{left}
use Rattle.sl_due_facts.proofs.Jobs.JobsAreNumbered.{found_before, next_before, numbered_stays}
use Rattle.sl_due_facts.proofs.Jobs.NearlyPlainActs.{AnyMove, Anything}
use Rattle.sl_due_facts.proofs.Jobs.QuietFactsAreKept.{loop_stops}
use Rattle.sl_due_law.specs.Causes.CauseFacts.{IsTold}
use Rattle.sl_due_law.specs.Causes.LineCauses.{IsBeforeInput}
use Rattle.sl_due_facts.specs.Facts.AllFacts.{WholeTrace}
use Rattle.sl_trace.specs.Jobs.{child_of_job, is_command_that, is_job_of_process, process_named}
use Rattle.sl_words.proofs.Lists.{contains_none, find_inside, kept}
use Rattle.sl_words.proofs.Numbers.{number_itself}
use Rattle.sl_trace.specs.Traces.{Child, Job, Setting, Trace, child_after, children, is_running, job_numbered, jobs, new_child, next_job, no_effects, no_process, running_jobs}
use Rattle.sl_trace.specs.declared.command.Command.{Command}
use Rattle.sl_trace.specs.declared.effects.Effects.{Effects}
use Rattle.sl_trace.specs.declared.effects.End.{End}
use Rattle.sl_trace.specs.declared.effects.Entry.{Entry}
use Rattle.sl_trace.specs.declared.effects.JobReply.{JobReply}
use Rattle.sl_trace.specs.declared.effects.Start.{Start}
use Rattle.sl_trace.specs.declared.input.Input.{Input}
use Rattle.sl_trace.specs.declared.input.Input.TheVariants.{Exit, Line, Wake}
use Rattle.sl_trace.specs.declared.reply.Reply.{Reply}
use Rattle.sl_trace.specs.declared.reply.Reply.TheVariants.{NoProcess}
use Rattle.sl_words.proofs.CaseLaws.{is_false, none_some, not_both}
use Rattle.sl_words.specs.Results.{◌>>=◌}
use Rattle.sl_words.specs.Words.{some_is}
use Rattle.std.proofs.Common.{ap, refl, subst, sym, ◌∙◌}
use Rattle.std.proofs.lemmas.Bool.{eqb-true}
use Rattle.std.specs.Prelude.{Bool, Contains, List, None, Ok, Option, Result, Some, false, filter, find, map, not, option_map, true, ℕ, ◌++◌, ◌==◌, ◌||◌, ◌∷◌, ◌≡◌}

-- ---- a line

-- The step of the line with this command, before its input, and what comes after it.
pub record LineComes (st : Setting) (past : Trace) (e : Entry) (text : List ℕ) (c : Command) : Type 0 where
  pub first : Step
  pub is_first : first ≡ before_input (begin_step st past e.reading)
  pub head : IsBeforeInput st past e.reading first
  pub number : next_job first.setting (seen first) ≡ next_job st past
  pub comes : e.effects ≡ (finish (carry_command text (next_job first.setting (seen first)) c (decided first.setting (seen first) first.reading c) first)).effects

pub line_comes : (st : Setting) (past : Trace) (e : Entry) (text : List ℕ) (c : Command) → WholeTrace st past → IsDue st past e → e.input ≡ Line text → st.read text ≡ Ok c → LineComes st past e text c
line_comes st past e text c w due_so line says =
    record {
      first = x;
      is_first = refl;
      head = h;
      number = next_before x h.early.wake ∙ (ap (λ g. next_job g x.past) h.setting ∙ ap (λ p. next_job st p) h.before);
      comes =
          line_done st past e text due_so line
          ∙ (ap (λ s. (finish s).effects) (line_reads x text) ∙ ap (λ q. (finish (lined q)).effects) (ap (λ (g : Setting). g.read text) h.setting ∙ says));
    } where
      x : Step
      x = before_input (begin_step st past e.reading)

      h : IsBeforeInput st past e.reading x
      h = heads_are_early st past e.reading w

      lined : Result Command ℕ → Step
      lined o = carry_line text (next_job x.setting (seen x)) (o >>= (λ c. Ok (c, decided x.setting (seen x) x.reading c))) x

-- What is answered at once was decided before the input.
pub decided_first : (st : Setting) (past : Trace) (e : Entry) (text : List ℕ) (c : Command) → (k : LineComes st past e text c) → (r : Reply) → decided k.first.setting (seen k.first) k.first.reading c ≡ Replies r
    → decided st (seen (before_input (begin_step st past e.reading))) e.reading c ≡ Replies r
decided_first st past e text c k r is =
    subst (λ z. decided st (seen z) e.reading c ≡ Replies r) k.is_first
    (sym (ap (λ g. decided g (seen k.first) k.first.reading c) k.head.setting ∙ ap (λ m. decided st (seen k.first) m c) k.head.reading) ∙ is)

-- By whether it is answered at once.
pub data LineTakes (st : Setting) (past : Trace) (e : Entry) (text : List ℕ) (c : Command) (x : Step) (n : ℕ) : Type 0 where
  At_once : (r : Reply) → decided x.setting (seen x) x.reading c ≡ Replies r → e.effects ≡ (finish (answer_line text n r x)).effects → LineTakes st past e text c x n
  Carried : (d : Decision) → decided x.setting (seen x) x.reading c ≡ d → reply_at_once d ≡ None → e.effects ≡ (finish (carry_decision n c d (with_input (Line text) x))).effects → LineTakes st past e text c x n

pub line_takes : (st : Setting) (past : Trace) (e : Entry) (text : List ℕ) (c : Command) → (k : LineComes st past e text c) → LineTakes st past e text c k.first (next_job k.first.setting (seen k.first))
line_takes st past e text c k = by (reply_at_once d) refl where
  x : Step
  x = k.first

  n : ℕ
  n = next_job x.setting (seen x)

  d : Decision
  d = decided x.setting (seen x) x.reading c

  carries : Option Reply → Step
  carries q = elim q as (λ z. Step) [ Some r ↦ answer_line text n r x | None ↦ carry_decision n c d (with_input (Line text) x) ]

  is_of : (q : Option Reply) → reply_at_once d ≡ q → e.effects ≡ (finish (carries q)).effects
  is_of q is = k.comes ∙ ap (λ z. (finish (carries z)).effects) is

  by : (q : Option Reply) → reply_at_once d ≡ q → LineTakes st past e text c x n
  by (Some r) is = At_once r (at_once_is d r is) (is_of (Some r) is)
  by None is = Carried d refl is (is_of None is)

-- Where a line ends something its process is told.
pub ending_told : (st : Setting) (past : Trace) (e : Entry) (text : List ℕ) (c : Command) (p : ℕ) (y : End) → WholeTrace st past → IsDue st past e → e.input ≡ Line text → st.read text ≡ Ok c → process_named c ≡ Some p
    → Contains e.effects.ends y → IsTold past p
ending_told st past e text c p y w due_so line says names there = by (line_takes st past e text c k) where
  k : LineComes st past e text c
  k = line_comes st past e text c w due_so line says

  x : Step
  x = k.first

  by : LineTakes st past e text c x (next_job x.setting (seen x)) → IsTold past p
  by (At_once r is done) =
      let z : Step = answer_line text (next_job x.setting (seen x)) r x in
      let ends : e.effects.ends ≡ x.effects.ends = ap (λ (f : Effects). f.ends) done ∙ (last_is_silent z).ends in
      absurd (contains_none y (subst (λ es. Contains es y) (ends ∙ k.head.early.unended) there))
  by (Carried d is more done) = subst (λ t. IsTold t p) k.head.before (carried_told x c d p k.head.early.wake is more names)

-- ---- an exit

exit_at : (st : Setting) (past : Trace) (now p : ℕ) → (p == no_process) ≡ false
    → due_step st past now (Exit p) ≡ finish (refuse_jobs_of p (leave_holdings p (with_input (Exit p) (before_input (begin_step st past now)))))
unfolding due_step after_input take_input on_exit
exit_at st past now p one = ap (λ b. finish (when (not b) (λ z. refuse_jobs_of p (leave_holdings p z)) (with_input (Exit p) (before_input (begin_step st past now))))) one

exit_done : (st : Setting) (past : Trace) (e : Entry) (p : ℕ) → IsDue st past e → e.input ≡ Exit p → (p == no_process) ≡ false
    → e.effects ≡ (finish (refuse_jobs_of p (leave_holdings p (with_input (Exit p) (before_input (begin_step st past e.reading)))))).effects
unfolding due
exit_done st past e p due_so input one = due_so ∙ (ap (λ i. (due_step st past e.reading i).effects) input ∙ ap (λ (s : Step). s.effects) (exit_at st past e.reading p one))

-- A job that waits for the process as its child runs no more.
refused_child : (z : Step) (p j : ℕ) (i : Job) → job_numbered z.setting (seen z) j ≡ Some i → child_of_job (seen z) j ≡ Some p → is_running (seen (refuse_jobs_of p z)) j ≡ false
refused_child z p j i found child = is_false (is_running (seen (refuse_jobs_of p z)) j) never where
  f : Contains (jobs z.setting (seen z)) i × ((i.number == j) ≡ true)
  f = find_inside (λ (k : Job). k.number == j) (jobs z.setting (seen z)) i found

  number : i.number ≡ j
  number = eqb-true i.number j f.1

  its : is_job_of_process (seen z) p i ≡ true
  its = by (is_command_that (λ c. some_is (λ q. q == p) (process_named c)) i) (ap (λ o. some_is (λ q. q == p) o) (ap (λ n. child_of_job (seen z) n) number ∙ child) ∙ number_itself p) where
    by : (b : Bool) → some_is (λ q. q == p) (child_of_job (seen z) i.number) ≡ true → (b || some_is (λ q. q == p) (child_of_job (seen z) i.number)) ≡ true
    by true is = refl
    by false is = is

  never : is_running (seen (refuse_jobs_of p z)) j ≡ true → ⊥
  never runs =
      let running : Contains (running_jobs z.setting (seen z)) i = kept (λ (k : Job). is_running (seen z) k.number) (jobs z.setting (seen z)) i (subst (λ n. is_running (seen z) n ≡ true) (sym number) (ran_on z p j runs)) f.0 in
      let there : Contains (filter (is_job_of_process (seen z) p) (running_jobs z.setting (seen z))) i = kept (is_job_of_process (seen z) p) (running_jobs z.setting (seen z)) i its running in
      not_both (is_running (seen (refuse_jobs_of p z)) j) runs
      (subst (λ n. is_running (seen (refuse_jobs_of p z)) n ≡ false) number (loop_stops (filter (is_job_of_process (seen z) p) (running_jobs z.setting (seen z))) (NoProcess p) z i there))

child_still : (past : Trace) (i : Input) (ks : List Start) (j p : ℕ) → child_of_job past j ≡ Some p
    → option_map (λ (k : Child). k.process) (find (λ (k : Child). some_is (λ n. n == j) k.job) (map (child_after i) (children past) ++ map new_child ks)) ≡ Some p
child_still past i ks j p is = by (find mine (children past)) refl is where
  mine : Child → Bool
  mine k = some_is (λ n. n == j) k.job

  by : (o : Option Child) → find mine (children past) ≡ o → option_map (λ (k : Child). k.process) o ≡ Some p → option_map (λ (k : Child). k.process) (find mine (map (child_after i) (children past) ++ map new_child ks)) ≡ Some p
  by None none has = absurd (none_some p has)
  by (Some k) found has =
      ap (λ o. option_map (λ (c : Child). c.process) o)
      (found_before mine (map (child_after i) (children past)) (map new_child ks) (child_after i k)
      (find_mapped mine (child_after i) (children past) (λ c. ap (λ o. some_is (λ n. n == j) o) (child_stays i c).1) ∙ ap (λ o. option_map (child_after i) o) found))
      ∙ (ap (λ n. Some n) (child_stays i k).0 ∙ has)

-- Who runs is said by the replies.
pub running_same : (a b : Entry) (past : Trace) (j : ℕ) → a.effects.replies ≡ b.effects.replies → is_running (a ∷ past) j ≡ is_running (b ∷ past) j
running_same a b past j same = ap (λ (rs : List JobReply). is_running (record { reading = 0; input = Wake; effects = record no_effects { replies = rs } } ∷ past) j) same

-- So the exit of a job's child ends the job.
pub exit_stops : (st : Setting) (past : Trace) (e : Entry) (p j : ℕ) (i : Job) → WholeTrace st past → IsDue st past e → e.input ≡ Exit p → (p == no_process) ≡ false → job_numbered st past j ≡ Some i → child_of_job past j ≡ Some p
    → is_running (e ∷ past) j ≡ false
exit_stops st past e p j i whole due_so input one numbered child =
    running_same e (entry_of u) past j (ap (λ (f : Effects). f.replies) (exit_done st past e p due_so input one) ∙ (last_is_silent u).replies)
    ∙ (ap (λ t. is_running (entry_of u ∷ t) j) (sym (stand.1 ∙ head.before)) ∙ refused_child z p j i its_job its_child)
  where
    x : Step
    x = before_input (begin_step st past e.reading)

    head : IsBeforeInput st past e.reading x
    head = heads_are_early st past e.reading whole

    w : Step
    w = with_input (Exit p) x

    z : Step
    z = leave_holdings p w

    u : Step
    u = refuse_jobs_of p z

    stand : StandsAt w u
    stand = (left_ending w p).stand

    added : Adds w z
    added = left (Adds w) (Adds w) Anything PlainCall NoStart AnyMove (adds w) w p (adds_nothing w)

    before : z.past ≡ past
    before = added.before ∙ head.before

    setting : z.setting ≡ st
    setting = added.setting ∙ head.setting

    its_job : job_numbered z.setting (seen z) j ≡ Some i
    its_job =
        numbered_stays z.setting (entry_of z) z.past j i
        (subst (λ t. job_numbered z.setting t j ≡ Some i) (sym before) (subst (λ q. job_numbered q past j ≡ Some i) (sym setting) numbered))

    its_child : child_of_job (seen z) j ≡ Some p
    its_child = child_still z.past z.input z.effects.starts j p (subst (λ t. child_of_job t j ≡ Some p) (sym before) child)
