-- An acquire's job keeps to its lease, starts no child, and does nothing before its line.
use Rattle.sl_due_leases.proofs.Holdings.LeaseCallers.{on_own_area}
use Rattle.sl_due_facts.proofs.Jobs.JobsAreNumbered.{number_below}
use Rattle.sl_due_law.proofs.LawfulTraces.BusyKept.{HoldsWaiting, traces_wait}
use Rattle.sl_due_facts.specs.Facts.JobFacts.{FitsCommand, JobFacts}
use Rattle.sl_due_facts.specs.Jobs.Acquires.{AcquiresKeepToTheirs, IsAcquire, IsCallerOf}
use Rattle.sl_due_law.specs.LawfulTraces.CarriedFacts.{Holds}
use Rattle.sl_trace.specs.Jobs.{child_of_job, command_numbered, command_of, resource_named}
use Rattle.sl_trace.specs.Leases.{is_lease_call, is_on, lease_calls, lease_step, spot_of, spot_of_call}
use Rattle.sl_words.proofs.Lists.{find_inside, got_inside, kept}
use Rattle.sl_words.proofs.Numbers.{number_itself}
use Rattle.sl_words.proofs.Options.{none_is, some_of, then_value}
use Rattle.sl_trace.specs.Sessions.{calls_of, is_call_of, session_numbered, sessions}
use Rattle.sl_trace.specs.declared.session.Session.{Session}
use Rattle.sl_trace.specs.Traces.{Child, Setting, Submitted, Trace, children, is_of_job, is_running, job_numbered, job_of, next_job, reply_to, submitted}
use Rattle.sl_trace.specs.declared.command.Command.TheVariants.{Acquire, AddLockspace, GetLvb, RemLockspace, Request, RunProgram, SetLvb}
use Rattle.sl_trace.specs.declared.command.Command.{Command}
use Rattle.sl_trace.specs.declared.effects.LeaseStep.{LeaseStep}
use Rattle.sl_trace.specs.declared.effects.Purpose.TheVariants.{Joining, Lease, Leaving, Renewal, RequestRead, RequestWrite, SeeRequest, Survey, ValueRead, ValueWrite}
use Rattle.sl_trace.specs.declared.effects.Purpose.{Purpose}
use Rattle.sl_trace.specs.declared.effects.Work.TheVariants.{ForJob, Settling}
use Rattle.sl_words.proofs.CaseLaws.{none_some, some_value, true_is_false}
use Rattle.sl_words.proofs.WordLaws.{some_is_true}
use Rattle.sl_words.specs.Words.{some_is}
use Rattle.std.proofs.Common.{ap, arith, inl, inr, refl, subst, sym, ◌∙◌}
use Rattle.std.proofs.lemmas.Bool.{eqb-true}
use Rattle.std.specs.Prelude.{Bool, Contains, IsTrue, None, Option, Some, false, find, is_some, option_map, true, ℕ, ◌&&◌, ◌<◌, ◌==◌, ◌≡◌, ◌≤◌}

never : (a b : ℕ) → a < b → b ≤ a → ⊥
never a b less le = omega (arith, less, le)

-- What has a command is below the next line's job.
known_below : (st : Setting) (t : Trace) (j : ℕ) (c : Command) → command_numbered st t j ≡ Some c → j < next_job st t
known_below st t j c is = let v = then_value command_of (job_numbered st t j) c is in number_below st t j v.0 v.1

of_job : (j : ℕ) (m : Submitted) → IsTrue (is_of_job j m) → job_of m.call.purpose ≡ Some j
of_job j m is = let v = some_is_true (λ k. k == j) (job_of m.call.purpose) is in v.1 ∙ ap (λ k. Some k) (eqb-true v.0 j v.2)

abbrev is_acquire : Command → Bool
is_acquire (Acquire r shared p persistent) = true
is_acquire c = false

other : {P : Type 0} (c d : Command) → c ≡ d → is_acquire c ≡ true → is_acquire d ≡ false → P
other c d same is others = absurd (true_is_false (sym is ∙ (ap (λ z. is_acquire z) same ∙ others)))

pub acquires_keep_to_theirs : AcquiresKeepToTheirs
acquires_keep_to_theirs st es s r j setting host acquire caller = record { fits = fits; childless = childless; unbegun = unbegun } where
  w : HoldsWaiting st es
  w = traces_wait st es setting host

  h : Holds st es
  h = w.holds

  jobs : JobFacts st es None
  jobs = h.whole.facts.jobs

  command : (c : Command) → command_numbered st es j ≡ Some c → (is_acquire c ≡ true) × (resource_named c ≡ Some r)
  command c is = by acquire where
    by : IsAcquire st es r j → (is_acquire c ≡ true) × (resource_named c ≡ Some r)
    by (inl later) = absurd (never j (next_job st es) (known_below st es j c is) later)
    by (inr a) =
        let same : Acquire r a.0 a.1 a.2 ≡ c = some_value (Acquire r a.0 a.1 a.2) c (sym a.3 ∙ is) in (sym (ap (λ z. is_acquire z) same), sym (ap (λ z. resource_named z) same))

  unbegun : next_job st es ≤ j → (reply_to es j ≡ None) × ((m : Submitted) → Contains (submitted es) m → IsTrue (is_of_job j m) → ⊥)
  unbegun later = (none_is (reply_to es j) (runs (is_running es j) refl), called) where
    runs : (b : Bool) → is_running es j ≡ b → is_running es j ≡ true
    runs true is = is
    runs false is = let k = some_of (job_numbered st es j) (jobs.replied j is) in absurd (never j (next_job st es) (number_below st es j k.0 k.1) later)

    called : (m : Submitted) → Contains (submitted es) m → IsTrue (is_of_job j m) → ⊥
    called m there of = let c = some_of (command_numbered st es j) (jobs.called m j there (of_job j m of)) in never j (next_job st es) (known_below st es j c.0 c.1) later

  childless : child_of_job es j ≡ None
  childless = by (find (λ (k : Child). some_is (λ i. i == j) k.job) (children es)) refl where
    by : (o : Option Child) → find (λ (k : Child). some_is (λ i. i == j) k.job) (children es) ≡ o → child_of_job es j ≡ None
    by None is = ap (λ o. option_map (λ (k : Child). k.process) o) is
    by (Some k) is =
        let f = find_inside (λ (k : Child). some_is (λ i. i == j) k.job) (children es) k is in
        let v = some_is_true (λ i. i == j) k.job f.1 in
        let starts = jobs.starts k j f.0 (v.1 ∙ ap (λ i. Some i) (eqb-true v.0 j v.2)) in
        absurd (true_is_false (sym (command (RunProgram starts.0 starts.1 starts.2) starts.3).0))

  -- what a call of the job is for
  on_work : (m : Submitted) → Contains (submitted es) m → IsTrue (is_of_job j m) → (step : LeaseStep) × (m.call.purpose ≡ Lease (ForJob j) step) × (spot_of_call st.layout m ≡ spot_of r)
  on_work m there of = by m.call.purpose refl (of_job j m of) (jobs.fits m j z.0 c.0 there (of_job j m of) z.1 c.1) where
    z : (z : Session) × (session_numbered st es m.call.session ≡ Some z)
    z = some_of (session_numbered st es m.call.session) (h.whole.facts.calls.owned m there)

    c : (c : Command) × (command_numbered st es j ≡ Some c)
    c = some_of (command_numbered st es j) (jobs.called m j there (of_job j m of))

    q : (is_acquire c.0 ≡ true) × (resource_named c.0 ≡ Some r)
    q = command c.0 c.1

    by : (p : Purpose) → m.call.purpose ≡ p → job_of p ≡ Some j → FitsCommand st z.0 m c.0 m.call.purpose
        → (step : LeaseStep) × (m.call.purpose ≡ Lease (ForJob j) step) × (spot_of_call st.layout m ≡ spot_of r)
    by (Lease (ForJob i) step) is its f =
        let g : FitsCommand st z.0 m c.0 (Lease (ForJob i) step) = subst (λ p. FitsCommand st z.0 m c.0 p) is f in
        let purpose : m.call.purpose ≡ Lease (ForJob j) step = is ∙ ap (λ i. Lease (ForJob i) step) (some_value i j its) in
        let same : g.0 ≡ r = some_value g.0 r (sym g.1 ∙ q.1) in (step, purpose, g.3.1 ∙ ap (λ a. spot_of a) same)
    by (Lease Settling step) is its f = absurd (none_some j its)
    by (Joining i step) is its f =
        let k : z.0.job ≡ Some i = subst (λ p. FitsCommand st z.0 m c.0 p) is f in
        let joins = jobs.joins z.0 j (got_inside (sessions st es) m.call.session z.0 z.1) (k ∙ its) in
        absurd (true_is_false (sym (command (AddLockspace joins.0) joins.1).0))
    by Renewal is its f = absurd (none_some j its)
    by Survey is its f = absurd (none_some j its)
    by SeeRequest is its f = absurd (none_some j its)
    by (Leaving i) is its f = (let g : FitsCommand st z.0 m c.0 (Leaving i) = subst (λ p. FitsCommand st z.0 m c.0 p) is f in other c.0 (RemLockspace g.0) g.1 q.0 refl)
    by (RequestRead i) is its f = (let g : FitsCommand st z.0 m c.0 (RequestRead i) = subst (λ p. FitsCommand st z.0 m c.0 p) is f in other c.0 (Request g.0 g.1 g.2) g.3 q.0 refl)
    by (RequestWrite i owner) is its f = (let g : FitsCommand st z.0 m c.0 (RequestWrite i owner) = subst (λ p. FitsCommand st z.0 m c.0 p) is f in other c.0 (Request g.0 g.1 g.2) g.3 q.0 refl)
    by (ValueWrite i) is its f = (let g : FitsCommand st z.0 m c.0 (ValueWrite i) = subst (λ p. FitsCommand st z.0 m c.0 p) is f in other c.0 (SetLvb g.0 g.1 g.2) g.3 q.0 refl)
    by (ValueRead i) is its f = (let g : FitsCommand st z.0 m c.0 (ValueRead i) = subst (λ p. FitsCommand st z.0 m c.0 p) is f in other c.0 (GetLvb g.0 g.1) g.2 q.0 refl)

  mine : (m : Submitted) → Contains (submitted es) m → IsTrue (is_of_job j m) → m.call.session ≡ s.number
  mine m there of = by caller where
    by : IsCallerOf es s j → m.call.session ≡ s.number
    by (inl none) = absurd (none m there of)
    by (inr d) = (let a = on_work m there of in let b = on_work d.0 d.1 d.2 in w.lore.one m d.0 j a.0 b.0 there d.1 a.1 b.1 ∙ d.3)

  fits : (m : Submitted) → Contains (submitted es) m → IsTrue (is_of_job j m) → (step : LeaseStep) × (m.call.purpose ≡ Lease (ForJob j) step) × Contains (lease_calls st es s (spot_of r)) m
  fits m there of =
      let a = on_work m there of in (
        a.0,
        a.1,
        kept (λ (d : Submitted). is_lease_call d && is_on st.layout (spot_of r) d.call) (calls_of es s) m
            (ap (λ b. b && is_on st.layout (spot_of r) m.call) (ap (λ p. is_some (lease_step p)) a.1) ∙ subst (λ at. is_on st.layout at m.call ≡ true) a.2 (on_own_area st m setting))
            (kept (is_call_of s) (submitted es) m (ap (λ n. n == s.number) (mine m there of) ∙ number_itself s.number) there),
      )
