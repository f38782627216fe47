-- The daemon after the line of a quiet acquire: it is at the read of the area.
use Rattle.sl_area.specs.AreaLayout.{area_sectors, in_area}
use Rattle.sl_due.specs.Due.{IsHostTrace}
use Rattle.sl_due.specs.CarriedLease.{read_area}
use Rattle.sl_due.specs.Steps.{Step, seen, with_input}
use Rattle.sl_due_law.proofs.Causes.HeadsAreEarly.{heads_are_early}
use Rattle.sl_due_law.proofs.DueIsLawful.{due_is_lawful}
use Rattle.sl_due_facts.proofs.Jobs.JobsAreNumbered.{finds_none, line_is, next_is_new}
use Rattle.sl_due_law.proofs.LawfulTraces.AcquiresKeep.{acquires_keep_to_theirs}
use Rattle.sl_due_law.proofs.LawfulTraces.TracesHold.{traces_hold}
use Rattle.sl_due_law.specs.Causes.LineCauses.{IsBeforeInput}
use Rattle.sl_due_facts.specs.Facts.AllFacts.{Facts}
use Rattle.sl_due_facts.specs.Jobs.Acquires.{AcquireFacts}
use Rattle.sl_run.specs.Lawful.{IsSetting, Lawful}
use Rattle.sl_trace.specs.Jobs.{command_numbered, command_of}
use Rattle.sl_trace.specs.LeaseDecisions.{LeasePlace, lease_place}
use Rattle.sl_trace.specs.Leases.{is_lease_call, is_on, lease_calls, lease_step, spot_of}
use Rattle.sl_words.proofs.Lists.{contains_first, contains_more, filter_both, kept_inside}
use Rattle.sl_words.proofs.Numbers.{number_itself}
use Rattle.sl_words.proofs.Options.{some_of, some_there}
use Rattle.sl_headline.proofs.Quiet.Events.Places.{leader_within}
use Rattle.sl_headline.proofs.Quiet.Events.Calls.{of_the_job}
use Rattle.sl_headline.proofs.Quiet.Events.DecisionsAreCarriedOut.{one_lease_new}
use Rattle.sl_headline.proofs.Quiet.Events.OtherEntries.{new_inside}
use Rattle.sl_headline.proofs.Quiet.Step.BeforeInput.{bare_before}
use Rattle.sl_headline.specs.Quiet.Events.CarriedStages.{Asked, DaemonOnCourse, IsCallAt, Reads_area}
use Rattle.sl_headline.specs.Quiet.Step.AnswersLeadOn.{DoesAs, IsBare, begun, lease_part}
use Rattle.sl_run.specs.Quiet.{job_calls}
use Rattle.sl_run_law.proofs.Place.Sizes.{IsSized, sized}
use Rattle.sl_safety.proofs.Ballot.ReasonNames.{generation_stays}
use Rattle.sl_sector.specs.declared.sector.Owner.{Owner}
use Rattle.sl_trace.specs.Sessions.{is_active, is_call_of, is_joined, joined_after, me, removed_after, session_numbered}
use Rattle.sl_trace.specs.declared.session.Session.{Session}
use Rattle.sl_trace.specs.Traces.{Replied, Setting, Submitted, Trace, is_of_job, is_running, job_numbered, job_of, mark, new_call, next_call, next_job, reply_in, reply_to, submitted}
use Rattle.sl_trace.specs.declared.command.Command.TheVariants.{Acquire}
use Rattle.sl_trace.specs.declared.command.Command.{Command}
use Rattle.sl_trace.specs.declared.effects.Call.{Call}
use Rattle.sl_trace.specs.declared.effects.Entry.{Entry}
use Rattle.sl_trace.specs.declared.effects.JobReply.{JobReply}
use Rattle.sl_trace.specs.declared.effects.LeaseStep.TheVariants.{ReadArea}
use Rattle.sl_trace.specs.declared.effects.Op.TheVariants.{ReadSectors}
use Rattle.sl_trace.specs.declared.effects.Purpose.TheVariants.{Lease}
use Rattle.sl_trace.specs.declared.effects.Spot.{Spot}
use Rattle.sl_trace.specs.declared.effects.Work.TheVariants.{ForJob}
use Rattle.sl_trace.specs.declared.input.Input.TheVariants.{Line}
use Rattle.sl_run_law.proofs.Sessions.SessionNames.{same_name}
use Rattle.sl_run_law.proofs.Sessions.CallOwners.{session_more}
use Rattle.sl_words.proofs.CaseLaws.{none_some}
use Rattle.sl_words.proofs.WordLaws.{and_true, some_is_true}
use Rattle.std.proofs.Common.{ap, arith, inl, inr, refl, subst, sym, ◌∙◌}
use Rattle.std.proofs.lemmas.Bool.{eqb-true}
use Rattle.std.specs.Prelude.{Bool, Contains, IsSome, IsTrue, List, None, Ok, Option, Result, Some, [], bytes_eq, cond, false, filter, find, fold, is_none, is_some, length, option_and_then, option_map, true, ℕ, ◌&&◌, ◌++◌, ◌<◌, ◌==◌, ◌∷◌, ◌≡◌}

-- ---- small laws

both_true : (b c : Bool) → b ≡ true → c ≡ true → (b && c) ≡ true
both_true b c is its = ap (λ t. t && c) is ∙ its

none_kept : {A : Type 0} (p : A → Bool) (xs : List A) → ((a : A) → Contains xs a → p a ≡ true → ⊥) → filter p xs ≡ []
none_kept p [] h = refl
none_kept p (x ∷ xs) h = by (p x) refl (none_kept p xs (λ a there. h a (contains_more x xs a there))) where
  by : (b : Bool) → p x ≡ b → filter p xs ≡ [] → filter p (x ∷ xs) ≡ []
  by true is rest = absurd (h x (contains_first x xs) is)
  by false is rest = ap (λ b. cond b (x ∷ filter p xs) (filter p xs)) is ∙ rest

less_apart : (a j : ℕ) → a < j → (a == j) ≡ false
less_apart a j less = by (a == j) refl where
  by : (b : Bool) → (a == j) ≡ b → (a == j) ≡ false
  by false is = is
  by true is = absurd (never a j less (eqb-true a j is)) where
    never : (a j : ℕ) → a < j → a ≡ j → ⊥
    never a j less same = omega (arith, less, same)

none_is_none : {A : Type 0} (o : Option A) (b : Bool) → is_none o ≡ b → (b ≡ false → ⊥) → o ≡ None
none_is_none None b is h = refl
none_is_none (Some a) b is h = absurd (h (sym is))

-- ---- the daemon

-- The daemon, the line and the session.
pub record Begins (st : Setting) (past : Trace) (e : Entry) (q : Asked) (text : List ℕ) : Type 0 where
  pub setting : IsSetting st
  pub host : IsHostTrace st (e ∷ past)
  pub input : e.input ≡ Line text
  pub does : DoesAs e.effects
      (read_area q.session (spot_of q.resource) (ForJob (next_job st past)) (ReadArea q.resource.name) (with_input (Line text) (begun st past e.reading)))
  pub line : st.read text ≡ Ok (Acquire q.resource q.shared q.process q.persistent)
  pub job : q.job ≡ next_job st past
  pub place : q.same.place ≡ lease_place st q.session
  pub self : me past q.session ≡ q.same.self
  pub before : lease_calls st past q.session (spot_of q.resource) ≡ q.before
  pub session : session_numbered st past q.session.number ≡ Some q.session
  pub joined : is_joined past q.session ≡ true
  pub active : IsTrue (is_active st (e ∷ past) q.session)

pub starts_course : (st : Setting) (past : Trace) (e : Entry) (q : Asked) (text : List ℕ) → Begins st past e q text → (d : DaemonOnCourse st (e ∷ past) q Reads_area) × (d.call.at ≡ length past)
starts_course st past e q text b = (
  record {
    call = call;
    older = [];
    command = command;
    runs = runs;
    calls = calls;
    lease = lease;
    waits = refl;
    mode = tt;
    is = is (length past) e.reading;
    done = tt;
    session = session_more st e past s.number s b.session;
    active = b.active;
    self = self;
    name = inl refl;
    turn = λ paired. inl refl;
  },
  refl,
) where
  j : ℕ
  j = q.job

  s : Session
  s = q.session

  at : Spot
  at = spot_of q.resource

  t : Trace
  t = e ∷ past

  y : Step
  y = begun st past e.reading

  bare_y : IsBare st past e.reading y
  bare_y = bare_before st past e.reading

  host_before : IsHostTrace st past
  host_before = (b.host.0.1, b.host.1.1)

  facts : Facts st past None
  facts = (traces_hold st past b.setting host_before).whole.facts

  law : Lawful st t
  law = (due_is_lawful st t b.setting b.host).0

  next_is : (n : ℕ) → Call
  next_is n = record { number = next_call y.setting (seen (with_input (Line text) y)); session = s.number; purpose = Lease (ForJob n) (ReadArea q.resource.name); path = q.resource.path; offset = q.resource.offset; op = ReadSectors (area_sectors y.setting.layout) }

  led : Call
  led = next_is (next_job st past)

  call : Submitted
  call = new_call (length past) e.reading led

  layout : y.setting.layout ≡ st.layout
  layout = ap (λ (k : Setting). k.layout) bare_y.setting

  is : (i reading : ℕ) → IsCallAt q Reads_area (new_call i reading led)
  is i reading =
      record {
        purpose = ap (λ n. Lease (ForJob n) (ReadArea q.resource.name)) (sym b.job);
        op = ap (λ g. ReadSectors (area_sectors g)) (layout ∙ sym (ap (λ (k : LeasePlace). k.layout) b.place));
        path = refl;
        offset = refl;
      }

  one : lease_part e.effects.calls ≡ led ∷ []
  one = b.does.calls ∙ ap (λ cs. lease_part (cs ++ led ∷ [])) bare_y.calls

  -- ---- the job is new

  new : job_numbered st past j ≡ None
  new = ap (λ n. job_numbered st past n) b.job ∙ next_is_new st past

  unnumbered : IsSome (job_numbered st past j) → ⊥
  unnumbered some = let k = some_of (job_numbered st past j) some in none_some k.0 (sym new ∙ k.1)

  uncommanded : (m : Submitted) → Contains (submitted past) m → is_of_job j m ≡ true → ⊥
  uncommanded m there of =
      let v = some_is_true (λ k. k == j) (job_of m.call.purpose) of in
      let c = some_of (command_numbered st past j) (facts.jobs.called m j there (v.1 ∙ ap (λ k. Some k) (eqb-true v.0 j v.2))) in
      none_some c.0 (sym (ap (λ o. option_and_then command_of o) new) ∙ c.1)

  old_runs : reply_to past j ≡ None
  old_runs = none_is_none (reply_to past j) (is_running past j) refl (λ stopped. unnumbered (facts.jobs.replied j stopped))

  numbered : job_numbered st t (next_job st past) ≡ Some (record { number = next_job st past; at = length past; reading = e.reading; command = st.read text })
  numbered = ap (λ i. job_numbered st (record { reading = e.reading; input = i; effects = e.effects } ∷ past) (next_job st past)) b.input ∙ line_is st past e.reading text e.effects

  command : command_numbered st t j ≡ Some (Acquire q.resource q.shared q.process q.persistent)
  command =
      ap (λ n. command_numbered st t n) b.job
      ∙ (ap (λ o. option_and_then command_of o) numbered ∙ ap (λ (o : Result Command ℕ). command_of (record { number = next_job st past; at = length past; reading = e.reading; command = o })) b.line)

  early : IsBeforeInput st past e.reading y
  early = heads_are_early st past e.reading (traces_hold st past b.setting host_before).whole

  unreplied : find (λ (a : JobReply). a.job == j) e.effects.replies ≡ None
  unreplied =
      ap (λ rs. find (λ (a : JobReply). a.job == j) rs) b.does.replies
      ∙ finds_none (λ (a : JobReply). a.job == j) y.effects.replies (λ a there. less_apart a.job j (subst (λ n. a.job < n) (sym b.job) (early.numbers a there)))

  runs : reply_to t j ≡ None
  runs =
      ap (λ o. elim o as (λ x. Option Replied) [ Some r ↦ Some r | None ↦ reply_in j past e ]) old_runs
      ∙ ap (λ o. option_map (λ (a : JobReply). let r : Replied = record { at = length past; reply = a.reply } in r) o) unreplied

  -- ---- the lease's calls

  marked : (P : Submitted → Bool) → filter P (submitted t) ≡ filter P (fold (λ xs k. new_call (length past) e.reading k ∷ xs) (submitted past) e.effects.calls)
  marked P = ap (λ i. filter P (fold (λ xs k. new_call (length past) e.reading k ∷ xs) (mark past e i (submitted past)) e.effects.calls)) b.input

  of_lease : Submitted → Bool
  of_lease m = is_call_of s m && (is_lease_call m && is_on st.layout at m.call)

  lease_is : (es : Trace) → lease_calls st es s at ≡ filter of_lease (submitted es)
  lease_is es = sym (filter_both (is_call_of s) (λ m. is_lease_call m && is_on st.layout at m.call) (submitted es))

  sizes : IsSized b.setting.layout.0 st.layout
  sizes = subst (λ k. IsSized b.setting.layout.0 k) (sym b.setting.layout.2) (sized st.layout.digest b.setting.layout.0 b.setting.layout.1)

  on_area : is_on st.layout at led ≡ true
  on_area = both_true (bytes_eq led.path at.path) (in_area st.layout at.base led.offset) (same_name led.path) (leader_within st.layout at.base sizes)

  mine : of_lease call ≡ true
  mine = both_true (is_call_of s call) (is_lease_call call && is_on st.layout at call.call) (number_itself s.number) (both_true (is_lease_call call) (is_on st.layout at call.call) refl on_area)

  lease : lease_calls st t s at ≡ call ∷ q.before
  lease =
      lease_is t
      ∙ (marked of_lease
      ∙ (one_lease_new of_lease (length past) e.reading e.effects.calls (submitted past) led one
      (λ k there its. (and_true (is_some (lease_step k.purpose)) (is_on st.layout at k) (and_true (k.session == s.number) (is_some (lease_step k.purpose) && is_on st.layout at k) its).1).0) mine
      ∙ ap (λ ms. call ∷ ms) (sym (lease_is past) ∙ b.before)))

  -- ---- the job's calls

  call_inside : Contains (submitted t) call
  call_inside = (kept_inside of_lease (submitted t) call (subst (λ ms. Contains ms call) (lease_is t) (subst (λ ms. Contains ms call) (sym lease) (contains_first call q.before)))).0

  its_own : is_of_job j call ≡ true
  its_own = of_the_job q Reads_area call (is (length past) e.reading)

  acquires : AcquireFacts st t s q.resource j
  acquires = acquires_keep_to_theirs st t s q.resource j b.setting b.host (inr (q.shared, q.process, q.persistent, command)) (inr (call, call_inside, its_own, refl))

  new_there : (k : Call) → Contains e.effects.calls k → Contains (submitted t) (new_call (length past) e.reading k)
  new_there k there = new_inside (length past) e.reading e.effects.calls (mark past e e.input (submitted past)) k there

  calls : job_calls t j ≡ call ∷ []
  calls =
      marked (is_of_job j)
      ∙ (one_lease_new (is_of_job j) (length past) e.reading e.effects.calls (submitted past) led one
      (λ k there its. let f = acquires.fits (new_call (length past) e.reading k) (new_there k there) its in ap (λ p. is_some (lease_step p)) f.1) its_own
      ∙ ap (λ ms. call ∷ ms) (none_kept (is_of_job j) (submitted past) uncommanded))

  self : me t s ≡ q.same.self
  self =
      let k = some_there (joined_after past s) (and_true (is_some (joined_after past s)) (is_none (removed_after past s)) b.joined).0 in
      ap (λ x. let o : Owner = record { id = s.id; generation = x } in o) (generation_stays st (e ∷ []) past s k.0 law.orderly b.session k.1) ∙ b.self
