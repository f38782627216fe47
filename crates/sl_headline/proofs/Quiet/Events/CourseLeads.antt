-- From the answer of the acquire's call to its next call.
use Rattle.sl_headline.proofs.Quiet.Events.DecisionsAreCarriedOut.{Follows, KnowsNext, LedCall, LedStep, NotFirst, before_next, both_true, carried, led_step, named_later, no_lease_new, one_lease_new}
use Rattle.sl_run_law.proofs.Sessions.CallsAreMade.{old_stays}
use Rattle.sl_trace.specs.declared.reply.Reply.TheVariants.{Granted}
use Rattle.sl_trace.specs.declared.effects.Grant.{Grant}
use Rattle.sl_run_law.proofs.Sessions.SessionNames.{same_name}
use Rattle.sl_headline.proofs.Quiet.Events.Places.{first_within, leader_within, turn_within}
use Rattle.sl_run_law.proofs.Place.Sizes.{IsSized, sized}
use Rattle.std.proofs.lemmas.List.{append-nil}
use Rattle.sl_words.proofs.Options.{some_there}
use Rattle.sl_run_law.proofs.Sessions.CallOwners.{session_more}
use Rattle.std.specs.Option.{option_or}
use Rattle.sl_headline.proofs.Quiet.Events.Calls.{of_the_job, call_there}
use Rattle.sl_words.proofs.Numbers.{number_itself}
use Rattle.sl_headline.proofs.Quiet.Events.OtherEntries.{new_inside}
use Rattle.sl_run.specs.Quiet.{job_calls}
use Rattle.sl_trace.specs.Sessions.{is_call_of, joined_after, me, removed_after, session_numbered}
use Rattle.sl_safety.proofs.Ballot.ReasonNames.{generation_stays}
use Rattle.sl_run_law.proofs.Course.PairwiseLists.{filter_changed}
use Rattle.sl_due_facts.proofs.Jobs.JobsAreNumbered.{command_stays, found_after}
use Rattle.sl_words.proofs.WordLaws.{and_true}
use Rattle.sl_due_law.proofs.LawfulTraces.AcquiresKeep.{acquires_keep_to_theirs}
use Rattle.sl_trace.specs.declared.effects.Spot.{Spot}
use Rattle.sl_sector.specs.declared.sector.Owner.{Owner}
use Rattle.sl_due_facts.specs.Jobs.Acquires.{AcquireFacts}
use Rattle.sl_trace.specs.declared.command.Command.TheVariants.{Acquire}
use Rattle.sl_trace.specs.declared.input.Input.TheVariants.{Answer as Told}
use Rattle.sl_words.specs.Words.{some_is}
use Rattle.sl_trace.specs.LeaseDecisions.{LeasePlace}
use Rattle.sl_trace.specs.Leases.{LeaseKnown, base_turn, is_lease_call, is_on, known, lease_calls, lease_step, spot_of, verified_by, verified_name}
use Rattle.sl_due_law.proofs.DueIsLawful.{due_is_lawful}
use Rattle.sl_words.proofs.Lists.{contains_first, filter_both, kept_inside, contains_map}
use Rattle.sl_due.specs.CarriedLease.{carry_lease, grant_for, grant_of, grant_process}
use Rattle.sl_area.specs.AreaLayout.{in_area}
use Rattle.sl_headline.proofs.Quiet.Step.BeforeInput.{bare_heard}
use Rattle.sl_due.specs.Steps.{Step, seen, with_some}
use Rattle.sl_trace.specs.declared.session.Session.{Session}
use Rattle.sl_area.specs.AreaSizes.{Layout, Sizes}
use Rattle.sl_headline.proofs.Quiet.Events.CallsInTime.{joined_there}
use Rattle.sl_trace.specs.declared.effects.JobReply.{JobReply}
use Rattle.sl_trace.specs.Traces.{Replied, Setting, Submitted, Trace, bytes_given, new_call, reply_to, gave, Answered, answer_of, answered_in, is_answered_ok, is_of_job, is_ok_answer, job_of, mark, reply_in, submitted, is_shared}
use Rattle.sl_run.specs.Lawful.{IsSetting, Lawful}
use Rattle.sl_due.specs.Due.{IsHostTrace}
use Rattle.sl_headline.proofs.Quiet.Events.HeardFacts.{done_stay, have_answers, heard_facts, same_then, told_is}
use Rattle.sl_headline.specs.Quiet.Course.CourseOfCalls.{known_with}
use Rattle.sl_trace.specs.declared.effects.Work.TheVariants.{ForJob}
use Rattle.sl_trace.specs.declared.effects.Entry.{Entry}
use Rattle.sl_headline.specs.Quiet.Step.AnswersLeadOn.{DoesAs, IsBare, heard, lease_part}
use Rattle.sl_trace.specs.declared.effects.Call.{Call}
use Rattle.std.specs.Prelude.{Bool, Contains, IsTrue, List, None, Option, Some, [], bytes_eq, cond, false, filter, find, fold, is_none, is_some, length, map, option_and_then, option_map, true, ℕ, ◌&&◌, ◌++◌, ◌+◌, ◌==◌, ◌∷◌, ◌≡◌, ◌≤◌, ◌⊎◌}
use Rattle.sl_headline.specs.Quiet.Events.CarriedStages.{AllDone, Asked, DaemonOnCourse, Frees_leader, IsAskedOf, IsCallAt, Reads_area, Reads_first, Reads_second, Sets_mode, Stage, Takes_leader, Writes_first, Writes_second, offset_at, stages_before, turn_at}
use Rattle.sl_trace.specs.declared.input.Answer.{Answer}
use Rattle.std.specs.List.{AllByRecursion}
use Rattle.sl_headline.specs.Quiet.Events.CourseLeads.{CourseEnds, CourseLeads, decision_at, mode_of, told_call}
use Rattle.std.proofs.Common.{ap, inl, inr, refl, subst, sym, ◌∙◌}

-- ---- the next call

done_all : (q : Asked) (stages : List Stage) (ms : List Submitted) → AllDone q stages ms → AllByRecursion (λ (m : Submitted). is_some m.answer ≡ true) ms
done_all q stages ms done = subst (λ xs. AllByRecursion (λ (m : Submitted). is_some m.answer ≡ true) xs) (append-nil ms) (have_answers q stages ms [] done tt)

-- The call with its answer.
pub told_ok : (past : Trace) (e : Entry) (m : Submitted) (a : Answer) → m.answer ≡ None → is_ok_answer a ≡ true → is_answered_ok (answered_in past e m.call.number a m) ≡ true
told_ok past e m a waits ok =
    ap (λ b. is_answered_ok (elim b as (λ z. Submitted) [ false ↦ m | true ↦ record m { answer = option_or m.answer (Some (answer_of past e a m.call)) } ])) (number_itself m.call.number)
    ∙ (ap (λ o. some_is (λ (x : Answered). is_ok_answer x.answer) (option_or o (Some (answer_of past e a m.call)))) waits ∙ ok)

pub told_at : (q : Asked) (stage : Stage) (past : Trace) (e : Entry) (n : ℕ) (a : Answer) (m : Submitted) → IsCallAt q stage m → IsCallAt q stage (answered_in past e n a m)
told_at q stage past e n a m is =
    record {
      purpose = ap (λ (k : Call). k.purpose) (told_is past e n a m) ∙ is.purpose;
      op = ap (λ (k : Call). k.op) (told_is past e n a m) ∙ is.op;
      path = ap (λ (k : Call). k.path) (told_is past e n a m) ∙ is.path;
      offset = ap (λ (k : Call). k.offset) (told_is past e n a m) ∙ is.offset;
    }

-- The bytes that its answer gives, if it does.
pub told_gives : (past : Trace) (e : Entry) (m : Submitted) (a : Answer) → m.answer ≡ None → gave (answered_in past e m.call.number a m) ≡ bytes_given a
told_gives past e m a waits =
    ap (λ b. gave (elim b as (λ z. Submitted) [ false ↦ m | true ↦ record m { answer = option_or m.answer (Some (answer_of past e a m.call)) } ])) (number_itself m.call.number)
    ∙ ap (λ o. option_and_then (λ (x : Answered). bytes_given x.answer) (option_or o (Some (answer_of past e a m.call)))) waits

-- The name that the lease has verified, with one more call.
pub name_more : (g : Layout) (space name : List ℕ) (m : Submitted) (ms : List Submitted) → (verified_by g space m ms ≡ Some name) ⊎ ((verified_by g space m ms ≡ None) × (verified_name g space ms ≡ name)) → verified_name g space (m ∷ ms) ≡ name
name_more g space name m ms (inl now) = ap (λ o. elim o as (λ z. List ℕ) [ Some n ↦ n | None ↦ verified_name g space ms ]) now
name_more g space name m ms (inr before) = ap (λ o. elim o as (λ z. List ℕ) [ Some n ↦ n | None ↦ verified_name g space ms ]) before.0 ∙ before.1

-- What is asked of the newest call goes by its answer, whatever else its entry brings.
same_name_told : (g : Layout) (space : List ℕ) (past : Trace) (e f : Entry) (n : ℕ) (a : Answer) (m : Submitted) (ms : List Submitted)
    → verified_name g space (answered_in past e n a m ∷ ms) ≡ verified_name g space (answered_in past f n a m ∷ ms)
same_name_told g space past e f n a m ms = by (m.call.number == n) m.answer where
  by : (b : Bool) (o : Option Answered)
      → verified_name g space ((elim b as (λ z. Submitted) [ false ↦ m | true ↦ record m { answer = option_or o (Some (answer_of past e a m.call)) } ]) ∷ ms)
      ≡ verified_name g space ((elim b as (λ z. Submitted) [ false ↦ m | true ↦ record m { answer = option_or o (Some (answer_of past f a m.call)) } ]) ∷ ms)
  by false o = refl
  by true None = refl
  by true (Some x) = refl

same_turn_told : (g : Layout) (id : ℕ) (past : Trace) (e f : Entry) (n : ℕ) (a : Answer) (m : Submitted) (ms : List Submitted)
    → base_turn g id (answered_in past e n a m ∷ ms) ≡ base_turn g id (answered_in past f n a m ∷ ms)
same_turn_told g id past e f n a m ms = by (m.call.number == n) m.answer where
  by : (b : Bool) (o : Option Answered)
      → base_turn g id ((elim b as (λ z. Submitted) [ false ↦ m | true ↦ record m { answer = option_or o (Some (answer_of past e a m.call)) } ]) ∷ ms)
      ≡ base_turn g id ((elim b as (λ z. Submitted) [ false ↦ m | true ↦ record m { answer = option_or o (Some (answer_of past f a m.call)) } ]) ∷ ms)
  by false o = refl
  by true None = refl
  by true (Some x) = refl

-- So the lease knows turn and name when its next call is decided.
knows_next : (st : Setting) (past : Trace) (e : Entry) (q : Asked) (stage next : Stage) → IsSetting st → IsHostTrace st past → IsAskedOf st q → (c : DaemonOnCourse st past q stage) (answer : Answer)
    → (st.layout.paired ≡ true → base_turn st.layout q.session.id (answered_in past e (c.call).call.number answer c.call ∷ (c.older ++ q.before)) ≡ turn_at q next)
    → verified_name st.layout q.session.lockspace (answered_in past e (c.call).call.number answer c.call ∷ (c.older ++ q.before)) ≡ q.resource.name
    → KnowsNext q next (heard st past e.reading (c.call).call.number answer)
unfolding known
knows_next st past e q stage next setting host asked c answer turned name =
    record {
      layout = layout;
      turn = λ paired. ap (λ t. t + 1)
          (ap (λ (k : LeaseKnown). k.turn) is
          ∙ (ap (λ (g : Layout). base_turn g q.same.self.id (m ∷ (c.older ++ q.before))) place ∙ (ap (λ id. base_turn st.layout id (m ∷ (c.older ++ q.before))) asked.id
          ∙ (same_turn_told st.layout q.session.id past f e n answer c.call (c.older ++ q.before) ∙ turned (ap (λ (g : Layout). g.paired) (sym place) ∙ paired)))));
      name = ap (λ (k : LeaseKnown). k.name) is
          ∙ (ap (λ (k : LeasePlace). verified_name k.layout k.lockspace (m ∷ (c.older ++ q.before))) asked.place
          ∙ (same_name_told st.layout q.session.lockspace past f e n answer c.call (c.older ++ q.before) ∙ name));
    } where
      n : ℕ
      n = (c.call).call.number

      y : Step
      y = heard st past e.reading n answer

      f : Entry
      f = record { reading = e.reading; input = Told n answer; effects = y.effects }

      m : Submitted
      m = told_call st past e.reading c.call answer

      place : q.same.place.layout ≡ st.layout
      place = ap (λ (k : LeasePlace). k.layout) asked.place

      layout : y.setting.layout ≡ q.same.place.layout
      layout = ap (λ (k : Setting). k.layout) (bare_heard st past e.reading n answer).setting ∙ sym place

      is : known y.setting (seen y) q.session (spot_of q.resource) ≡ known_with (same_then st past e.reading q n answer) (m ∷ (c.older ++ q.before))
      is = (heard_facts st past e.reading q stage setting host asked c answer).known_is

-- Each call of the course is in the area.
within_area : (sizes : Sizes) (q : Asked) (stage : Stage) → IsSized sizes q.same.place.layout → (1 ≤ q.session.id) × (q.session.id ≤ q.same.place.layout.hosts)
    → IsTrue (in_area q.same.place.layout q.resource.offset (offset_at q stage))
within_area sizes q Reads_area z host = leader_within q.same.place.layout q.resource.offset z
within_area sizes q Reads_first z host = first_within q.same.place.layout q.resource.offset z
within_area sizes q Reads_second z host = first_within q.same.place.layout q.resource.offset z
within_area sizes q Takes_leader z host = leader_within q.same.place.layout q.resource.offset z
within_area sizes q Frees_leader z host = leader_within q.same.place.layout q.resource.offset z
within_area sizes q Writes_first z host = turn_within q.same.place.layout q.resource.offset q.session.id (turn_at q Writes_first + 1) z host
within_area sizes q Writes_second z host = turn_within q.same.place.layout q.resource.offset q.session.id (turn_at q Writes_second + 1) z host
within_area sizes q Sets_mode z host = turn_within q.same.place.layout q.resource.offset q.session.id (turn_at q Sets_mode + 1) z host

pub course_leads : CourseLeads
course_leads st past e q stage next setting host asked c answer h to decided names turned = (
  record {
    call = call;
    older = told ∷ c.older;
    command = command_stays st e past j (Acquire q.resource q.shared q.process q.persistent) c.command;
    runs = runs;
    calls = calls;
    lease = lease;
    waits = refl;
    mode = follows.2;
    is = led.is (length past) e.reading;
    done = subst (λ ss. AllDone q ss (told ∷ c.older)) (sym follows.0) (told_at q stage past e n answer c.call c.is, told_ok past e c.call answer c.waits h.ok, c.done);
    session = session;
    active = h.active;
    self = self;
    name = inr name;
    turn = λ paired. inr (turned paired);
  },
  refl,
) where
  n : ℕ
  n = (c.call).call.number

  j : ℕ
  j = q.job

  s : Session
  s = q.session

  at : Spot
  at = spot_of q.resource

  t : Trace
  t = e ∷ past

  y : Step
  y = heard st past e.reading n answer

  g : Submitted → Submitted
  g = answered_in past e n answer

  told : Submitted
  told = g c.call

  bare_y : IsBare st past e.reading y
  bare_y = bare_heard st past e.reading n answer

  law : Lawful st t
  law = (due_is_lawful st t setting host).0

  step : LedStep st past e q stage c answer
  step = led_step st past e q stage setting host asked c answer h

  follows : Follows q.shared stage next
  follows = before_next q.shared stage next c.mode to

  z : Step
  z = carry_lease s at (ForJob j) (decision_at q next) y

  does : DoesAs e.effects z
  does = subst (λ d. DoesAs e.effects (carry_lease s at (ForJob j) d y)) decided step.does

  name : verified_name st.layout s.lockspace ((told ∷ c.older) ++ q.before) ≡ q.resource.name
  name = name_more st.layout s.lockspace q.resource.name told (c.older ++ q.before) (by (named_later q stage st.layout s.lockspace told (c.older ++ q.before) (told_at q stage past e n answer c.call c.is)) c.name) where
    by : (stage ≡ Reads_area) ⊎ (verified_by st.layout s.lockspace told (c.older ++ q.before) ≡ None) → (stage ≡ Reads_area) ⊎ (verified_name st.layout s.lockspace (c.older ++ q.before) ≡ q.resource.name)
        → (verified_by st.layout s.lockspace told (c.older ++ q.before) ≡ Some q.resource.name) ⊎ ((verified_by st.layout s.lockspace told (c.older ++ q.before) ≡ None) × (verified_name st.layout s.lockspace (c.older ++ q.before) ≡ q.resource.name))
    by (inl first) named = inl (names first)
    by (inr later) (inl first) = inl (names first)
    by (inr later) (inr named) = inr (later, named)

  led : LedCall q next y z
  led = carried q next y (knows_next st past e q stage next setting (host.0.1, host.1.1) asked c answer turned name) (λ is. subst (λ k. NotFirst k) is follows.1)

  call : Submitted
  call = new_call (length past) e.reading led.call

  one : lease_part e.effects.calls ≡ led.call ∷ []
  one =
      does.calls ∙ (ap (λ cs. lease_part cs) (led.calls ∙ ap (λ cs. cs ++ led.call ∷ []) bare_y.calls)
      ∙ ap (λ b. cond b (led.call ∷ []) []) (ap (λ p. is_some (lease_step p)) (led.is 0 0).purpose))

  session : session_numbered st t s.number ≡ Some s
  session = session_more st e past s.number s c.session

  self : me t s ≡ q.same.self
  self =
      let k = some_there (joined_after past s) (and_true (is_some (joined_after past s)) (is_none (removed_after past s)) (joined_there st past s c.active)).0 in
      ap (λ x. let o : Owner = record { id = s.id; generation = x } in o) (generation_stays st (e ∷ []) past s k.0 law.orderly c.session k.1) ∙ c.self

  marked : (P : Submitted → Bool) → filter P (submitted t) ≡ filter P (fold (λ xs k. new_call (length past) e.reading k ∷ xs) (map g (submitted past)) e.effects.calls)
  marked P = ap (λ i. filter P (fold (λ xs k. new_call (length past) e.reading k ∷ xs) (mark past e i (submitted past)) e.effects.calls)) h.input

  -- ---- the lease's calls

  of_lease : Submitted → Bool
  of_lease m = is_call_of s m && (is_lease_call m && is_on st.layout at m.call)

  lease_is : (es : Trace) → lease_calls st es s at ≡ filter of_lease (submitted es)
  lease_is es = sym (filter_both (is_call_of s) (λ m. is_lease_call m && is_on st.layout at m.call) (submitted es))

  stays_lease : (m : Submitted) → of_lease (g m) ≡ of_lease m
  stays_lease m = ap (λ (k : Call). (k.session == s.number) && (is_some (lease_step k.purpose) && is_on st.layout at k)) (told_is past e n answer m)

  place : q.same.place.layout ≡ st.layout
  place = ap (λ (k : LeasePlace). k.layout) asked.place

  sizes : IsSized setting.layout.0 st.layout
  sizes = subst (λ k. IsSized setting.layout.0 k) (sym setting.layout.2) (sized st.layout.digest setting.layout.0 setting.layout.1)

  on_area : is_on st.layout at call.call ≡ true
  on_area =
      both_true (bytes_eq call.call.path at.path) (in_area st.layout at.base call.call.offset) (subst (λ k. bytes_eq call.call.path k ≡ true) (led.is 0 0).path (same_name call.call.path))
      (subst (λ o. in_area st.layout at.base o ≡ true) (sym (led.is 0 0).offset)
      (subst (λ k. in_area k at.base (offset_at q next) ≡ true) place
      (within_area setting.layout.0 q next (subst (λ k. IsSized setting.layout.0 k) (sym place) sizes) (subst (λ (k : Layout). (1 ≤ q.session.id) × (q.session.id ≤ k.hosts)) (sym place) asked.host))))

  mine : of_lease call ≡ true
  mine =
      both_true (is_call_of s call) (is_lease_call call && is_on st.layout at call.call) (ap (λ k. k == s.number) led.session ∙ number_itself s.number)
      (both_true (is_lease_call call) (is_on st.layout at call.call) (ap (λ p. is_some (lease_step p)) (led.is 0 0).purpose) on_area)

  lease : lease_calls st t s at ≡ call ∷ ((told ∷ c.older) ++ q.before)
  lease =
      lease_is t
      ∙ (marked of_lease
      ∙ (one_lease_new of_lease (length past) e.reading e.effects.calls (map g (submitted past)) led.call one
      (λ k there is. (and_true (is_some (lease_step k.purpose)) (is_on st.layout at k) (and_true (k.session == s.number) (is_some (lease_step k.purpose) && is_on st.layout at k) is).1).0) mine
      ∙ ap (λ ms. call ∷ ms) (filter_changed of_lease g (submitted past) stays_lease ∙ (ap (λ ms. map g ms) (sym (lease_is past) ∙ c.lease)
      ∙ ap (λ ms. told ∷ ms) (done_stay past e n answer (c.older ++ q.before) (have_answers q (stages_before stage) c.older q.before c.done asked.answered))))))

  -- ---- the job's calls

  call_inside : Contains (submitted t) call
  call_inside = (kept_inside of_lease (submitted t) call (subst (λ ms. Contains ms call) (lease_is t) (subst (λ ms. Contains ms call) (sym lease) (contains_first call ((told ∷ c.older) ++ q.before))))).0

  acquires : AcquireFacts st t s q.resource j
  acquires =
      acquires_keep_to_theirs st t s q.resource j setting host (inr (q.shared, q.process, q.persistent, command_stays st e past j (Acquire q.resource q.shared q.process q.persistent) c.command))
      (inr (call, call_inside, of_the_job q next call (led.is (length past) e.reading), led.session))

  new_there : (k : Call) → Contains e.effects.calls k → Contains (submitted t) (new_call (length past) e.reading k)
  new_there k there = new_inside (length past) e.reading e.effects.calls (mark past e e.input (submitted past)) k there

  calls : job_calls t j ≡ call ∷ (told ∷ c.older)
  calls =
      marked (is_of_job j)
      ∙ (one_lease_new (is_of_job j) (length past) e.reading e.effects.calls (map g (submitted past)) led.call one
      (λ k there is. let f = acquires.fits (new_call (length past) e.reading k) (new_there k there) is in ap (λ p. is_some (lease_step p)) f.1) (of_the_job q next call (led.is (length past) e.reading))
      ∙ ap (λ ms. call ∷ ms) (filter_changed (is_of_job j) g (submitted past) (λ m. ap (λ (k : Call). some_is (λ i. i == j) (job_of k.purpose)) (told_is past e n answer m))
      ∙ (ap (λ ms. map g ms) c.calls ∙ ap (λ ms. told ∷ ms) (done_stay past e n answer c.older (done_all q (stages_before stage) c.older c.done)))))

  -- ---- no reply

  runs : reply_to t j ≡ None
  runs =
      ap (λ o. elim o as (λ x. Option Replied) [ Some r ↦ Some r | None ↦ reply_in j past e ]) c.runs
      ∙ ap (λ o. option_map (λ (a : JobReply). let r : Replied = record { at = length past; reply = a.reply } in r) o) (ap (λ rs. find (λ (a : JobReply). a.job == j) rs) (does.replies ∙ led.replies) ∙ step.unreplied)

-- ---- the grant

is_mode : (b : Bool) → is_shared (mode_of b) ≡ b
is_mode true = refl
is_mode false = refl

pub course_ends : CourseEnds
unfolding carry_lease
course_ends st past e q stage setting host asked c answer h to lver decided = (
  record {
    reply = reply;
    grant = grant;
    granted = subst (λ gs. Contains gs grant) (sym (does.grants ∙ ap (λ gs. gs ++ grant ∷ []) bare_y.grants)) (contains_first grant []);
    right = (refl, is_mode q.shared, refl, refl, both_true (q.resource.offset == q.resource.offset) (bytes_eq q.resource.path q.resource.path) (number_itself q.resource.offset) (same_name q.resource.path));
  },
  calls,
) where
  n : ℕ
  n = (c.call).call.number

  j : ℕ
  j = q.job

  t : Trace
  t = e ∷ past

  y : Step
  y = heard st past e.reading n answer

  g : Submitted → Submitted
  g = answered_in past e n answer

  bare_y : IsBare st past e.reading y
  bare_y = bare_heard st past e.reading n answer

  host_before : IsHostTrace st past
  host_before = (host.0.1, host.1.1)

  step : LedStep st past e q stage c answer
  step = led_step st past e q stage setting host asked c answer h

  grant : Grant
  grant = grant_of q.session q.resource q.process (mode_of q.shared) lver q.persistent

  z : Step
  z = grant_process q.session j q.resource q.process (mode_of q.shared) lver q.persistent y

  does : DoesAs e.effects z
  does =
      subst (λ o. DoesAs e.effects (with_some o (λ k. grant_for q.session j k (mode_of q.shared) lver) y)) (heard_facts st past e.reading q stage setting host_before asked c answer).command
      (subst (λ d. DoesAs e.effects (carry_lease q.session (spot_of q.resource) (ForJob j) d y)) decided step.does)

  reply : reply_in j past e ≡ Some (record { at = length past; reply = Granted lver })
  reply =
      ap (λ rs. option_map (λ (a : JobReply). let r : Replied = record { at = length past; reply = a.reply } in r) (find (λ (a : JobReply). a.job == j) rs)) does.replies
      ∙ (ap (λ o. option_map (λ (a : JobReply). let r : Replied = record { at = length past; reply = a.reply } in r) o)
      (found_after (λ (a : JobReply). a.job == j) y.effects.replies (record { job = j; reply = Granted lver } ∷ []) step.unreplied)
      ∙ ap (λ b. option_map (λ (a : JobReply). let r : Replied = record { at = length past; reply = a.reply } in r) (cond b (Some (record { job = j; reply = Granted lver })) None)) (number_itself j))

  none : lease_part e.effects.calls ≡ []
  none = does.calls ∙ ap (λ cs. lease_part cs) bare_y.calls

  told_inside : Contains (submitted t) (g c.call)
  told_inside =
      old_stays (length past) e.reading e.effects.calls (mark past e e.input (submitted past)) (g c.call)
      (subst (λ i. Contains (mark past e i (submitted past)) (g c.call)) (sym h.input) (contains_map g (submitted past) c.call (call_there st past q stage c).there))

  acquires : AcquireFacts st t q.session q.resource j
  acquires =
      acquires_keep_to_theirs st t q.session q.resource j setting host (inr (q.shared, q.process, q.persistent, command_stays st e past j (Acquire q.resource q.shared q.process q.persistent) c.command))
      (inr (g c.call, told_inside, of_the_job q stage (g c.call) (told_at q stage past e n answer c.call c.is), ap (λ (k : Call). k.session) (told_is past e n answer c.call) ∙ (call_there st past q stage c).session))

  calls : job_calls t j ≡ g c.call ∷ c.older
  calls =
      ap (λ i. filter (is_of_job j) (fold (λ xs k. new_call (length past) e.reading k ∷ xs) (mark past e i (submitted past)) e.effects.calls)) h.input
      ∙ (no_lease_new (is_of_job j) (length past) e.reading e.effects.calls (map g (submitted past)) none
      (λ k there is. let f = acquires.fits (new_call (length past) e.reading k) (new_inside (length past) e.reading e.effects.calls (mark past e e.input (submitted past)) k there) is in ap (λ p. is_some (lease_step p)) f.1)
      ∙ (filter_changed (is_of_job j) g (submitted past) (λ m. ap (λ (k : Call). some_is (λ i. i == j) (job_of k.purpose)) (told_is past e n answer m))
      ∙ (ap (λ ms. map g ms) c.calls ∙ ap (λ ms. g c.call ∷ ms) (done_stay past e n answer c.older (done_all q (stages_before stage) c.older c.done)))))
