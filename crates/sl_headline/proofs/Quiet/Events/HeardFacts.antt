-- What an acquire's step finds when the answer of its call is seen.
use Rattle.sl_due_facts.specs.Facts.WorkFacts.{IsAtWork}
use Rattle.sl_trace.specs.declared.command.Command.TheVariants.{Acquire}
use Rattle.sl_trace.specs.WatchdogConnections.{unregisters}
use Rattle.sl_due_law.specs.Causes.LineCauses.{IsBeforeInput}
use Rattle.sl_trace.specs.declared.lease.Aim.TheVariants.{Acquires}
use Rattle.sl_trace.specs.declared.effects.Mode.TheVariants.{Shared, Exclusive}
use Rattle.sl_trace.specs.declared.effects.Work.TheVariants.{ForJob}
use Rattle.sl_due_facts.specs.Facts.AllFacts.{Facts}
use Rattle.sl_due_law.specs.LawfulTraces.CarriedFacts.{Holds}
use Rattle.sl_trace.specs.declared.effects.Mode.{Mode}
use Rattle.sl_words.specs.Words.{some_is}
use Rattle.sl_trace.specs.declared.effects.JoinStep.TheVariants.{FirstRead}
use Rattle.sl_sector.specs.declared.sector.DeltaRec.{DeltaRec}
use Rattle.sl_words.proofs.CaseLaws.{false_is_true, true_is_false}
use Rattle.sl_sector.specs.declared.sector.Owner.{Owner}
use Rattle.sl_due.specs.Due.{IsHostTrace, before_input}
use Rattle.sl_due.specs.Steps.{Step, begin_step, seen}
use Rattle.sl_due_law.proofs.Causes.HeadsAreEarly.{heads_are_early}
use Rattle.sl_due_facts.proofs.Jobs.SessionsArePresent.{joined_present}
use Rattle.sl_due_law.proofs.LawfulTraces.TracesHold.{traces_hold}
use Rattle.sl_run.specs.Lawful.{IsSetting}
use Rattle.sl_trace.specs.Jobs.{aim_of, command_numbered, command_of, aim_of_command}
use Rattle.sl_trace.specs.LeaseDecisions.{lease_place, LeasePlace}
use Rattle.sl_trace.specs.Leases.{holdings_on, is_lease_call, is_on, known, known_of, lease_calls, spot_of, spot_of_call, lease_step, LeaseKnown}
use Rattle.sl_words.proofs.Lists.{contains_first, contains_more, kept_inside, got_inside}
use Rattle.sl_headline.proofs.Quiet.Events.Calls.{CallThere, call_there}
use Rattle.sl_headline.proofs.Quiet.Events.CallsInTime.{joined_there}
use Rattle.sl_headline.proofs.Quiet.Start.FewerCounts.{all_pass}
use Rattle.sl_headline.proofs.Quiet.Start.LinesFindQuiet.{bare, is_still_joined}
use Rattle.sl_headline.proofs.Quiet.Leases.CallsStay.{left_alone, spot_is}
use Rattle.sl_headline.proofs.Quiet.Step.BeforeInput.{bare_heard}
use Rattle.sl_headline.specs.Quiet.Events.CarriedStages.{AllDone, Asked, DaemonOnCourse, IsAskedOf, Stage, step_at, stages_before}
use Rattle.sl_headline.specs.Quiet.Events.CourseLeads.{mode_of, told_call}
use Rattle.sl_headline.specs.Quiet.Course.CourseOfCalls.{Same, known_with}
use Rattle.sl_headline.specs.Quiet.Step.AnswersLeadOn.{Answers, IsBare, WasThere, heard}
use Rattle.sl_run_law.proofs.Course.PairwiseLists.{filter_changed}
use Rattle.sl_trace.specs.Sessions.{calls_of, is_call_of, me, session_numbered, sessions, begun_in, last_delta, delta_of_record, generation_in, is_join_call, delta_written, given_number, is_joined, holdings_of}
use Rattle.sl_trace.specs.Sightings.{counts_over}
use Rattle.sl_trace.specs.declared.session.Session.{Session}
use Rattle.sl_trace.specs.Traces.{Answered, Setting, Submitted, Trace, answered_in, call_numbered, holdings, is_ended_by, new_call, submitted, answer_of, is_answered_ok, Job, record_of, is_ok_answer, jobs, is_shared, same_place}
use Rattle.sl_trace.specs.declared.effects.Call.{Call}
use Rattle.sl_trace.specs.declared.effects.Effects.{Effects}
use Rattle.sl_trace.specs.declared.effects.Entry.{Entry}
use Rattle.sl_trace.specs.declared.effects.Grant.{Grant}
use Rattle.sl_trace.specs.declared.effects.Spot.{Spot}
use Rattle.sl_trace.specs.declared.input.Answer.{Answer}
use Rattle.sl_trace.specs.declared.input.Input.TheVariants.{Answer as Told}
use Rattle.sl_words.proofs.WordLaws.{and_true}
use Rattle.std.proofs.Common.{ap, ap₂, inl, refl, subst, sym, ◌∙◌}
use Rattle.std.proofs.lemmas.Bool.{eqb-true}
use Rattle.std.proofs.lemmas.List.{append-nil}
use Rattle.std.specs.List.{AllByRecursion, list_any}
use Rattle.std.specs.Option.{option_map_or, option_or}
use Rattle.std.specs.Prelude.{Bool, Contains, List, None, Option, Some, [], cond, false, filter, find, fold, length, map, not, option_map, true, ℕ, ◌&&◌, ◌++◌, ◌==◌, ◌∷◌, ◌≡◌, is_some, option_and_then, slice_get, IsTrue, is_none, nat_lt, ◌^◌, ◌-◌, ◌%◌}

-- ---- lists

found_mapped : (p : Submitted → Bool) (f : Submitted → Submitted) (xs : List Submitted) → ((x : Submitted) → p (f x) ≡ p x) → find p (map f xs) ≡ option_map f (find p xs)
found_mapped p f [] same = refl
found_mapped p f (x ∷ xs) same = ap (λ b. cond b (Some (f x)) (find p (map f xs))) (same x) ∙ (ap (λ o. cond (p x) (Some (f x)) o) (found_mapped p f xs same) ∙ by (p x)) where
  by : (b : Bool) → cond b (Some (f x)) (option_map f (find p xs)) ≡ option_map f (cond b (Some x) (find p xs))
  by true = refl
  by false = refl

none_passes : {A : Type 0} (p : A → Bool) (xs : List A) → ((a : A) → Contains xs a → p a ≡ true → ⊥) → filter p xs ≡ []
none_passes p [] h = refl
none_passes {A} p (x ∷ xs) h = by (p x) refl (none_passes p xs (λ a there. h a (contains_more x xs a there))) where
  by : (b : Bool) → p x ≡ b → filter p xs ≡ [] → cond b (x ∷ filter p xs) (filter p xs) ≡ []
  by true is rest = absurd (h x (contains_first x xs) is)
  by false is rest = rest

-- ---- the calls, with an answer

pub told_is : (past : Trace) (e : Entry) (n : ℕ) (a : Answer) (m : Submitted) → (answered_in past e n a m).call ≡ m.call
told_is past e n a m = by (m.call.number == n) where
  by : (b : Bool) → (let z : Submitted = elim b as (λ t. Submitted) [ false ↦ m | true ↦ record m { answer = option_or m.answer (Some (answer_of past e a m.call)) } ] in z.call) ≡ m.call
  by true = refl
  by false = refl

-- Those that are answered stay.
pub done_stay : (past : Trace) (e : Entry) (n : ℕ) (a : Answer) (ms : List Submitted) → AllByRecursion (λ (m : Submitted). is_some m.answer ≡ true) ms → map (answered_in past e n a) ms ≡ ms
done_stay past e n a [] h = refl
done_stay past e n a (m ∷ ms) h =
    ap₂ (λ x xs. x ∷ xs) (left_alone past e n a m (λ same none. true_is_false (sym h.0 ∙ ap (λ o. is_some o) none))) (done_stay past e n a ms h.1)

ok_has : (m : Submitted) (o : Option Answered) → m.answer ≡ o → is_answered_ok m ≡ true → is_some m.answer ≡ true
ok_has m None is ok = absurd (false_is_true (sym (ap (λ x. some_is (λ (a : Answered). is_ok_answer a.answer) x) is) ∙ ok))
ok_has m (Some a) is ok = ap (λ o. is_some o) is

pub have_answers : (q : Asked) (stages : List Stage) (ms rest : List Submitted) → AllDone q stages ms → AllByRecursion (λ (m : Submitted). is_some m.answer ≡ true) rest
    → AllByRecursion (λ (m : Submitted). is_some m.answer ≡ true) (ms ++ rest)
have_answers q [] [] rest done all = all
have_answers q [] (m ∷ ms) rest done all = absurd done
have_answers q (stage ∷ stages) [] rest done all = absurd done
have_answers q (stage ∷ stages) (m ∷ ms) rest done all = (ok_has m m.answer refl done.1, have_answers q stages ms rest done.2 all)

-- ---- a trace whose newest entry has heard an answer, and made no call, grant or end

abbrev hearing : ℕ → ℕ → Answer → Effects → Entry
hearing now n a fx = record { reading = now; input = Told n a; effects = fx }

-- The effects of before an input.
record IsBareOf (fx : Effects) : Type 0 where
  calls : fx.calls ≡ []
  grants : fx.grants ≡ []
  ends : fx.ends ≡ []

calls_heard : (past : Trace) (now n : ℕ) (a : Answer) (fx : Effects) → IsBareOf fx → submitted (hearing now n a fx ∷ past) ≡ map (answered_in past (hearing now n a fx) n a) (submitted past)
calls_heard past now n a fx b = ap (λ cs. fold (λ ms c. new_call (length past) now c ∷ ms) (map (answered_in past (hearing now n a fx) n a) (submitted past)) cs) b.calls

lease_heard : (st : Setting) (past : Trace) (now n : ℕ) (a : Answer) (fx : Effects) (s : Session) (at : Spot) → IsBareOf fx
    → lease_calls st (hearing now n a fx ∷ past) s at ≡ map (answered_in past (hearing now n a fx) n a) (lease_calls st past s at)
lease_heard st past now n a fx s at b =
    let f : Submitted → Submitted = answered_in past (hearing now n a fx) n a in
    let on : Submitted → Bool = λ m. is_lease_call m && is_on st.layout at m.call in
    ap (λ ms. filter on (filter (is_call_of s) ms)) (calls_heard past now n a fx b)
    ∙ (ap (λ ms. filter on ms) (filter_changed (is_call_of s) f (submitted past) (λ m. ap (λ (c : Call). c.session == s.number) (told_is past (hearing now n a fx) n a m)))
    ∙ filter_changed on f (calls_of past s) (λ m. ap (λ (c : Call). is_some (lease_step c.purpose) && is_on st.layout at c) (told_is past (hearing now n a fx) n a m)))

holdings_heard : (past : Trace) (now n : ℕ) (a : Answer) (fx : Effects) → IsBareOf fx → holdings (hearing now n a fx ∷ past) ≡ holdings past
holdings_heard past now n a fx b =
    ap₂ (λ es gs. filter (λ (g : Grant). not (is_ended_by es g)) (holdings past) ++ gs) b.ends b.grants
    ∙ (append-nil (filter (λ (g : Grant). not (is_ended_by [] g)) (holdings past)) ∙ all_pass (λ (g : Grant). not (is_ended_by [] g)) (holdings past) (λ g. refl))

begun_none : (st : Setting) (past : Trace) (k : ℕ) (now n : ℕ) (a : Answer) (fx : Effects) → begun_in st past k (hearing now n a fx) ≡ []
begun_none st past k now n a fx = by (list_any (λ c. is_join_call FirstRead c.purpose) fx.calls) where
  by : (b : Bool) → (elim b as (λ z. List Session) [ false ↦ [] | true ↦ [] ]) ≡ []
  by true = refl
  by false = refl

sessions_heard : (st : Setting) (past : Trace) (now n : ℕ) (a : Answer) (fx : Effects) → sessions st (hearing now n a fx ∷ past) ≡ sessions st past
sessions_heard st past now n a fx = ap (λ xs. sessions st past ++ xs) (begun_none st past (length (sessions st past)) now n a fx) ∙ append-nil (sessions st past)

last_told : (past : Trace) (e : Entry) (n : ℕ) (a : Answer) (ms : List Submitted) → last_delta (map (answered_in past e n a) ms) ≡ last_delta ms
last_told past e n a [] = refl
last_told past e n a (m ∷ ms) =
    ap (λ (c : Call). elim (option_and_then delta_of_record (record_of c.op)) as (λ z. Option DeltaRec) [ Some d ↦ Some d | None ↦ last_delta (map (answered_in past e n a) ms) ]) (told_is past e n a m)
    ∙ ap (λ r. elim (delta_written m) as (λ z. Option DeltaRec) [ Some d ↦ Some d | None ↦ r ]) (last_told past e n a ms)

pub mine_heard : (past : Trace) (now n : ℕ) (a : Answer) (fx : Effects) (s : Session) → fx.calls ≡ [] → calls_of (record { reading = now; input = Told n a; effects = fx } ∷ past) s
    ≡ map (answered_in past (record { reading = now; input = Told n a; effects = fx }) n a) (calls_of past s)
mine_heard past now n a fx s bare =
    let f : Submitted → Submitted = answered_in past (hearing now n a fx) n a in
    ap (λ cs. filter (is_call_of s) (fold (λ ms c. new_call (length past) now c ∷ ms) (map f (submitted past)) cs)) bare
    ∙ filter_changed (is_call_of s) f (submitted past) (λ m. ap (λ (c : Call). c.session == s.number) (told_is past (hearing now n a fx) n a m))

me_heard : (past : Trace) (now n : ℕ) (a : Answer) (fx : Effects) (s : Session) → IsBareOf fx → me (hearing now n a fx ∷ past) s ≡ me past s
me_heard past now n a fx s b =
    let f : Submitted → Submitted = answered_in past (hearing now n a fx) n a in
    ap (λ ms. let z : Owner = record { id = s.id; generation = generation_in s ms } in z)
    (ap (λ ms. filter (is_call_of s) ms) (calls_heard past now n a fx b)
    ∙ filter_changed (is_call_of s) f (submitted past) (λ m. ap (λ (c : Call). c.session == s.number) (told_is past (hearing now n a fx) n a m)))
    ∙ ap (λ o. let z : Owner = record { id = s.id; generation = option_map_or (λ (d : DeltaRec). d.generation) o (given_number s) } in z) (last_told past (hearing now n a fx) n a (calls_of past s))

command_heard : (st : Setting) (past : Trace) (now n : ℕ) (a : Answer) (fx : Effects) (j : ℕ) → command_numbered st (hearing now n a fx ∷ past) j ≡ command_numbered st past j
command_heard st past now n a fx j = ap (λ js. option_and_then command_of (find (λ (k : Job). k.number == j) js)) (append-nil (jobs st past))

-- ---- all of it

mode_is : (b : Bool) → (elim b as (λ z. Mode) [ true ↦ Shared | false ↦ Exclusive ]) ≡ mode_of b
mode_is true = refl
mode_is false = refl

-- The session's, with whom it counts as over now.
abbrev pub same_then : Setting → Trace → ℕ → Asked → ℕ → Answer → Same
same_then st past now q n a = record q.same { exclusive = None; over = counts_over (heard st past now n a).setting (seen (heard st past now n a)) q.session }

pub record HeardFacts (st : Setting) (past : Trace) (now : ℕ) (q : Asked) (stage : Stage) (c : DaemonOnCourse st past q stage) (answer : Answer) : Type 0 where
  pub answers : Answers (heard st past now (c.call).call.number answer) (WasThere st past now) (c.call).call.number q.session (told_call st past now c.call answer) q.job (step_at q stage)
  pub aim : aim_of (heard st past now (c.call).call.number answer).setting (seen (heard st past now (c.call).call.number answer)) (ForJob q.job) ≡ Some (Acquires (mode_of q.shared))
  pub command : command_numbered (heard st past now (c.call).call.number answer).setting (seen (heard st past now (c.call).call.number answer)) q.job ≡ Some (Acquire q.resource q.shared q.process q.persistent)
  pub spot : spot_of_call (heard st past now (c.call).call.number answer).setting.layout (told_call st past now c.call answer) ≡ spot_of q.resource
  pub known_is : known (heard st past now (c.call).call.number answer).setting (seen (heard st past now (c.call).call.number answer)) q.session (spot_of q.resource)
      ≡ known_with (same_then st past now q (c.call).call.number answer) (told_call st past now c.call answer ∷ (c.older ++ q.before))

pub heard_facts : (st : Setting) (past : Trace) (now : ℕ) (q : Asked) (stage : Stage) → IsSetting st → IsHostTrace st past → IsAskedOf st q → (c : DaemonOnCourse st past q stage) (answer : Answer) → HeardFacts st past now q stage c answer
unfolding known
heard_facts st past now q stage setting host asked c answer = record { answers = answers; aim = aim; command = command; spot = spot_now; known_is = known_is } where
  call : Submitted
  call = c.call

  n : ℕ
  n = call.call.number

  s : Session
  s = q.session

  at : Spot
  at = spot_of q.resource

  y : Step
  y = heard st past now n answer

  fx : Effects
  fx = y.effects

  e : Entry
  e = hearing now n answer fx

  t : Trace
  t = e ∷ past

  f : Submitted → Submitted
  f = answered_in past e n answer

  bare_y : IsBare st past now y
  bare_y = bare_heard st past now n answer

  b : IsBareOf fx
  b = record { calls = bare_y.calls; grants = bare_y.grants; ends = bare_y.ends }

  seen_is : seen y ≡ t
  seen_is = ap₂ (λ r p. (let z : Entry = record { reading = r; input = Told n answer; effects = y.effects } in z) ∷ p) bare_y.reading bare_y.before

  told : (P : Setting → Trace → Type 0) → P st t → P y.setting (seen y)
  told P holds = subst (λ g. P g (seen y)) (sym bare_y.setting) (subst (λ u. P st u) (sym seen_is) holds)

  before : Holds st past
  before = traces_hold st past setting host

  facts : Facts st past None
  facts = before.whole.facts

  there : CallThere st past q call
  there = call_there st past q stage c

  m : Submitted
  m = told_call st past now call answer

  same_call : m.call ≡ call.call
  same_call = told_is past e n answer call

  -- ---- the call and its session

  numbered : call_numbered t n ≡ Some m
  numbered =
      ap (λ ms. find (λ (x : Submitted). x.call.number == n) ms) (calls_heard past now n answer fx b)
      ∙ (found_mapped (λ (x : Submitted). x.call.number == n) f (submitted past) (λ x. ap (λ (k : Call). k.number == n) (told_is past e n answer x))
      ∙ ap (λ o. option_map f o) (facts.calls.found call there.there))

  its_session : session_numbered st t m.call.session ≡ Some s
  its_session =
      ap (λ k. session_numbered st t k) (ap (λ (k : Call). k.session) same_call ∙ there.session) ∙ (ap (λ ss. slice_get ss s.number) (sessions_heard st past now n answer fx) ∙ c.session)

  joined : is_joined past s ≡ true
  joined = joined_there st past s c.active

  present : WasThere st past now s
  present =
      let h : IsBeforeInput st past now (before_input (begin_step st past now)) = heads_are_early st past now before.whole in
      let x : Step = before_input (begin_step st past now) in
      let inside : Contains (sessions st past) s = got_inside (sessions st past) s.number s c.session in
      let spared : list_any (unregisters s.lockspace) x.effects.moves ≡ false =
      h.early.leaves s (subst (λ u. Contains (sessions x.setting u) s) (sym h.before) (subst (λ g. Contains (sessions g past) s) (sym h.setting) inside)) (subst (λ u. is_joined u s ≡ true) (sym h.before) joined) in
      joined_present (seen x) s (subst (λ u. is_joined u s ≡ true) (sym (bare st past now x h))
      (is_still_joined past now x.effects.starts x.effects.replies x.effects.moves x.effects.signals s spared joined))

  answers : Answers y (WasThere st past now) n s m q.job (step_at q stage)
  answers =
      record {
        call = subst (λ u. call_numbered u n ≡ Some m) (sym seen_is) numbered;
        session = told (λ g u. session_numbered g u m.call.session ≡ Some s) its_session;
        present = present;
        purpose = ap (λ (k : Call). k.purpose) same_call ∙ c.is.purpose;
      }

  aim : aim_of y.setting (seen y) (ForJob q.job) ≡ Some (Acquires (mode_of q.shared))
  aim =
      told (λ g u. aim_of g u (ForJob q.job) ≡ Some (Acquires (mode_of q.shared)))
      (ap (λ o. option_and_then aim_of_command o) (command_heard st past now n answer fx q.job ∙ c.command) ∙ ap (λ k. Some (Acquires k)) (mode_is q.shared))

  command : command_numbered y.setting (seen y) q.job ≡ Some (Acquire q.resource q.shared q.process q.persistent)
  command = told (λ g u. command_numbered g u q.job ≡ Some (Acquire q.resource q.shared q.process q.persistent)) (command_heard st past now n answer fx q.job ∙ c.command)

  even_base : at.base % st.layout.area ≡ 0
  even_base = eqb-true (at.base % st.layout.area) 0 (and_true (at.base % st.layout.area == 0) (nat_lt at.base (10 ^ 12)) asked.base).0

  on_it : spot_of_call st.layout call ≡ at
  on_it = spot_is st.layout at call even_base there.on

  spot_now : spot_of_call y.setting.layout m ≡ at
  spot_now =
      ap (λ (g : Setting). spot_of_call g.layout m) bare_y.setting
      ∙ (ap (λ (k : Call). let z : Spot = record { path = k.path; base = k.offset - k.offset % st.layout.area } in z) same_call ∙ on_it)

  -- ---- what is known of the lease

  lease : lease_calls st t s at ≡ m ∷ (c.older ++ q.before)
  lease =
      lease_heard st past now n answer fx s at b
      ∙ (ap (λ ms. map f ms) c.lease ∙ ap (λ ms. m ∷ ms) (done_stay past e n answer (c.older ++ q.before) (have_answers q (stages_before stage) c.older q.before c.done asked.answered)))

  nothing_held : holdings_on past s at ≡ []
  nothing_held = none_passes (λ (g : Grant). same_place g.path g.offset at.path at.base) (holdings_of past s) held where
    work : IsAtWork st past None call q.job (step_at q stage) (Acquire q.resource q.shared q.process q.persistent)
    work = record { there = there.there; opens = inl c.waits; purpose = c.is.purpose; runs = ap (λ o. is_none o) c.runs; command = c.command }

    held : (g : Grant) → Contains (holdings_of past s) g → same_place g.path g.offset at.path at.base ≡ true → ⊥
    held g inside is =
        let both = kept_inside (λ (g : Grant). g.session == s.number) (holdings past) g inside in
        let may = facts.works.beside call q.job (step_at q stage) (Acquire q.resource q.shared q.process q.persistent) (Acquires (mode_of q.shared)) g work (ap (λ k. Some (Acquires k)) (mode_is q.shared)) both.0
        (subst (λ a. IsTrue (same_place g.path g.offset a.path a.base)) (sym on_it) is) in
        may.2 (eqb-true g.session s.number both.1 ∙ sym there.session)

  holds_nothing : holdings_on t s at ≡ []
  holds_nothing = ap (λ hs. filter (λ (g : Grant). same_place g.path g.offset at.path at.base) (filter (λ (g : Grant). g.session == s.number) hs)) (holdings_heard past now n answer fx b) ∙ nothing_held

  self_now : me t s ≡ q.same.self
  self_now = me_heard past now n answer fx s b ∙ c.self

  known_is : known y.setting (seen y) s at ≡ known_with (same_then st past now q n answer) (m ∷ (c.older ++ q.before))
  known_is =
      let over : ℕ → ℕ → Bool = counts_over y.setting (seen y) s in
      let all : LeasePlace → Owner → List Grant → List Submitted → LeaseKnown =
      λ p o hs ms. known_of p.layout p.lockspace o (is_some (find (λ (g : Grant). is_shared g.mode) hs)) (option_map (λ (g : Grant). g.lver) (find (λ (g : Grant). not (is_shared g.mode)) hs)) over ms in
      ap (λ (g : Setting). all (lease_place g s) (me (seen y) s) (holdings_on (seen y) s at) (lease_calls g (seen y) s at)) bare_y.setting
      ∙ (ap (λ u. all (lease_place st s) (me u s) (holdings_on u s at) (lease_calls st u s at)) seen_is
      ∙ (ap (λ p. all p (me t s) (holdings_on t s at) (lease_calls st t s at)) (sym asked.place)
      ∙ (ap (λ o. all q.same.place o (holdings_on t s at) (lease_calls st t s at)) self_now
      ∙ (ap (λ hs. all q.same.place q.same.self hs (lease_calls st t s at)) holds_nothing ∙ ap (λ ms. all q.same.place q.same.self [] ms) lease))))
