-- When an answer came: at the front of one event, and at each front before it the call was in flight.
use Rattle.sl_safety.proofs.Resources.Calls.{found_of, owned, owner_found, there_sent}
use Rattle.sl_safety.specs.Resources.SentCalls.{Sent, sender_of}
use Rattle.sl_id_safety.proofs.OverIsQuiet.{GoesOn, goes_on, old_stamp}
use Rattle.sl_id_safety.proofs.State.TracesInTime.{stamp_below}
use Rattle.sl_words.proofs.Lists.{contains_none, kept_inside}
use Rattle.sl_run.specs.EventChanges.{first_change}
use Rattle.sl_run.specs.Runs.{Happening}
use Rattle.sl_run.specs.Safety.{Found, IsSession, LawfulRun, SessionId, is_course_of, session_of_world, trace_of, world_at}
use Rattle.sl_run.specs.Worlds.{Course, Daemon, Machine, Program, Stamp, World, is_of_running, is_open, machine_at, may_land}
use Rattle.sl_run.specs.declared.header.Header.{Header}
use Rattle.sl_run_law.proofs.Beginnings.{begins_new}
use Rattle.sl_run_law.proofs.Course.CallsAreDistinct.{each_distinct}
use Rattle.sl_run_law.proofs.Course.CoursesAreCalls.{courses_are_calls}
use Rattle.sl_run_law.proofs.Front.RunsFromFronts.{fronts_are_lawful, last_event, run_keeps}
use Rattle.sl_run_law.proofs.WorldsGoOn.{first_goes}
use Rattle.sl_run_law.proofs.Landing.CallLists.{one_call}
use Rattle.sl_run_law.proofs.Landing.CallsOfStep.{came}
use Rattle.sl_run_law.proofs.Place.FoundInLists.{partner_of}
use Rattle.sl_run_law.specs.Moment.Orders.{Fall}
use Rattle.sl_run_law.specs.Course.CallStamps.{AnswersAgree, IsAnsweredAs, IsCourseOf, courses_of}
use Rattle.sl_safety.proofs.Value.CallsCome.{WasThere}
use Rattle.sl_safety.proofs.Value.OwnCalls.{OwnCall, own_call}
use Rattle.sl_safety.proofs.Value.ReaderCalls.{is_own}
use Rattle.sl_safety.proofs.Value.ReplyEntries.{answered_by}
use Rattle.sl_trace.specs.Traces.{Answered, Submitted, Trace, submitted}
use Rattle.sl_trace.specs.declared.effects.Call.{Call}
use Rattle.sl_trace.specs.declared.effects.Entry.{Entry}
use Rattle.sl_run_law.proofs.Sessions.CallsAreMade.{answers_stay}
use Rattle.sl_words.proofs.CaseLaws.{no_value, none_some, one_value, some_value, true_is_false}
use Rattle.sl_words.specs.Words.{some_is}
use Rattle.std.proofs.Common.{ap, arith, inl, inr, refl, subst, sym, ◌∙◌}
use Rattle.std.proofs.lemmas.Bool.{and_from, eq-eqb, or_left}
use Rattle.std.proofs.lemmas.List.{append_assoc}
use Rattle.std.specs.Prelude.{Contains, List, None, Option, Some, [], is_none, length, true, ℕ, ◌++◌, ◌+◌, ◌<◌, ◌==◌, ◌||◌, ◌∷◌, ◌≡◌}

-- ---- the front before an answer

pub record CameBefore (p : Program) (h : Header) (xs : List Happening) (s : Stamp) : Type 0 where
  pub before : List Happening
  pub rest : List Happening
  pub whole : xs ≡ before ++ rest
  pub step : s.step ≡ (world_at p h before).step + 1

abbrev AllCame : Program → Header → List Happening → Type 0
AllCame p h xs =
    (m : ℕ) (a : Machine) (c : Course) (s : Stamp) → machine_at (world_at p h xs) m ≡ Some a → Contains a.calls c → c.answered ≡ Some s → CameBefore p h xs s

came_on : (p : Program) (h : Header) (now : List Happening) (x : Happening) (s : Stamp) → CameBefore p h now s → CameBefore p h (now ++ x ∷ []) s
came_on p h now x s c =
    record { before = c.before; rest = c.rest ++ x ∷ []; whole = ap (λ ys. ys ++ x ∷ []) c.whole ∙ append_assoc c.before c.rest (x ∷ []); step = c.step }

one_later : (u w : ℕ) → u ≡ w + 0 → u + 1 ≡ w + 1
one_later u w e = omega (arith, e)

came_next : (p : Program) (h : Header) (now : List Happening) (x : Happening) → LawfulRun p h (now ++ x ∷ []) → AllCame p h now → AllCame p h (now ++ x ∷ [])
came_next p h now x run each m b d s at has is =
    let w : World = world_at p h now in
    let last = last_event p h now x run in
    let from = came w x.0 last.effects m b last.may (sym (ap (λ (v : World). machine_at v m) last.after) ∙ at) in
    let q = from.passage in
    elim (q.stepped.back d has) as (λ z. CameBefore p h (now ++ x ∷ []) s) [
      | inl old ↦
          let t = q.turned.back old.0 old.1 in
          elim old.2.answer as (λ z. CameBefore p h (now ++ x ∷ []) s) [
            | inl same ↦ came_on p h now x s (each m from.before t.0 s from.at t.1 (sym t.2.answered ∙ sym same.0 ∙ is))
            | inr told ↦ record {
              before = now;
              rest = x ∷ [];
              whole = refl;
              step = ap (λ (o : Stamp). o.step) (sym (some_value _ s (sym told.answered ∙ is))) ∙ one_later (first_change x.0 w).step w.step (first_goes x.0 w).step;
            }
          ]
      | inr made ↦ absurd (none_some s (ap (λ (c : Course). c.answered) made.is ∙ is))
    ]

-- Each answer came at an event.
pub all_came : (p : Program) (h : Header) (xs : List Happening) → LawfulRun p h xs → AllCame p h xs
all_came p h xs run =
    run_keeps p h (AllCame p h)
    (record { first = λ m a c s at has is. absurd (contains_none c (subst (λ cs. Contains cs c) (begins_new p h m a at).calls has)); next = came_next p h }) xs run

-- ---- what is done has an answer

abbrev AllDone : Program → Header → List Happening → Type 0
AllDone p h xs = (m : ℕ) (a : Machine) (c : Course) → machine_at (world_at p h xs) m ≡ Some a → Contains a.calls c → c.done ≡ true → (s : Stamp) × (c.answered ≡ Some s)

done_next : (p : Program) (h : Header) (now : List Happening) (x : Happening) → LawfulRun p h (now ++ x ∷ []) → AllDone p h now → AllDone p h (now ++ x ∷ [])
done_next p h now x run each m b d at has done =
    let w : World = world_at p h now in
    let last = last_event p h now x run in
    let from = came w x.0 last.effects m b last.may (sym (ap (λ (v : World). machine_at v m) last.after) ∙ at) in
    let q = from.passage in
    elim (q.stepped.back d has) as (λ z. (s : Stamp) × (d.answered ≡ Some s)) [
      | inl old ↦
          let t = q.turned.back old.0 old.1 in
          elim old.2.answer as (λ z. (s : Stamp) × (d.answered ≡ Some s)) [
            | inl same ↦
                let was = each m from.before t.0 from.at t.1 (sym t.2.done ∙ sym same.1 ∙ done) in
                (was.0, same.0 ∙ t.2.answered ∙ was.1)
            | inr told ↦ (_, told.answered)
          ]
      | inr made ↦ absurd (true_is_false (sym done ∙ ap (λ (c : Course). c.done) (sym made.is)))
    ]

pub all_done : (p : Program) (h : Header) (xs : List Happening) → LawfulRun p h xs → AllDone p h xs
all_done p h xs run =
    run_keeps p h (AllDone p h)
    (record { first = λ m a c at has done. absurd (contains_none c (subst (λ cs. Contains cs c) (begins_new p h m a at).calls has)); next = done_next p h }) xs run

-- ---- in flight before it

not_both : (a b : ℕ) → a < b → b < a → ⊥
not_both a b h k = omega (arith, h, k)

longer : (later : Trace) (e : Entry) (past : Trace) → length past < length (later ++ e ∷ past)
longer [] e past = let n : ℕ = length past in omega arith
longer (x ∷ later) e past = omega (arith, longer later e past)

-- An answer is one of an entry of the trace.
answered_below : (es : Trace) (m : Submitted) (a : Answered) → Contains (submitted es) m → m.answer ≡ Some a → a.at < length es
answered_below es m a has is =
    let b = answered_by es m a has is in
    subst (λ t. a.at < length t) (sym b.whole) (subst (λ n. n < length (b.later ++ b.entry ∷ b.past)) (sym b.place) (longer b.later b.entry b.past))

-- A session's call, and the same call at a front.
record Since (p : Program) (h : Header) (now rest : List Happening) (i : SessionId) (f g : Found) (c d : Course) : Type 0 where
  run : LawfulRun p h (now ++ rest)
  then : OwnCall p h now i g c
  later : OwnCall p h (now ++ rest) i f d
  same : d.call ≡ c.call
  on : GoesOn p h now rest i g f

-- What was answered before the front has that answer later.
answered_then : (p : Program) (h : Header) (now rest : List Happening) (i : SessionId) (f g : Found) (c d : Course) (k : Since p h now rest i f g c d) (s : Stamp) → d.answered ≡ Some s
    → (world_at p h now).step < s.step → (a : Answered) → k.then.call.answer ≡ Some a → ⊥
answered_then p h now rest i f g c d k s told late a is =
    let o = k.then in
    let inside : Contains (submitted (trace_of f)) o.call =
    subst (λ t. Contains (submitted t) o.call) (sym k.on.trace) (answers_stay k.on.newer (trace_of g) o.call a o.inside is) in
    let pair = partner_of (IsCourseOf f.daemon) (courses_of f.machine f.daemon.number) (submitted (trace_of f)) o.call
    (courses_are_calls p h (now ++ rest) k.run i.machine f.machine f.daemon k.later.known.there.at k.later.known.there.has) inside in
    let course = kept_inside (λ (x : Course). x.daemon == f.daemon.number) f.machine.calls pair.0 pair.1 in
    let one : pair.0 ≡ d =
    one_call f.machine.calls pair.0 d (each_distinct p h (now ++ rest) k.run i.machine f.machine k.later.known.there.at) course.0 k.later.there
    (eq-eqb pair.0.call.number d.call.number (ap (λ (y : Call). y.number) (sym pair.2.call ∙ o.is.call ∙ sym k.same))) in
    let its : IsCourseOf f.daemon d o.call = subst (λ (y : Course). IsCourseOf f.daemon y o.call) one pair.2 in
    let ans : IsAnsweredAs f.daemon d a = subst (λ q. AnswersAgree f.daemon d q) is its.answers in
    let same : ans.stamp ≡ s = some_value ans.stamp s (sym ans.answered ∙ told) in
    not_both (world_at p h now).step s.step late
    (subst (λ (y : Stamp). y.step < (world_at p h now).step) same
    (old_stamp p h now rest k.run i g f k.on a.at ans.stamp (answered_below (trace_of g) o.call a o.inside is) ans.entry))

waits_by : (g : Found) (c : Course) (m : Submitted) → AnswersAgree g.daemon c m.answer → (o : Option Answered) → m.answer ≡ o → ((a : Answered) → m.answer ≡ Some a → ⊥) → c.answered ≡ None
waits_by g c m agrees None is never = subst (λ q. AnswersAgree g.daemon c q) is agrees
waits_by g c m agrees (Some a) is never = absurd (never a is)

-- A daemon that has ended answers nothing more.
ended_not : (p : Program) (h : Header) (now rest : List Happening) (i : SessionId) (f g : Found) (c d : Course) (k : Since p h now rest i f g c d) (s : Stamp) → d.answered ≡ Some s
    → (world_at p h now).step < s.step → trace_of f ≡ trace_of g → (o : Option Answered) → k.later.call.answer ≡ o → ⊥
ended_not p h now rest i f g c d k s told late same None is =
    no_value s d.answered told (subst (λ q. AnswersAgree f.daemon d q) is k.later.is.answers)
ended_not p h now rest i f g c d k s told late same (Some a) is =
    let ans : IsAnsweredAs f.daemon d a = subst (λ q. AnswersAgree f.daemon d q) is k.later.is.answers in
    let one : ans.stamp ≡ s = some_value ans.stamp s (sym ans.answered ∙ told) in
    let below : a.at < length (trace_of g) = subst (λ t. a.at < length t) same (answered_below (trace_of f) k.later.call a k.later.inside is) in
    not_both (world_at p h now).step s.step late
    (subst (λ (y : Stamp). y.step < (world_at p h now).step) one (old_stamp p h now rest k.run i g f k.on a.at ans.stamp below ans.entry))

runs_by : (g : Found) (c : Course) → g.machine.daemon ≡ Some g.daemon → g.daemon.number ≡ c.daemon → is_of_running g.machine c ≡ true
runs_by g c runs number = ap (λ o. some_is (λ (x : Daemon). x.number == c.daemon) o) runs ∙ eq-eqb g.daemon.number c.daemon number

-- A call that was answered after a front at which it was there was in flight then.
pub open_then : (p : Program) (h : Header) (now rest : List Happening) → LawfulRun p h (now ++ rest) → (m : ℕ) (a : Machine) (d : Course) → machine_at (world_at p h (now ++ rest)) m ≡ Some a
    → Contains a.calls d → (s : Stamp) → d.answered ≡ Some s → (world_at p h now).step < s.step → (b : WasThere (world_at p h now) m d) → is_open b.machine b.course ≡ true
open_then p h now rest run m a d at has s told late b =
    let w : World = world_at p h now in
    let v : World = world_at p h (now ++ rest) in
    let front : LawfulRun p h now = fronts_are_lawful p h now rest run in
    let x : Sent = record { machine = m; course = d } in
    let k = owned p h (now ++ rest) run x (there_sent v m a d at has) in
    let f : Found = found_of k in
    let i : SessionId = sender_of x in
    let its : IsSession v i f = owner_found v x k in
    let y : Sent = record { machine = m; course = b.course } in
    let j = owned p h now front y (there_sent w m b.machine b.course b.at b.has) in
    let g : Found = found_of j in
    let sender : sender_of y ≡ i =
    ap (λ n. let z : SessionId = record { machine = m; daemon = n; number = b.course.call.session } in z) (sym b.daemon)
    ∙ ap (λ (c : Call). let z : SessionId = record { machine = m; daemon = d.daemon; number = c.session } in z) (sym b.call) in
    let also : IsSession w i g = ap (session_of_world w) (sym sender) ∙ owner_found w y j in
    let mine : is_course_of i b.course ≡ true = subst (λ z. is_course_of z b.course ≡ true) sender (is_own b.course m) in
    let c : Course = b.course in
    let since : Since p h now rest i f g c d =
    record {
      run = run;
      then = own_call p h now front i g also c j.there.has mine;
      later = own_call p h (now ++ rest) run i f its d k.there.has (is_own d m);
      same = b.call;
      on = goes_on p h now rest run i g f also its;
    } in
    let machine : g.machine ≡ b.machine = one_value g.machine b.machine (machine_at w m) j.there.at b.at in
    let none : c.answered ≡ None =
    waits_by g c since.then.call since.then.is.answers since.then.call.answer refl (λ o is. answered_then p h now rest i f g c d since s told late o is) in
    let number : g.daemon.number ≡ c.daemon = since.then.known.there.daemon ∙ b.daemon in
    let runs : is_of_running g.machine c ≡ true =
    elim since.on.running as (λ z. is_of_running g.machine c ≡ true) [
      | inl is ↦ runs_by g c is number
      | inr same ↦ absurd (ended_not p h now rest i f g c d since s told late same since.later.call.answer refl)
    ] in
    subst (λ (z : Machine). is_open z c ≡ true) machine
    (and_from (is_none c.answered) (is_of_running g.machine c || may_land c) (ap (λ o. is_none o) none) (or_left (is_of_running g.machine c) (may_land c) runs))

-- ---- an answer is of the past

past_by : (w : World) (f : Found) (c : Course) (m : Submitted) (s : Stamp) → Fall w.step f.daemon.stamps → AnswersAgree f.daemon c m.answer → c.answered ≡ Some s → (o : Option Answered)
    → m.answer ≡ o → s.step < w.step
past_by w f c m s fall agrees told None is = absurd (no_value s c.answered told (subst (λ q. AnswersAgree f.daemon c q) is agrees))
past_by w f c m s fall agrees told (Some a) is =
    let ans : IsAnsweredAs f.daemon c a = subst (λ q. AnswersAgree f.daemon c q) is agrees in
    subst (λ (y : Stamp). y.step < w.step) (some_value ans.stamp s (sym ans.answered ∙ told)) (stamp_below w.step f.daemon.stamps a.at ans.stamp fall ans.entry)

pub answered_past : (p : Program) (h : Header) (xs : List Happening) → LawfulRun p h xs → (m : ℕ) (a : Machine) (c : Course) (s : Stamp) → machine_at (world_at p h xs) m ≡ Some a
    → Contains a.calls c → c.answered ≡ Some s → s.step < (world_at p h xs).step
answered_past p h xs run m a c s at has told =
    let w : World = world_at p h xs in
    let x : Sent = record { machine = m; course = c } in
    let k = owned p h xs run x (there_sent w m a c at has) in
    let o = own_call p h xs run (sender_of x) (found_of k) (owner_found w x k) c k.there.has (is_own c m) in
    past_by w (found_of k) c o.call s o.known.stamps o.is.answers told o.call.answer refl
