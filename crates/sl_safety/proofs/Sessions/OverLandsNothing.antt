-- Nothing of a session lands once it is over. What lands was in flight right before, and one that is over has no write in flight, or its
-- free has landed, and that was sent where all its other calls were answered.
use Rattle.sl_run_law.proofs.Course.CallsAreDistinct.{each_distinct}
use Rattle.sl_run_law.proofs.Course.MachinesMirror.{machines_mirror}
use Rattle.sl_run_law.specs.Course.CallStamps.{AnswersAgree, IsCourseOf}
use Rattle.sl_run_law.proofs.Front.RunsFromFronts.{fronts_are_lawful, last_event, run_after, run_keeps}
use Rattle.sl_words.proofs.Lists.{any_of, contains_cases, contains_none, find_inside, kept}
use Rattle.sl_run_law.proofs.AnswersStay.{flight_waits}
use Rattle.sl_run_law.proofs.CoursesGoOn.{run_tracks}
use Rattle.sl_id_safety.proofs.FrontsOfSteps.{step_next}
use Rattle.sl_id_safety.proofs.FreeIsLast.{freed_answered}
use Rattle.sl_id_safety.proofs.IdSafety.{over_stays}
use Rattle.sl_id_safety.proofs.OverIsQuiet.{freed_by}
use Rattle.sl_id_safety.proofs.State.TraceBridge.{IsKnown, known}
use Rattle.sl_id_safety.proofs.State.LaterFrames.{found_later}
use Rattle.sl_id_safety.proofs.State.SessionFacts.{grounds}
use Rattle.sl_id_safety.specs.State.IdStates.{own_courses}
use Rattle.sl_id_safety.proofs.Steps.OtherSessions.{goes_has}
use Rattle.sl_run_law.proofs.Landing.OneArrival.{Arrival, Lands, first_lands}
use Rattle.sl_run_law.proofs.Landing.CallLists.{one_call}
use Rattle.sl_run_law.proofs.Landing.OneEvent.{step_landings}
use Rattle.sl_run_law.proofs.Place.FoundInLists.{partner}
use Rattle.sl_run.specs.EventChanges.{first_change, next_step}
use Rattle.sl_run.specs.Inputs.{input_of, machine_of}
use Rattle.sl_run.specs.Runs.{Happening}
use Rattle.sl_run.specs.Safety.{Found, IsSession, LawfulRun, SessionId, free_landed, has_write_in_flight, is_course_of, is_over, setting_in, trace_of, was_reset, world_at}
use Rattle.sl_run.specs.Worlds.{Course, Landing, Machine, Program, World, flight_of, is_open, is_write_course, machine_at, world_with}
use Rattle.sl_run.specs.declared.header.Header.{Header}
use Rattle.sl_run_law.specs.CoursesGoOn.{Continues}
use Rattle.sl_safety.proofs.Sessions.SessionsFollow.{IsOverBy, fronts_compare, steps_rise, append_apart}
use Rattle.sl_safety.proofs.Sessions.FollowingJoins.{append_more}
use Rattle.sl_trace.specs.Sessions.{calls_of, ended_after, free_write, is_free_purpose}
use Rattle.sl_trace.specs.Traces.{Answered}
use Rattle.sl_trace.specs.declared.effects.Call.{Call}
use Rattle.sl_words.proofs.CaseLaws.{no_value, none_some, one_value, some_value, true_is_false}
use Rattle.sl_words.proofs.WordLaws.{and_true}
use Rattle.std.proofs.Common.{ap, arith, inl, inr, refl, subst, sym, ◌∙◌}
use Rattle.std.proofs.lemmas.Bool.{and_from, cases_lt, eq-eqb}
use Rattle.std.specs.Prelude.{Bool, Contains, List, None, Option, Some, [], false, is_some, not, true, ℕ, ◌&&◌, ◌++◌, ◌+◌, ◌<◌, ◌==◌, ◌||◌, ◌∷◌, ◌≡◌, ◌≤◌, ◌⊎◌}

-- ---- what lands was in flight

-- A landing was a write in flight at the front before the event that brought it.
pub record WasInFlight (p : Program) (h : Header) (xs : List Happening) (l : Landing) : Type 0 where
  pub before : List Happening
  pub rest : List Happening
  pub whole : xs ≡ before ++ rest
  pub machine : ℕ
  pub host : Machine
  pub number : ℕ
  pub flight : Course
  pub at : machine_at (world_at p h before) machine ≡ Some host
  pub flies : flight_of host number ≡ Some flight
  pub writes : is_write_course flight ≡ true
  pub writer : l.writer ≡ Some (machine, flight.call.number)
  pub now : l.step ≡ (world_at p h before).step

abbrev WereInFlight : Program → Header → List Happening → Type 0
WereInFlight p h xs = (l : Landing) → Contains (world_at p h xs).landings l → WasInFlight p h xs l

flew_on : (p : Program) (h : Header) (now : List Happening) (x : Happening) (l : Landing) → WasInFlight p h now l → WasInFlight p h (now ++ x ∷ []) l
flew_on p h now x l f =
    record {
      before = f.before;
      rest = f.rest ++ x ∷ [];
      whole = ap (λ ys. ys ++ x ∷ []) f.whole ∙ append_more f.before f.rest x;
      machine = f.machine;
      host = f.host;
      number = f.number;
      flight = f.flight;
      at = f.at;
      flies = f.flies;
      writes = f.writes;
      writer = f.writer;
      now = f.now;
    }

flew_now : (p : Program) (h : Header) (now : List Happening) (x : Happening) (v : World) (l : Landing) → (a : Arrival (world_at p h now) v) → a.landing ≡ l
    → WasInFlight p h (now ++ x ∷ []) l
flew_now p h now x v l a is =
    record {
      before = now;
      rest = x ∷ [];
      whole = refl;
      machine = a.machine;
      host = a.host;
      number = a.number;
      flight = a.flight;
      at = a.at;
      flies = a.flies;
      writes = a.writes;
      writer = ap (λ (y : Landing). y.writer) (sym is) ∙ a.writer;
      now = ap (λ (y : Landing). y.step) (sym is) ∙ a.now.0;
    }

flew_by : (p : Program) (h : Header) (now : List Happening) (x : Happening) (v : World) (l : Landing) → WereInFlight p h now → Contains v.landings l → Lands (world_at p h now) v
    → WasInFlight p h (now ++ x ∷ []) l
flew_by p h now x v l each there (inl same) = flew_on p h now x l (each l (subst (λ ls. Contains ls l) same there))
flew_by p h now x v l each there (inr a) =
    elim (contains_cases a.landing (world_at p h now).landings l (subst (λ ls. Contains ls l) a.same there)) as (λ z. WasInFlight p h (now ++ x ∷ []) l) [
      | inl here ↦ flew_now p h now x v l a here
      | inr old ↦ flew_on p h now x l (each l old)
    ]

flew_next : (p : Program) (h : Header) (now : List Happening) (x : Happening) → LawfulRun p h (now ++ x ∷ []) → WereInFlight p h now → WereInFlight p h (now ++ x ∷ [])
flew_next p h now x run each l there =
    let w : World = world_at p h now in
    let last = last_event p h now x run in
    let first : Contains (first_change x.0 w).landings l =
    subst (λ ls. Contains ls l) (ap (λ (v : World). v.landings) last.after ∙ step_landings (machine_of x.0) (input_of w x.0) last.effects (next_step (first_change x.0 w))) there in
    flew_by p h now x (first_change x.0 w) l each first (first_lands x.0 w last.may)

pub was_in_flight : (p : Program) (h : Header) (xs : List Happening) → LawfulRun p h xs → (l : Landing) → Contains (world_at p h xs).landings l → WasInFlight p h xs l
was_in_flight p h xs run = run_keeps p h (WereInFlight p h) (record { first = λ l there. absurd (contains_none l there); next = flew_next p h }) xs run

-- ---- one that is over has no such write

either : (free ended flying : Bool) → (free || ended && not flying) ≡ true → (free ≡ true) ⊎ (flying ≡ false)
either true ended flying is = inl refl
either false true true is = absurd (true_is_false (sym is))
either false true false is = inr refl
either false false flying is = absurd (true_is_false (sym is))

unanswered : (f : Found) (c : Course) (o : Option Answered) (a : Answered) → AnswersAgree f.daemon c o → o ≡ Some a → c.answered ≡ None → ⊥
unanswered f c None a agrees is none = none_some a is
unanswered f c (Some b) a agrees is none = no_value agrees.stamp c.answered agrees.answered none

freed : (w : World) (i : SessionId) (f : Found) → IsKnown w i f → (c : Course) → Contains (own_courses i f.machine) c → is_free_purpose c.call.purpose ≡ false → c.answered ≡ None
    → free_landed i f ≡ true → ⊥
freed w i f kn c own other waits free =
    let x = freed_by (free_write (calls_of (trace_of f) f.session)) _ free in
    let m = partner (IsCourseOf f.daemon) (own_courses i f.machine) (calls_of (trace_of f) f.session) c kn.pairs own in
    let told = freed_answered (setting_in f) (trace_of f) f.session kn.lawful kn.its x.0 x.1 m.0 m.1 (ap (λ (y : Call). is_free_purpose y.purpose) m.2.call ∙ other) in
    unanswered f c m.0.answer told.0 m.2.answers told.1 waits

-- A write of the session that isn't its free is in flight: so it isn't over.
not_over : (w : World) (i : SessionId) (f : Found) → IsKnown w i f → (n : ℕ) (c : Course) → flight_of f.machine n ≡ Some c → is_write_course c ≡ true → is_course_of i c ≡ true
    → is_free_purpose c.call.purpose ≡ false → is_over i f ≡ true → ⊥
not_over w i f kn n c flies writes mine other over = by (either (free_landed i f) (is_some (ended_after (trace_of f) f.session) || was_reset f) (has_write_in_flight i f.machine) over) where
  by : (free_landed i f ≡ true) ⊎ (has_write_in_flight i f.machine ≡ false) → ⊥
  by (inl free) =
      let there = find_inside (λ (y : Course). y.call.number == n && is_open f.machine y) f.machine.calls c flies in
      freed w i f kn c (kept (is_course_of i) f.machine.calls c mine there.0) other (flight_waits f.machine n c flies).1 free
  by (inr none) =
      let there = find_inside (λ (y : Course). y.call.number == n && is_open f.machine y) f.machine.calls c flies in
      let opens = (and_true (c.call.number == n) (is_open f.machine c) there.1).1 in
      true_is_false
      (sym (any_of (λ (y : Course). is_course_of i y && is_write_course y && is_open f.machine y) f.machine.calls c
      (and_from (is_course_of i c && is_write_course c) (is_open f.machine c) (and_from (is_course_of i c) (is_write_course c) mine writes) opens) there.0) ∙ none)

-- ---- so nothing of it lands

too_early : (o s n l : ℕ) → o ≤ n + 1 → n ≤ l → l ≡ s → s + 2 ≤ o → ⊥
too_early o s n l p q r t = omega (arith, p, q, r, t)

-- The front where it is over comes no later than that before the landing.
over_there : (p : Program) (h : Header) (xs : List Happening) → LawfulRun p h xs → (i : SessionId) (n : ℕ) (o : IsOverBy p h xs i n) (l : Landing) (q : WasInFlight p h xs l) → n ≤ l.step
    → (f : Found) × IsSession (world_at p h q.before) i f × (is_over i f ≡ true)
over_there p h xs run i n o l q late = by (fronts_compare o.now o.rest q.before q.rest (sym o.whole ∙ q.whole)) where
  by : ((c : List Happening) × (q.before ≡ o.now ++ c)) ⊎ ((y : Happening) × (c : List Happening) × (o.now ≡ q.before ++ y ∷ c)) → (f : Found) × IsSession (world_at p h q.before) i f × (is_over i f ≡ true)
  by (inl later) =
      let front : LawfulRun p h (o.now ++ later.0) = subst (λ ys. LawfulRun p h ys) later.1 (fronts_are_lawful p h q.before q.rest (subst (λ ys. LawfulRun p h ys) q.whole run)) in
      let g = found_later machines_mirror p h o.now later.0 front i o.found o.its in (
        g.found,
        subst (λ ys. IsSession (world_at p h ys) i g.found) (sym later.1) g.at,
        over_stays p h o.now later.0 front i o.found g.found o.its g.at o.joined o.over,
      )
  by (inr early) =
      let front : LawfulRun p h o.now = fronts_are_lawful p h o.now o.rest (subst (λ ys. LawfulRun p h ys) o.whole run) in
      let two : o.now ≡ (q.before ++ early.0 ∷ []) ++ early.1 = early.2 ∙ sym (append_apart q.before (early.0 ∷ []) early.1) in
      let both : LawfulRun p h ((q.before ++ early.0 ∷ []) ++ early.1) = subst (λ ys. LawfulRun p h ys) two front in
      let rise = steps_rise p h (q.before ++ early.0 ∷ []) early.1 both in
      let next = step_next p h q.before early.0 (fronts_are_lawful p h (q.before ++ early.0 ∷ []) early.1 both) in
      absurd (too_early (world_at p h o.now).step (world_at p h q.before).step n l.step o.early late q.now
      (subst (λ ys. (world_at p h q.before).step + 2 ≤ (world_at p h ys).step) (sym two) (subst (λ k. k ≤ (world_at p h ((q.before ++ early.0 ∷ []) ++ early.1)).step) next rise)))

-- The call in flight is that which is there later.
flight_is : (p : Program) (h : Header) (xs : List Happening) → LawfulRun p h xs → (l : Landing) (q : WasInFlight p h xs l) → (m : ℕ) (a : Machine) (c : Course)
    → machine_at (world_at p h xs) m ≡ Some a → Contains a.calls c → l.writer ≡ Some (m, c.call.number) → (m ≡ q.machine) × Continues q.flight c
flight_is p h xs run l q m a c at has writer =
    let mine : ℕ × ℕ = (m, c.call.number) in
    let its : ℕ × ℕ = (q.machine, q.flight.call.number) in
    let same : mine ≡ its = some_value mine its (sym writer ∙ q.writer) in
    let one : m ≡ q.machine = ap (λ (y : ℕ × ℕ). y.0) same in
    let t = run_tracks (world_at p h q.before) q.rest q.machine q.host q.at in
    let after : machine_at (world_at p h xs) q.machine ≡ Some t.0 =
    ap (λ ys. machine_at (world_at p h ys) q.machine) q.whole ∙ ap (λ v. machine_at v q.machine) (run_after (world_with p h) q.before q.rest) ∙ t.1 in
    let host : t.0 ≡ a = one_value t.0 a (machine_at (world_at p h xs) m) (ap (λ k. machine_at (world_at p h xs) k) one ∙ after) at in
    let there = find_inside (λ (y : Course). y.call.number == q.number && is_open q.host y) q.host.calls q.flight q.flies in
    let d = goes_has q.host.calls t.0.calls q.flight t.2.calls there.0 in
    let call : d.0 ≡ c =
    one_call a.calls d.0 c (each_distinct p h xs run m a at) (subst (λ (b : Machine). Contains b.calls d.0) host d.1) has
    (eq-eqb d.0.call.number c.call.number (ap (λ (y : Call). y.number) d.2.call ∙ ap (λ (y : ℕ × ℕ). y.1) (sym same))) in
    (one, subst (λ e. Continues q.flight e) call d.2)

own_before : (i : SessionId) (c d : Course) → Continues c d → is_course_of i d ≡ true → is_course_of i c ≡ true
own_before i c d r mine =
    ap (λ n. n == i.daemon && c.call.session == i.number) (sym r.daemon) ∙ ap (λ (y : Call). d.daemon == i.daemon && y.session == i.number) (sym r.call) ∙ mine

-- Nothing of a session lands once it is over, but its free.
pub over_lands_not : (p : Program) (h : Header) (xs : List Happening) → LawfulRun p h xs → (i : SessionId) (n : ℕ) → IsOverBy p h xs i n → (l : Landing)
    → Contains (world_at p h xs).landings l → (m : ℕ) (a : Machine) (c : Course) → machine_at (world_at p h xs) m ≡ Some a → Contains a.calls c
    → l.writer ≡ Some (m, c.call.number) → m ≡ i.machine → is_course_of i c ≡ true → is_free_purpose c.call.purpose ≡ false → l.step < n
over_lands_not p h xs run i n o l there m a c at has writer host mine other = by (cases_lt l.step n) where
  never : n ≤ l.step → ⊥
  never late =
      let q = was_in_flight p h xs run l there in
      let f = over_there p h xs run i n o l q late in
      let front = fronts_are_lawful p h q.before q.rest (subst (λ ys. LawfulRun p h ys) q.whole run) in
      let kn = known grounds p h q.before front i f.0 f.1 in
      let same = flight_is p h xs run l q m a c at has writer in
      let machine : q.host ≡ f.0.machine =
      one_value q.host f.0.machine (machine_at (world_at p h q.before) i.machine) (ap (λ k. machine_at (world_at p h q.before) k) (sym host ∙ same.0) ∙ q.at) kn.there.at in
      not_over (world_at p h q.before) i f.0 kn q.number q.flight (subst (λ b. flight_of b q.number ≡ Some q.flight) machine q.flies) q.writes
      (own_before i q.flight c same.1 mine) (ap (λ (y : Call). is_free_purpose y.purpose) (sym same.1.call) ∙ other) f.2

  by : (l.step < n) ⊎ (n ≤ l.step) → l.step < n
  by (inl early) = early
  by (inr late) = absurd (never late)
