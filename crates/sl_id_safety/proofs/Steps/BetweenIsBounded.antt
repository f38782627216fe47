-- The bounds of an id hold between an event's first change and its step: that world stands in a lawful run as this world, or as one
-- before or after an event of its own.
use Rattle.sl_run_law.proofs.Front.RunsFromFronts.{last_event, number_place, run_after, was_there}
use Rattle.sl_run_law.proofs.Front.JoinedLists.{contains_flat, in_flat, placed_at}
use Rattle.sl_id_safety.specs.State.IdStates.{id_state, session_at}
use Rattle.sl_id_safety.specs.State.StateLaws.{IdsAreBounded}
use Rattle.sl_id_safety.proofs.Steps.CallEvents.{NoneHolds, do_landed_between, do_read_between, do_write_between, land_between, on_flying, on_one, passes, sample_between, with_call}
use Rattle.sl_id_safety.proofs.Steps.QuietEvents.{LeavesRest, leaves_by, own_still}
use Rattle.sl_id_safety.proofs.Steps.IdsStayStill.{StaysStill, still_session}
use Rattle.sl_id_safety.specs.Steps.EventParts.{BetweenIsBounded, between, state_between}
use Rattle.sl_ids.specs.Guards.{terms_of}
use Rattle.sl_ids.specs.Runs.{IsBounded}
use Rattle.sl_ids.specs.Terms.{Terms}
use Rattle.sl_run_law.proofs.Landing.InputNeedsDaemon.{own_by as no_calls_by}
use Rattle.sl_run.specs.Lawful.{Orderly}
use Rattle.sl_words.proofs.Lists.{got_inside}
use Rattle.sl_run.specs.EventChanges.{add_landing, after_effects, change_call, fated, first_change, flight_at, happens, next_input, next_step, sampled_more, take_step, write_bytes}
use Rattle.sl_run.specs.Refusals.{event_tests, is_placed, is_read_course, is_shaped, on_flight, on_machine, may_happen, sectors_left}
use Rattle.sl_run.specs.Inputs.{input_of, machine_of}
use Rattle.sl_run.specs.Runs.{EachDaemon, Happening, HasSteps, IsRun, daemons_of, own_effects_of, world_after}
use Rattle.sl_run.specs.Safety.{LawfulRun, world_at}
use Rattle.sl_run.specs.Worlds.{Course, Daemon, Landed, Machine, Program, World, change_machine, daemons_on, first_that, flight_of, is_in_flight, is_of_running, is_torn_fate, is_write_course, machine_at, stamp_now, world_with}
use Rattle.sl_run.specs.declared.event.Event.TheVariants.{AnswerCall, Crash, Do, DropWrite, ExitOf, GiveAsk, GiveCommand, GiveLvm, Land, Pass, Reset, Restart, Sample, SpawnedOf, StartDaemon, Tear, Test, WakeUp}
use Rattle.sl_run.specs.declared.event.Event.{Event}
use Rattle.sl_run.specs.declared.event.Refusal.TheVariants.{MissingCall, MissingDaemon, MissingFlight, MissingLanding, MissingMachine, MissingPlace, MissingSample, Syntax}
use Rattle.sl_run.specs.declared.event.Refusal.{Refusal}
use Rattle.sl_run.specs.declared.header.Header.{Header}
use Rattle.sl_run_law.proofs.MachineWalk.{each_changed, each_further, each_step, index}
use Rattle.sl_run_law.specs.Machines.{EachMachine}
use Rattle.sl_trace.specs.declared.input.Input.{Input}
use Rattle.sl_words.proofs.CaseLaws.{none_some, one_value, some_value, true_is_false}
use Rattle.std.proofs.Common.{ap, arith, refl, subst, sym, tests, ◌∙◌}
use Rattle.std.specs.Prelude.{Bool, Contains, IsSome, List, None, Option, Some, [], false, is_none, length, map, nat_lt, not, option_and_then, slice_get, slice_set, suc, take, true, zero, ℕ, ◌++◌, ◌+◌, ◌-◌, ◌<◌, ◌==◌, ◌∷◌, ◌≡◌, ◌≤◌}

-- ---- where nothing but the step passes

-- Bounds hold before a change that leaves the id.
bounded_still : (r : Terms) (b v : World) (path : List ℕ) (offset : ℕ) → StaysStill b v → v.moment ≡ b.moment → IsBounded r (id_state v path offset)
    → IsBounded r (id_state b path offset)
bounded_still r b v path offset s moment k =
    record {
      pending = λ n is.
          let same = still_session b v path offset s n in
          let until : v.moment < (session_at v path offset n).registered + r.gone = k.pending n (ap (λ x. x.pending) same ∙ is) in
          let from : (session_at v path offset n).registered ≡ (session_at b path offset n).registered = ap (λ x. x.registered) same in
          omega (arith, until, from, moment);
      acting = λ n verified over.
          let same = still_session b v path offset s n in
          let until : v.moment < (session_at v path offset n).renewed + r.gone = k.acting n (ap (λ x. x.verified) same ∙ verified) (ap (λ x. x.over) same ∙ over) in
          let from : (session_at v path offset n).renewed ≡ (session_at b path offset n).renewed = ap (λ x. x.renewed) same in
          omega (arith, until, from, moment);
    }

-- An event that no daemon takes: the bounds hold after it.
by_own : IdsAreBounded → (p : Program) (h : Header) (now : List Happening) (x : Happening) (path : List ℕ) (offset : ℕ) → LawfulRun p h (now ++ x ∷ [])
    → input_of (world_at p h now) x.0 ≡ None → IsBounded (terms_of h.timing) (state_between p h now x.0 path offset)
by_own bounded p h now x path offset run own =
    let last = last_event p h now x run in
    let w : World = world_at p h now in
    let b : World = between w x.0 in
    let none : last.effects.calls ≡ [] = ap (λ fx. fx.calls) (last.own own) ∙ no_calls_by w x.0 (machine_at w (machine_of x.0)) in
    let after : world_at p h (now ++ x ∷ []) ≡ take_step (machine_of x.0) None last.effects b =
    last.after ∙ ap (λ o. take_step (machine_of x.0) o last.effects b) own in
    let r : LeavesRest b (take_step (machine_of x.0) None last.effects b) =
    leaves_by (machine_of x.0) (λ a. after_effects (stamp_now b a) last.effects a) b (machine_at b (machine_of x.0)) in
    bounded_still (terms_of h.timing) b (take_step (machine_of x.0) None last.effects b) path offset (own_still (machine_of x.0) last.effects b none) r.moment
    (subst (λ v. IsBounded (terms_of h.timing) (id_state v path offset)) after (bounded p h (now ++ x ∷ []) path offset run))

-- ---- where nothing changes before the step

never : (i : Input) (o : Option Machine) → option_and_then (λ (a : Machine). let none : Option Input = None in none) o ≡ Some i → ⊥
never i None is = none_some i is
never i (Some a) is = none_some i is

abbrev IsDo : Event → Type 0
IsDo (Do m c) = Unit {0}
IsDo e = ⊥

first_stays : (e : Event) (w : World) (i : Input) → input_of w e ≡ Some i → (IsDo e → ⊥) → first_change e w ≡ w
unfolding first_change
first_stays (WakeUp m) w i is other = refl
first_stays (GiveCommand m text) w i is other = refl
first_stays (GiveLvm m line) w i is other = refl
first_stays (GiveAsk m) w i is other = refl
first_stays (AnswerCall m c ok) w i is other = refl
first_stays (ExitOf m p) w i is other = refl
first_stays (SpawnedOf m p ok) w i is other = refl
first_stays (Do m c) w i is other = absurd (other tt)
first_stays (Pass d growths) w i is other = absurd (never i (machine_at w 0) is)
first_stays (Sample m c k) w i is other = absurd (never i (machine_at w m) is)
first_stays (Land m c) w i is other = absurd (never i (machine_at w m) is)
first_stays (Tear m c k bytes) w i is other = absurd (never i (machine_at w m) is)
first_stays (DropWrite m c) w i is other = absurd (never i (machine_at w m) is)
first_stays (Test m) w i is other = absurd (never i (machine_at w m) is)
first_stays (StartDaemon m name) w i is other = absurd (never i (machine_at w m) is)
first_stays (Crash m) w i is other = absurd (never i (machine_at w m) is)
first_stays (Reset m) w i is other = absurd (never i (machine_at w m) is)
first_stays (Restart m) w i is other = absurd (never i (machine_at w m) is)

-- The bounds hold in a world like the one before.
by_before : IdsAreBounded → (p : Program) (h : Header) (now : List Happening) (e : Event) (path : List ℕ) (offset : ℕ) → LawfulRun p h now
    → between (world_at p h now) e ≡ next_step (world_at p h now) → IsBounded (terms_of h.timing) (state_between p h now e path offset)
by_before bounded p h now e path offset run same =
    subst (λ v. IsBounded (terms_of h.timing) (id_state v path offset)) (sym same) (bounded p h now path offset run)

-- ---- another event in its place

run_more : (w : World) (now rest : List Happening) → IsRun w now → IsRun (world_after w now) rest → IsRun w (now ++ rest)
run_more w [] rest run more = more
run_more w (x ∷ now) rest run more = (run.0, run.1, run_more (happens w x.0 x.1) now rest run.2 more)

abbrev pub SameDaemons : ℕ → Machine → Machine → Type 0
SameDaemons m a b = daemons_on b ≡ daemons_on a

abbrev pub own_happening : World → Event → Happening
own_happening w e = (e, own_effects_of w e ∷ [])

has_steps : (w : World) (e : Event) → input_of w e ≡ None → HasSteps w e (own_effects_of w e ∷ [])
has_steps w e none = by (input_of w e) none where
  by : (o : Option Input) → o ≡ None
      → elim o as (λ z. Type 0) [
        | Some i ↦ (1 ≤ length (own_effects_of w e ∷ [])) × (next_input w e (own_effects_of w e ∷ []) ≡ None)
            × ((k : ℕ) → k < length (own_effects_of w e ∷ []) → IsSome (next_input w e (take k (own_effects_of w e ∷ []))))
        | None ↦ own_effects_of w e ∷ [] ≡ own_effects_of w e ∷ []
      ]
  by None is = refl
  by (Some i) is = absurd (none_some i (sym is))

after_own : (p : Program) (h : Header) (now : List Happening) (e : Event) → input_of (world_at p h now) e ≡ None
    → world_at p h (now ++ own_happening (world_at p h now) e ∷ [])
    ≡ take_step (machine_of e) None (own_effects_of (world_at p h now) e) (between (world_at p h now) e)
after_own p h now e none =
    run_after (world_with p h) now (own_happening (world_at p h now) e ∷ [])
    ∙ ap (λ o. take_step (machine_of e) o (own_effects_of (world_at p h now) e) (between (world_at p h now) e)) none

same_daemons : (p : Program) (h : Header) (now : List Happening) (e : Event) → input_of (world_at p h now) e ≡ None
    → EachMachine SameDaemons (world_at p h now) (between (world_at p h now) e)
    → EachMachine SameDaemons (world_at p h now) (world_at p h (now ++ own_happening (world_at p h now) e ∷ []))
same_daemons p h now e none each =
    let w : World = world_at p h now in
    let b : World = between w e in
    subst (λ v. EachMachine SameDaemons w v) (sym (after_own p h now e none))
    (each_further SameDaemons w b (take_step (machine_of e) None (own_effects_of w e) b) (λ m x y z f g. g ∙ f) each
    (each_step SameDaemons (machine_of e) None (own_effects_of w e) b (λ m a. refl) (λ is a at. refl) (λ i is. absurd (none_some i is))))

was_on : (w v : World) (m : ℕ) (a b c : Machine) (d : Daemon) → machine_at w m ≡ Some a → machine_at v m ≡ Some b → machine_at v m ≡ Some c
    → daemons_on c ≡ daemons_on a → Contains (daemons_on b) d → Contains (daemons_of w) d
was_on w v m a b c d old at new same has =
    in_flat daemons_on w.machines a d (got_inside w.machines (m - 1) a (index w m a old).1)
    (subst (λ ds. Contains ds d) same (subst (λ (x : Machine). Contains (daemons_on x) d) (one_value b c (machine_at v m) at new) has))

on_each : (w v : World) (m : ℕ) (a b : Machine) (d : Daemon) → EachMachine SameDaemons w v → machine_at w m ≡ Some a → machine_at v m ≡ Some b → Contains (daemons_on b) d
    → Contains (daemons_of w) d
on_each w v m a b d each old at has = let new = each m a old in was_on w v m a b new.0 d old at new.1 new.2 has

lawful_on : (p : Program) (h : Header) (now : List Happening) (x : Happening) (m : ℕ) (b : Machine) (d : Daemon) → EachDaemon Orderly (world_at p h now)
    → EachMachine SameDaemons (world_at p h now) (world_at p h (now ++ x ∷ [])) → machine_at (world_at p h (now ++ x ∷ [])) m ≡ Some b → Contains (daemons_on b) d
    → Orderly d.setting d.trace
lawful_on p h now x m b d lawful each at has =
    let old = was_there (world_at p h now) (x ∷ []) m b (ap (λ u. machine_at u m) (sym (run_after (world_with p h) now (x ∷ []))) ∙ at) in
    lawful d (on_each (world_at p h now) (world_at p h (now ++ x ∷ [])) m old.0 b d each old.1 at has)

lawful_after : (p : Program) (h : Header) (now : List Happening) (x : Happening) → EachDaemon Orderly (world_at p h now)
    → EachMachine SameDaemons (world_at p h now) (world_at p h (now ++ x ∷ [])) → EachDaemon Orderly (world_at p h (now ++ x ∷ []))
lawful_after p h now x lawful each d has =
    let on = contains_flat daemons_on (world_at p h (now ++ x ∷ [])).machines d has in
    let place = placed_at (world_at p h (now ++ x ∷ [])).machines on.0 on.1 in
    lawful_on p h now x (suc place.0) on.0 d lawful each (number_place (world_at p h (now ++ x ∷ [])) place.0 on.0 place.1) on.2

-- A run in which this event comes next.
pub other_run : (p : Program) (h : Header) (now : List Happening) (e : Event) → LawfulRun p h now → may_happen (world_at p h now) e ≡ true
    → input_of (world_at p h now) e ≡ None → EachMachine SameDaemons (world_at p h now) (between (world_at p h now) e)
    → LawfulRun p h (now ++ own_happening (world_at p h now) e ∷ [])
other_run p h now e run may none each =
    let w : World = world_at p h now in
    record {
      header = run.header;
      digest = run.digest;
      is_run = run_more (world_with p h) now (own_happening w e ∷ []) run.is_run (may, has_steps w e none, tt);
      lawful = lawful_after p h now (own_happening w e) run.lawful (same_daemons p h now e none each);
    }

pub by_other : IdsAreBounded → (p : Program) (h : Header) (now : List Happening) (e d : Event) (path : List ℕ) (offset : ℕ) → LawfulRun p h now
    → may_happen (world_at p h now) d ≡ true → input_of (world_at p h now) d ≡ None → EachMachine SameDaemons (world_at p h now) (between (world_at p h now) d)
    → between (world_at p h now) e ≡ between (world_at p h now) d → IsBounded (terms_of h.timing) (state_between p h now e path offset)
by_other bounded p h now e d path offset run may none each same =
    subst (λ v. IsBounded (terms_of h.timing) (id_state v path offset)) (sym same)
    (by_own bounded p h now (own_happening (world_at p h now) d) path offset (other_run p h now d run may none each) none)

-- ---- a call that is done

none_refuses : (ts : List (Bool × Refusal)) → NoneHolds ts → is_none (first_that ts) ≡ true
none_refuses [] h = refl
none_refuses ((true, r) ∷ ts) h = absurd (true_is_false h.0)
none_refuses ((false, r) ∷ ts) h = none_refuses ts h.1

may_by : (w : World) (e : Event) → is_shaped w e ≡ true → NoneHolds (event_tests w e) → may_happen w e ≡ true
may_by w e shaped h = none_refuses ((not (is_shaped w e), Syntax) ∷ event_tests w e) (ap not shaped, h)

-- The call in flight that is done, on its disk, while its daemon runs.
pub record DoesOne (w : World) (m n : ℕ) : Type 0 where
  pub machine : Machine
  pub course : Course
  pub at : machine_at w m ≡ Some machine
  pub flight : flight_of machine n ≡ Some course
  pub runs : is_none machine.daemon ≡ false
  pub placed : not (is_placed w course.call) ≡ false

pub does_one : (w : World) (m n : ℕ) → may_happen w (Do m n) ≡ true → DoesOne w m n
unfolding event_tests
does_one w m n may =
    let checks : Course → List (Bool × Refusal) = λ f. (not (is_placed w f.call), MissingPlace) ∷ (is_torn_fate f.fate, MissingLanding) ∷ [] in
    let o = on_one w m (λ a. (is_none a.daemon, MissingDaemon) ∷ on_flight a n (is_of_running a) checks) (passes w (Do m n) may) in
    let f = on_flying o.machine n (is_of_running o.machine) checks o.passes.1 in
    record { machine = o.machine; course = f.course; at = o.at; flight = f.flight; runs = o.passes.0; placed = f.passes.0 }

pub does_flight : (w : World) (m n : ℕ) (d : DoesOne w m n) → flight_at w m n ≡ Some d.course
does_flight w m n d = ap (λ (o : Option Machine). option_and_then (λ a. flight_of a n) o) d.at ∙ d.flight

-- The tests of an event on this machine, and on this call of it.
on_machine_is : (w : World) (m : ℕ) (checks : Machine → List (Bool × Refusal)) (a : Machine) → machine_at w m ≡ Some a → NoneHolds (checks a)
    → NoneHolds (on_machine w m checks)
on_machine_is w m checks a at h =
    subst (λ o. NoneHolds (elim o as (λ z. List (Bool × Refusal)) [ None ↦ (true, MissingMachine) ∷ [] | Some x ↦ checks x ])) (sym at) h

on_flight_is : (a : Machine) (n : ℕ) (kind : Course → Bool) (checks : Course → List (Bool × Refusal)) (c : Course) → flight_of a n ≡ Some c → kind c ≡ true
    → NoneHolds (checks c) → NoneHolds (on_flight a n kind checks)
on_flight_is a n kind checks c at is h =
    subst (λ o. NoneHolds (elim o as (λ z. List (Bool × Refusal)) [
      | None ↦ (true, MissingCall) ∷ []
      | Some x ↦ elim (kind x) as (λ y. List (Bool × Refusal)) [ false ↦ (true, MissingCall) ∷ [] | true ↦ checks x ]
    ])) (sym at) (subst (λ b. NoneHolds (elim b as (λ y. List (Bool × Refusal)) [ false ↦ (true, MissingCall) ∷ [] | true ↦ checks c ])) (sym is) h)

-- A write that is done may land.
pub land_may : (w : World) (m n : ℕ) (d : DoesOne w m n) → is_write_course d.course ≡ true → is_in_flight d.course.fate ≡ true → may_happen w (Land m n) ≡ true
unfolding event_tests
land_may w m n d writes flies =
    let checks : Course → List (Bool × Refusal) = λ f. (not (is_placed w f.call), MissingPlace) ∷ (not (is_in_flight f.fate), MissingFlight) ∷ [] in
    may_by w (Land m n) refl
    (on_machine_is w m (λ a. on_flight a n is_write_course checks) d.machine d.at
    (on_flight_is d.machine n is_write_course checks d.course d.flight writes (d.placed, (ap not flies, tt))))

not_below : (n : ℕ) → nat_lt n n ≡ false
not_below n = grind (arith, tests)

-- The rest of a read that is done may be sampled.
pub sample_may : (w : World) (m n : ℕ) (d : DoesOne w m n) → is_write_course d.course ≡ false → nat_lt 0 (sectors_left d.course) ≡ true
    → may_happen w (Sample m n (sectors_left d.course)) ≡ true
unfolding event_tests
sample_may w m n d reads some =
    let k : ℕ = sectors_left d.course in
    let checks : Course → List (Bool × Refusal) = λ f. (not (is_placed w f.call), MissingPlace) ∷ (nat_lt (sectors_left f) k, MissingSample) ∷ [] in
    may_by w (Sample m n k) some
    (on_machine_is w m (λ a. (is_none a.daemon, MissingDaemon) ∷ on_flight a n is_read_course checks) d.machine d.at
    (d.runs, on_flight_is d.machine n is_read_course checks d.course d.flight (ap not reads) (d.placed, (not_below k, tt))))

-- One call changed, and maybe a landing: the daemons stay.
pub call_daemons : (w u : World) (m n : ℕ) (turn : Course → Course) → u.machines ≡ w.machines → EachMachine SameDaemons w (with_call u m n turn)
call_daemons w u m n turn same k a at =
    each_changed SameDaemons (change_call n turn) u m (λ i x. refl) (λ x there. refl) k a (ap (λ ms. machine_at (record w { machines = ms }) k) same ∙ at)

pub none_in : (o : Option Machine) → option_and_then (λ (a : Machine). let none : Option Input = None in none) o ≡ None
none_in None = refl
none_in (Some a) = refl

-- ---- where all is sampled

nothing_more : {A : Type 0} (xs : List A) → xs ++ [] ≡ xs
nothing_more [] = refl
nothing_more (x ∷ xs) = ap (λ ys. x ∷ ys) (nothing_more xs)

pub sampled_all : (w : World) (c : Course) → sampled_more w 0 c ≡ c
sampled_all w c =
    ap (λ bytes. let x : Course = record c { sampled = bytes; samples = c.samples ++ [] } in x) (nothing_more c.sampled)
    ∙ ap (λ samples. let x : Course = record c { samples = samples } in x) (nothing_more c.samples)

map_same : (p : Course → Bool) (f : Course → Course) (cs : List Course) → ((c : Course) → f c ≡ c)
    → map (λ c. elim (p c) as (λ z. Course) [ true ↦ f c | false ↦ c ]) cs ≡ cs
map_same p f [] same = refl
map_same p f (c ∷ cs) same =
    ap (λ x. x ∷ map (λ c. elim (p c) as (λ z. Course) [ true ↦ f c | false ↦ c ]) cs) (by (p c)) ∙ ap (λ xs. c ∷ xs) (map_same p f cs same)
  where
    by : (b : Bool) → elim b as (λ z. Course) [ true ↦ f c | false ↦ c ] ≡ c
    by true = same c
    by false = refl

set_same : (ms : List Machine) (i : ℕ) (a : Machine) → slice_get ms i ≡ Some a → slice_set ms i a ≡ ms
set_same [] i a h = refl
set_same (x ∷ ms) zero a h = ap (λ y. y ∷ ms) (sym (some_value x a h))
set_same (x ∷ ms) (suc i) a h = ap (λ ys. x ∷ ys) (set_same ms i a h)

pub unchanged : (w : World) (m n : ℕ) (turn : Course → Course) → ((c : Course) → turn c ≡ c) → change_machine m (change_call n turn) w ≡ w
unchanged w m n turn same = by (machine_at w m) refl where
  by : (o : Option Machine) → machine_at w m ≡ o
      → elim o as (λ z. World) [ None ↦ w | Some a ↦ record w { machines = slice_set w.machines (m - 1) (change_call n turn a) } ] ≡ w
  by None is = refl
  by (Some a) is =
      ap (λ cs. let x : World = record w { machines = slice_set w.machines (m - 1) (record a { calls = cs }) } in x) (map_same (λ c. c.call.number == n) turn a.calls same)
      ∙ ap (λ ms. let x : World = record w { machines = ms } in x) (set_same w.machines (m - 1) a (index w m a is).1)

none_left : (n : ℕ) → nat_lt 0 n ≡ false → n ≡ 0
none_left n h = grind (arith, tests)

-- ---- each event

do_read : IdsAreBounded → (p : Program) (h : Header) (now : List Happening) (m n : ℕ) (path : List ℕ) (offset : ℕ) → LawfulRun p h now
    → (d : DoesOne (world_at p h now) m n) → is_write_course d.course ≡ false → (b : Bool) → nat_lt 0 (sectors_left d.course) ≡ b
    → IsBounded (terms_of h.timing) (state_between p h now (Do m n) path offset)
do_read bounded p h now m n path offset run d reads true some =
    let w : World = world_at p h now in
    let k : ℕ = sectors_left d.course in
    by_other bounded p h now (Do m n) (Sample m n k) path offset run (sample_may w m n d reads some) (none_in (machine_at w m))
    (subst (λ v. EachMachine SameDaemons w v) (sym (sample_between w m n k)) (call_daemons w w m n (sampled_more w k) refl))
    (do_read_between w m n d.course (does_flight w m n d) reads ∙ sym (sample_between w m n k))
do_read bounded p h now m n path offset run d reads false none =
    let w : World = world_at p h now in
    by_before bounded p h now (Do m n) path offset run
    (do_read_between w m n d.course (does_flight w m n d) reads ∙ ap (λ k. with_call w m n (sampled_more w k)) (none_left (sectors_left d.course) none)
    ∙ ap (λ u. next_step u) (unchanged w m n (sampled_more w 0) (sampled_all w)))

do_write : IdsAreBounded → (p : Program) (h : Header) (now : List Happening) (m n : ℕ) (path : List ℕ) (offset : ℕ) → LawfulRun p h now
    → (d : DoesOne (world_at p h now) m n) → is_write_course d.course ≡ true → (b : Bool) → is_in_flight d.course.fate ≡ b
    → IsBounded (terms_of h.timing) (state_between p h now (Do m n) path offset)
do_write bounded p h now m n path offset run d writes true flies =
    let w : World = world_at p h now in
    let u : World = add_landing m d.course.call true (write_bytes w d.course.call) w in
    let flight = does_flight w m n d in
    by_other bounded p h now (Do m n) (Land m n) path offset run (land_may w m n d writes flies) (none_in (machine_at w m))
    (subst (λ v. EachMachine SameDaemons w v) (sym (land_between w m n d.course flight)) (call_daemons w u m n (fated Landed) refl))
    (do_write_between w m n d.course flight writes flies ∙ sym (land_between w m n d.course flight))
do_write bounded p h now m n path offset run d writes false done =
    let w : World = world_at p h now in
    by_before bounded p h now (Do m n) path offset run (do_landed_between w m n d.course (does_flight w m n d) writes done)

do_call : IdsAreBounded → (p : Program) (h : Header) (now : List Happening) (m n : ℕ) (path : List ℕ) (offset : ℕ) → LawfulRun p h now
    → (d : DoesOne (world_at p h now) m n) → (b : Bool) → is_write_course d.course ≡ b → IsBounded (terms_of h.timing) (state_between p h now (Do m n) path offset)
do_call bounded p h now m n path offset run d true writes = do_write bounded p h now m n path offset run d writes (is_in_flight d.course.fate) refl
do_call bounded p h now m n path offset run d false reads = do_read bounded p h now m n path offset run d reads (nat_lt 0 (sectors_left d.course)) refl

other : IdsAreBounded → (p : Program) (h : Header) (now : List Happening) (e : Event) (i : Input) (path : List ℕ) (offset : ℕ) → LawfulRun p h now
    → input_of (world_at p h now) e ≡ Some i → (IsDo e → ⊥) → IsBounded (terms_of h.timing) (state_between p h now e path offset)
other bounded p h now e i path offset run is never =
    by_before bounded p h now e path offset run (ap (λ u. next_step u) (first_stays e (world_at p h now) i is never))

told : IdsAreBounded → (p : Program) (h : Header) (now : List Happening) (e : Event) (i : Input) (path : List ℕ) (offset : ℕ) → LawfulRun p h now
    → may_happen (world_at p h now) e ≡ true → input_of (world_at p h now) e ≡ Some i → IsBounded (terms_of h.timing) (state_between p h now e path offset)
told bounded p h now (Do m n) i path offset run may is =
    let d = does_one (world_at p h now) m n may in
    do_call bounded p h now m n path offset run d (is_write_course d.course) refl
told bounded p h now e i path offset run may is = other bounded p h now e i path offset run is (λ never. never)

-- The watchdogs keep the bounds of an id between an event's first change and its step.
pub between_is_bounded_given : IdsAreBounded → BetweenIsBounded
between_is_bounded_given bounded p h now x path offset run = by (input_of (world_at p h now) x.0) refl where
  by : (o : Option Input) → input_of (world_at p h now) x.0 ≡ o → IsBounded (terms_of h.timing) (state_between p h now x.0 path offset)
  by None is = by_own bounded p h now x path offset run is
  by (Some i) is =
      let last = last_event p h now x run in
      told bounded p h now x.0 i path offset last.before last.may is
