-- Runs go on from their fronts, and what each event of lawful runs keeps is kept.
use Rattle.sl_run_law.proofs.Front.JoinedLists.{contains_flat, contains_right, in_flat, placed_at}
use Rattle.sl_run_law.specs.Front.LawfulFronts.{EventsHaveOneStep, FrontsAreLawful, HasOneStep}
use Rattle.sl_run.proofs.LawFacts.{orderly-front}
use Rattle.sl_run.specs.Lawful.{Orderly}
use Rattle.sl_words.proofs.Lists.{contains_cases, contains_first, contains_more, contains_none, got_inside, next_before, same_place_in}
use Rattle.sl_words.proofs.Numbers.{one_before}
use Rattle.sl_words.proofs.Options.{else_some}
use Rattle.sl_run.specs.EventChanges.{first_change, happens, next_input, next_step, take_step}
use Rattle.sl_run.specs.Inputs.{input_of, machine_of}
use Rattle.sl_run.specs.Refusals.{may_happen}
use Rattle.sl_run.specs.Runs.{EachDaemon, Happening, IsRun, own_effects_of, world_after}
use Rattle.sl_run.specs.Safety.{LawfulRun, world_at}
use Rattle.sl_run.specs.Worlds.{Daemon, Machine, Program, World, daemons_on, machine_at, world_with}
use Rattle.sl_run.specs.declared.event.Event.{Event}
use Rattle.sl_run.specs.declared.header.Header.{Header}
use Rattle.sl_run_law.proofs.Beginnings.{begins_new}
use Rattle.sl_run_law.proofs.WorldsGoOn.{run_goes}
use Rattle.sl_run_law.proofs.DaemonsGoOn.{run_hosts}
use Rattle.sl_run_law.proofs.MachineWalk.{index}
use Rattle.sl_run_law.specs.CoursesGoOn.{Follow, ListGoes}
use Rattle.sl_run_law.specs.DaemonsGoOn.{DaemonGoes, Hosts, IsSettled}
use Rattle.sl_trace.specs.declared.effects.Effects.{Effects}
use Rattle.sl_trace.specs.declared.input.Input.{Input}
use Rattle.sl_words.proofs.CaseLaws.{false_is_true, none_some, one_value}
use Rattle.std.proofs.Common.{ap, arith, inl, inr, refl, subst, sym, ◌∙◌}
use Rattle.std.proofs.lemmas.List.{append-nil}
use Rattle.std.specs.Prelude.{Contains, IsSome, IsTrue, List, None, Option, Some, false, length, slice_get, suc, take, [], ℕ, ◌++◌, ◌-◌, ◌<◌, ◌==◌, ◌∷◌, ◌≡◌, ◌≤◌}

-- ---- one step

abbrev Steps : World → Event → Option Input → List Effects → Type 0
Steps w e o fxs =
    elim o as (λ x. Type 0) [
      | Some i ↦ (1 ≤ length fxs) × (next_input w e fxs ≡ None) × ((k : ℕ) → k < length fxs → IsSome (next_input w e (take k fxs)))
      | None ↦ fxs ≡ own_effects_of w e ∷ []
    ]

one_by : (w : World) (e : Event) (o : Option Input) → input_of w e ≡ o → (fxs : List Effects) → Steps w e o fxs → HasOneStep w e fxs
one_by w e None is fxs h = record { effects = own_effects_of w e; one = h; own = λ none. refl }
one_by w e (Some i) is [] h = absurd (omega (arith, h.0))
one_by w e (Some i) is (fx ∷ []) h = record { effects = fx; one = refl; own = λ none. absurd (none_some i (sym none ∙ is)) }
one_by w e (Some i) is (fx ∷ fy ∷ more) h = absurd (false_is_true (h.2 1 (omega arith)))

pub one_step : EventsHaveOneStep
one_step w e fxs h = one_by w e (input_of w e) refl fxs h

-- ---- fronts

pub run_after : (w : World) (now rest : List Happening) → world_after w (now ++ rest) ≡ world_after (world_after w now) rest
run_after w [] rest = refl
run_after w (x ∷ now) rest = run_after (happens w x.0 x.1) now rest

pub run_front : (w : World) (now rest : List Happening) → IsRun w (now ++ rest) → IsRun w now
run_front w [] rest run = tt
run_front w (x ∷ now) rest run = (run.0, run.1, run_front (happens w x.0 x.1) now rest run.2)

pub run_rest : (w : World) (now rest : List Happening) → IsRun w (now ++ rest) → IsRun (world_after w now) rest
run_rest w [] rest run = run
run_rest w (x ∷ now) rest run = run_rest (happens w x.0 x.1) now rest run.2

-- ---- machines are settled

-- Each machine of the world at first is settled.
settled_first : (p : Program) (h : Header) (m : ℕ) (a : Machine) → machine_at (world_with p h) m ≡ Some a → IsSettled a
settled_first p h m a at = (begins_new p h m a at).settled

-- A machine that is there later was there at first.
pub was_there : (w : World) (xs : List Happening) (m : ℕ) (b : Machine) → machine_at (world_after w xs) m ≡ Some b → (a : Machine) × (machine_at w m ≡ Some a)
was_there w xs m b at =
    let p = index (world_after w xs) m b at in
    let q = same_place_in w.machines (world_after w xs).machines (m - 1) b ((run_goes w xs).machines) p.1 in
    (q.0, else_some (m == 0) (slice_get w.machines (m - 1)) q.0 p.0 q.1)

pub settled_later : (p : Program) (h : Header) (xs : List Happening) → IsRun (world_with p h) xs → (m : ℕ) (b : Machine) → machine_at (world_at p h xs) m ≡ Some b → IsSettled b
settled_later p h xs run m b at =
    let a = was_there (world_with p h) xs m b at in
    let go = run_hosts (world_with p h) xs run m a.0 a.1 in
    subst IsSettled (one_value go.0 b (machine_at (world_at p h xs) m) go.1 at) (go.2 (settled_first p h m a.0 a.1)).settled

-- ---- daemons

follows_in : (ds es : List Daemon) (d : Daemon) → Follow DaemonGoes ds es → Contains ds d → (e : Daemon) × Contains es e × DaemonGoes d e
follows_in [] es d f h = absurd (contains_none d h)
follows_in (x ∷ ds) [] d f h = absurd f
follows_in (x ∷ ds) (y ∷ es) d f h =
    elim (contains_cases x ds d h) as (λ z. (e : Daemon) × Contains (y ∷ es) e × DaemonGoes d e) [
      | inl e ↦ (y, contains_first y es, subst (λ z. DaemonGoes z y) e f.0)
      | inr more ↦ let r = follows_in ds es d f.1 more in (r.0, contains_more y es r.0 r.1, r.2)
    ]

goes_in : (ds es : List Daemon) (d : Daemon) → ListGoes DaemonGoes ds es → Contains ds d → (e : Daemon) × Contains es e × DaemonGoes d e
goes_in ds es d g h =
    let r = follows_in ds g.older d g.follow h in
    (r.0, subst (λ xs. Contains xs r.0) (sym g.same) (contains_right g.newer g.older r.0 r.1), r.2)

-- A daemon later.
pub record Later (w : World) (m : ℕ) (d : Daemon) : Type 0 where
  pub machine : Machine
  pub daemon : Daemon
  pub at : machine_at w m ≡ Some machine
  pub has : Contains (daemons_on machine) daemon
  pub goes : DaemonGoes d daemon

-- Each daemon is there later.
pub daemon_later : (p : Program) (h : Header) (now rest : List Happening) → IsRun (world_with p h) (now ++ rest) → (m : ℕ) (a : Machine) (d : Daemon)
    → machine_at (world_at p h now) m ≡ Some a → Contains (daemons_on a) d → Later (world_at p h (now ++ rest)) m d
daemon_later p h now rest run m a d at has =
    let go = run_hosts (world_at p h now) rest (run_rest (world_with p h) now rest run) m a at in
    let hosts : Hosts a go.0 = go.2 (settled_later p h now (run_front (world_with p h) now rest run) m a at) in
    let r = goes_in (daemons_on a) (daemons_on go.0) d hosts.daemons has in
    record {
      machine = go.0;
      daemon = r.0;
      at = ap (λ w. machine_at w m) (run_after (world_with p h) now rest) ∙ go.1;
      has = r.1;
      goes = r.2;
    }

lawful_before : (d e : Daemon) → DaemonGoes d e → Orderly e.setting e.trace → Orderly d.setting d.trace
lawful_before d e g law =
    subst (λ st. Orderly st d.trace) g.setting (orderly-front e.setting g.trace.newer d.trace (subst (λ t. Orderly e.setting t) g.trace.same law))

pub not_zero : (i : ℕ) → (suc i == 0) ≡ false
not_zero i = grind arith

pub number_place : (w : World) (i : ℕ) (a : Machine) → slice_get w.machines i ≡ Some a → machine_at w (suc i) ≡ Some a
number_place w i a h = else_some (suc i == 0) (slice_get w.machines (suc i - 1)) a (not_zero i) (ap (λ k. slice_get w.machines k) (one_before i) ∙ h)

lawful_fronts : (p : Program) (h : Header) (now rest : List Happening) → IsRun (world_with p h) (now ++ rest) → EachDaemon Orderly (world_at p h (now ++ rest))
    → EachDaemon Orderly (world_at p h now)
lawful_fronts p h now rest run each d has =
    let w : World = world_at p h now in
    let on = contains_flat daemons_on w.machines d has in
    let place = placed_at w.machines on.0 on.1 in
    let later = daemon_later p h now rest run (suc place.0) on.0 d (number_place w place.0 on.0 place.1) on.2 in
    let there = index (world_at p h (now ++ rest)) (suc place.0) later.machine later.at in
    lawful_before d later.daemon later.goes
    (each later.daemon (in_flat daemons_on (world_at p h (now ++ rest)).machines later.machine later.daemon
    (got_inside (world_at p h (now ++ rest)).machines (suc place.0 - 1) later.machine there.1) later.has))

pub fronts_are_lawful : FrontsAreLawful
fronts_are_lawful p h now rest run =
    record {
      header = run.header;
      digest = run.digest;
      is_run = run_front (world_with p h) now rest run.is_run;
      lawful = lawful_fronts p h now rest run.is_run run.lawful;
    }

-- ---- along lawful runs

-- What holds at first and is kept by each event of lawful runs.
pub record IsKeptInRuns (p : Program) (h : Header) (P : List Happening → Type 0) : Type 0 where
  pub first : P []
  pub next : (now : List Happening) (x : Happening) → LawfulRun p h (now ++ x ∷ []) → P now → P (now ++ x ∷ [])

keeps_on : (p : Program) (h : Header) (P : List Happening → Type 0) → IsKeptInRuns p h P → (now rest : List Happening) → P now → LawfulRun p h (now ++ rest) → P (now ++ rest)
keeps_on p h P k now [] so run = subst P (sym (append-nil now)) so
keeps_on p h P k now (x ∷ rest) so run =
    let run' : LawfulRun p h ((now ++ x ∷ []) ++ rest) = subst (λ xs. LawfulRun p h xs) (sym (next_before now x rest)) run in
    subst P (next_before now x rest)
    (keeps_on p h P k (now ++ x ∷ []) rest (k.next now x (fronts_are_lawful p h (now ++ x ∷ []) rest run') so) run')

-- It holds after each lawful run.
pub run_keeps : (p : Program) (h : Header) (P : List Happening → Type 0) → IsKeptInRuns p h P → (xs : List Happening) → LawfulRun p h xs → P xs
run_keeps p h P k xs run = keeps_on p h P k [] xs k.first run

-- The last event of a run: it may happen, has one step, and makes the world what it is.
pub record IsLast (p : Program) (h : Header) (now : List Happening) (x : Happening) : Type 0 where
  pub effects : Effects
  pub before : LawfulRun p h now
  pub may : IsTrue (may_happen (world_at p h now) x.0)
  pub own : input_of (world_at p h now) x.0 ≡ None → effects ≡ own_effects_of (world_at p h now) x.0
  pub after : world_at p h (now ++ x ∷ []) ≡ take_step (machine_of x.0) (input_of (world_at p h now) x.0) effects (next_step (first_change x.0 (world_at p h now)))

pub last_event : (p : Program) (h : Header) (now : List Happening) (x : Happening) → LawfulRun p h (now ++ x ∷ []) → IsLast p h now x
last_event p h now x run =
    let last = run_rest (world_with p h) now (x ∷ []) run.is_run in
    let one : HasOneStep (world_at p h now) x.0 x.1 = one_step (world_at p h now) x.0 x.1 last.1 in
    record {
      effects = one.effects;
      before = fronts_are_lawful p h now (x ∷ []) run;
      may = last.0;
      own = one.own;
      after = run_after (world_with p h) now (x ∷ []) ∙ ap (λ fxs. happens (world_at p h now) x.0 fxs) one.one;
    }
