-- A call of a world with all that it stands in: its machine, its daemon, its place in the daemon's trace, and its session.
use Rattle.sl_run_law.proofs.Course.CoursesAreCalls.{courses_are_calls}
use Rattle.sl_run_law.specs.Course.CallStamps.{IsCourseOf, Pairwise, courses_of}
use Rattle.sl_run_law.proofs.Front.JoinedLists.{contains_flat, contains_right, in_flat}
use Rattle.sl_run.specs.Lawful.{Orderly}
use Rattle.sl_run_law.proofs.Moment.MachinesInOrder.{calls_more, machines_ordered}
use Rattle.sl_run_law.specs.Moment.Orders.{CallsFall, IsTimed}
use Rattle.sl_run_law.proofs.Place.PlaceLaws.{promised}
use Rattle.sl_run_law.proofs.Place.TracesOnMachines.{IsTraced, owner_of, traced}
use Rattle.sl_words.proofs.Lists.{contains_cases, contains_first, contains_map, contains_more, contains_none, find_inside, in_map as mapped, kept}
use Rattle.sl_words.proofs.Numbers.{next_is_most}
use Rattle.sl_words.proofs.Options.{else_some}
use Rattle.sl_safety.proofs.Resources.NewestCalls.{calls_below, place_above, sent_as}
use Rattle.sl_safety.specs.Resources.SentCalls.{Sent, all_sent}
use Rattle.sl_run.specs.Runs.{Happening}
use Rattle.sl_run.specs.Safety.{LawfulRun, world_at}
use Rattle.sl_run.specs.Worlds.{Course, Daemon, Machine, Program, World, daemon_numbered, daemons_on, machine_at}
use Rattle.sl_run.specs.declared.header.Header.{Header}
use Rattle.sl_run_law.proofs.MachineWalk.{index}
use Rattle.sl_trace.specs.Sessions.{session_numbered}
use Rattle.sl_trace.specs.declared.session.Session.{Session}
use Rattle.sl_trace.specs.Traces.{submitted}
use Rattle.sl_words.proofs.CaseLaws.{none_some, some_value}
use Rattle.std.proofs.Common.{ap, arith, inl, inr, refl, subst, sym, tests, ◌∙◌}
use Rattle.std.proofs.lemmas.Bool.{eq-eqb, eqb-true}
use Rattle.std.specs.List.{enumerate_from}
use Rattle.std.specs.Prelude.{Bool, Contains, List, Some, [], cond, false, filter, map, slice_get, suc, true, zero, ℕ, ◌++◌, ◌+◌, ◌-◌, ◌<◌, ◌==◌, ◌∷◌, ◌≡◌}

-- ---- which machine

abbrev calls_from : ℕ × Machine → List Sent
calls_from p = map (λ c. sent_as p.0 c) p.1.calls

record IsPlace (k : ℕ) (ms : List Machine) (p : ℕ × Machine) : Type 0 where
  place : ℕ
  number : k + place ≡ p.0
  there : slice_get ms place ≡ Some p.1

next_place : (k i n : ℕ) → k + 1 + i ≡ n → k + suc i ≡ n
next_place k i n h = omega (arith, h)

own_place : (k n : ℕ) → k ≡ n → k + 0 ≡ n
own_place k n h = omega (arith, h)

enumerated : (k : ℕ) (ms : List Machine) (p : ℕ × Machine) → Contains (enumerate_from k ms) p → IsPlace k ms p
enumerated k [] p has = absurd (contains_none p has)
enumerated k (m ∷ ms) p has =
    elim (contains_cases (k, m) (enumerate_from (k + 1) ms) p has) as (λ z. IsPlace k (m ∷ ms) p) [
      | inl same ↦ record { place = 0; number = own_place k p.0 (ap (λ q. q.0) same); there = ap (λ q. Some q.1) same }
      | inr more ↦ let r = enumerated (k + 1) ms p more in record { place = suc r.place; number = next_place k r.place p.0 r.number; there = r.there }
    ]

some_number : (i m : ℕ) → 1 + i ≡ m → (m == 0) ≡ false
some_number i m h = grind (arith, tests)

less_one : (i m : ℕ) → 1 + i ≡ m → i ≡ m - 1
less_one i m h = omega (arith, h)

pub machine_of : (w : World) (x : Sent) → Contains (all_sent w) x → (a : Machine) × (machine_at w x.machine ≡ Some a) × Contains a.calls x.course
machine_of w x has =
    let f = contains_flat calls_from (enumerate_from 1 w.machines) x has in
    let q : ℕ × Machine = f.0 in
    let i = enumerated 1 w.machines q f.1 in
    let c = mapped (λ c. sent_as q.0 c) q.1.calls x f.2 in
    let at : machine_at w q.0 ≡ Some q.1 =
    else_some (q.0 == 0) (slice_get w.machines (q.0 - 1)) q.1 (some_number i.place q.0 i.number)
    (ap (λ n. slice_get w.machines n) (sym (less_one i.place q.0 i.number)) ∙ i.there) in
    (q.1, ap (λ y. machine_at w y.machine) (sym c.2) ∙ at, subst (λ (y : Course). Contains q.1.calls y) (ap (λ y. y.course) c.2) c.1)

placed : (k i : ℕ) (ms : List Machine) (a : Machine) → slice_get ms i ≡ Some a → Contains (enumerate_from k ms) (k + i, a)
placed k i [] a at = absurd (none_some a at)
placed k zero (m ∷ ms) a at = subst (λ n. Contains ((k, m) ∷ enumerate_from (k + 1) ms) (n, a)) (sym (own_place k k refl))
    (subst (λ b. Contains ((k, m) ∷ enumerate_from (k + 1) ms) (k, b)) (some_value m a at) (contains_first (k, m) (enumerate_from (k + 1) ms)))
placed k (suc i) (m ∷ ms) a at =
    contains_more (k, m) (enumerate_from (k + 1) ms) (k + suc i, a)
    (subst (λ n. Contains (enumerate_from (k + 1) ms) (n, a)) (sym (next_place k i (k + 1 + i) refl)) (placed (k + 1) i ms a at))

pub sent_there : (w : World) (m : ℕ) (a : Machine) (c : Course) → machine_at w m ≡ Some a → Contains a.calls c → Contains (all_sent w) (sent_as m c)
sent_there w m a c at has =
    let i = index w m a at in
    in_flat calls_from (enumerate_from 1 w.machines) (m, a) (sent_as m c)
    (subst (λ n. Contains (enumerate_from 1 w.machines) (n, a)) (place_above m i.0) (placed 1 (m - 1) w.machines a i.1))
    (contains_map (λ x. sent_as m x) a.calls c has)

-- ---- lists in parts

pub record Parts {A : Type 0} (xs : List A) (x : A) : Type 0 where
  pub newer : List A
  pub older : List A
  pub is : xs ≡ newer ++ x ∷ older

pub parts : {A : Type 0} (xs : List A) (x : A) → Contains xs x → Parts xs x
parts [] x has = absurd (contains_none x has)
parts {A} (y ∷ xs) x has =
    elim (contains_cases y xs x has) as (λ z. Parts (y ∷ xs) x) [
      | inl same ↦ record { newer = []; older = xs; is = ap (λ z. z ∷ xs) same }
      | inr more ↦ let r = parts xs x more in record { newer = y ∷ r.newer; older = r.older; is = ap (λ z. y ∷ z) r.is }
    ]

pub record PairParts {A B : Type 0} (R : A → B → Type 0) (x : A) (xs : List A) (ys : List B) : Type 0 where
  pub newer : List B
  pub one : B
  pub older : List B
  pub is : ys ≡ newer ++ one ∷ older
  pub pair : R x one
  pub pairs : Pairwise R xs older

pub pair_parts : {A B : Type 0} (R : A → B → Type 0) (newer : List A) (x : A) (older : List A) (ys : List B) → Pairwise R (newer ++ x ∷ older) ys → PairParts R x older ys
pair_parts R [] x older [] h = absurd h
pair_parts R [] x older (y ∷ ys) h = record { newer = []; one = y; older = ys; is = refl; pair = h.0; pairs = h.1 }
pair_parts R (z ∷ newer) x older [] h = absurd h
pair_parts R (z ∷ newer) x older (y ∷ ys) h =
    let r = pair_parts R newer x older ys h.1 in
    record { newer = y ∷ r.newer; one = r.one; older = r.older; is = ap (λ l. y ∷ l) r.is; pair = r.pair; pairs = r.pairs }

-- ---- calls that fall

below_too : (a b n : ℕ) → a < b + 1 → b < n → a < n
below_too a b n h k = omega (arith, h, k)

fall_kept_by : (n : ℕ) (c : Course) (rest : List Course) (b : Bool) → (c.made.step < n) → IsTimed c → CallsFall (c.made.step + 1) rest → CallsFall n (cond b (c ∷ rest) rest)
fall_kept_by n c rest true lt is h = (lt, is, h)
fall_kept_by n c rest false lt is h = calls_more (c.made.step + 1) n rest (next_is_most c.made.step n lt) h

fall_kept : (p : Course → Bool) (n : ℕ) (cs : List Course) → CallsFall n cs → CallsFall n (filter p cs)
fall_kept p n [] h = tt
fall_kept p n (c ∷ cs) h = fall_kept_by n c (filter p cs) (p c) h.0 h.1 (fall_kept p (c.made.step + 1) cs h.2)

pub fall_behind : (n : ℕ) (newer : List Course) (c : Course) (older : List Course) → CallsFall n (newer ++ c ∷ older) → IsTimed c × CallsFall (c.made.step + 1) older
fall_behind n [] c older h = (h.1, h.2)
fall_behind n (d ∷ newer) c older h = fall_behind (d.made.step + 1) newer c older h.2

not_less : (a : ℕ) → a < a → ⊥
not_less a h = omega (arith, h)

-- What is of an earlier step stands behind.
never_more : (a b n : ℕ) → a < b → b < a + 1 → ⊥
never_more a b n h k = omega (arith, h, k)

pub stands_behind : (n : ℕ) (newer : List Course) (c : Course) (older : List Course) (d : Course) → CallsFall n (newer ++ c ∷ older) → Contains (newer ++ c ∷ older) d
    → d.made.step < c.made.step → Contains older d
stands_behind n [] c older d fall has less =
    elim (contains_cases c older d has) as (λ z. Contains older d) [
      | inl same ↦ absurd (not_less c.made.step (subst (λ (x : Course). x.made.step < c.made.step) (sym same) less))
      | inr more ↦ more
    ]
stands_behind n (e ∷ newer) c older d fall has less =
    elim (contains_cases e (newer ++ c ∷ older) d has) as (λ z. Contains older d) [
      | inl same ↦
          absurd (never_more d.made.step c.made.step n less
          (subst (λ (x : Course). c.made.step < x.made.step + 1) same (calls_below (e.made.step + 1) (newer ++ c ∷ older) c fall.2 (contains_right newer (c ∷ older) c (contains_first c older)))))
      | inr more ↦ stands_behind (e.made.step + 1) newer c older d fall.2 more less
    ]

-- ---- a call with all that it stands in

pub record Standing (w : World) (x : Sent) : Type 0 where
  pub machine : Machine
  pub at : machine_at w x.machine ≡ Some machine
  pub inside : Contains machine.calls x.course
  pub falls : CallsFall w.step machine.calls
  pub daemon : Daemon
  pub has : Contains (daemons_on machine) daemon
  pub numbered : daemon_numbered machine x.course.daemon ≡ Some daemon
  pub number : daemon.number ≡ x.course.daemon
  pub lawful : Orderly daemon.setting daemon.trace
  pub after : List Course
  pub before : List Course
  pub courses : courses_of machine daemon.number ≡ after ++ x.course ∷ before
  pub told : PairParts (IsCourseOf daemon) x.course before (submitted daemon.trace)
  pub fallen : CallsFall w.step (courses_of machine daemon.number)
  pub timed : IsTimed x.course
  pub fall : CallsFall (x.course.made.step + 1) before
  pub session : Session
  pub known : session_numbered daemon.setting daemon.trace told.one.call.session ≡ Some session

pub standing : (p : Program) (h : Header) (xs : List Happening) → LawfulRun p h xs → (x : Sent) → Contains (all_sent (world_at p h xs)) x → Standing (world_at p h xs) x
standing p h xs run x has =
    let w : World = world_at p h xs in
    let m = machine_of w x has in
    let t : IsTraced m.0 x.course = traced promised p h xs run x.machine m.0 x.course m.1 m.2 in
    let number : t.daemon.number ≡ x.course.daemon =
    eqb-true t.daemon.number x.course.daemon (find_inside (λ (d : Daemon). d.number == x.course.daemon) (daemons_on m.0) t.daemon t.numbered).1 in
    let mine : Contains (courses_of m.0 t.daemon.number) x.course =
    kept (λ (c : Course). c.daemon == t.daemon.number) m.0.calls x.course (eq-eqb x.course.daemon t.daemon.number (sym number)) m.2 in
    let q = parts (courses_of m.0 t.daemon.number) x.course mine in
    let falls : CallsFall w.step m.0.calls = (machines_ordered p h xs run x.machine m.0 m.1).calls in
    let fall : CallsFall w.step (q.newer ++ x.course ∷ q.older) =
    subst (λ cs. CallsFall w.step cs) q.is (fall_kept (λ (c : Course). c.daemon == t.daemon.number) w.step m.0.calls falls) in
    let behind = fall_behind w.step q.newer x.course q.older fall in
    let told = pair_parts (IsCourseOf t.daemon) q.newer x.course q.older (submitted t.daemon.trace)
    (subst (λ cs. Pairwise (IsCourseOf t.daemon) cs (submitted t.daemon.trace)) q.is (courses_are_calls p h xs run x.machine m.0 t.daemon m.1 t.has)) in
    let inside : Contains (submitted t.daemon.trace) told.one =
    subst (λ ms. Contains ms told.one) (sym told.is) (contains_right told.newer (told.one ∷ told.older) told.one (contains_first told.one told.older)) in
    let s = owner_of t.daemon.setting t.daemon.trace told.one t.lawful inside in
    record {
      machine = m.0;
      at = m.1;
      inside = m.2;
      falls = falls;
      daemon = t.daemon;
      has = t.has;
      numbered = t.numbered;
      number = number;
      lawful = t.lawful;
      after = q.newer;
      before = q.older;
      courses = q.is;
      told = told;
      fallen = subst (λ cs. CallsFall w.step cs) (sym q.is) fall;
      timed = behind.0;
      fall = behind.1;
      session = s.0;
      known = ap (λ n. session_numbered t.daemon.setting t.daemon.trace n) s.2 ∙ s.1;
    }
