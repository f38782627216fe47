-- What is in flight after an event was so before, or is made by it.
use Rattle.sl_words.proofs.Lists.{contains_cases, contains_first, contains_more, find_inside, in_map}
use Rattle.sl_words.proofs.Numbers.{number_itself}
use Rattle.sl_headline.specs.Quiet.Area.CalmAreas.{IsMadeNow, OpenCallsGoOn, WasOpen}
use Rattle.sl_run.specs.EventChanges.{after_step, close_answered, daemon_number, first_change, happens, new_course, next_step, take_step, with_entry}
use Rattle.sl_run.specs.Inputs.{input_of, machine_of}
use Rattle.sl_run.specs.Runs.{Happening, IsRun}
use Rattle.sl_run.specs.Safety.{LawfulRun, world_at}
use Rattle.sl_run.specs.Worlds.{Course, Daemon, Machine, Program, Stamp, World, daemons_on, flight_of, is_of_running, is_open, machine_at, may_land, stamp_now, world_with}
use Rattle.sl_run.specs.declared.event.Event.{Event}
use Rattle.sl_run.specs.declared.header.Header.{Header}
use Rattle.sl_run_law.proofs.Course.AnsweredCalls.{only_flight}
use Rattle.sl_run_law.proofs.Course.CountedDaemons.{counted_after}
use Rattle.sl_run_law.proofs.Course.Daemons.{entry_of, every_has, step_daemon}
use Rattle.sl_run_law.proofs.Course.CallsAreDistinct.{each_distinct, made_calls, step_calls}
use Rattle.sl_run_law.proofs.Course.MachinesKeep.{Goes_on}
use Rattle.sl_run_law.proofs.Course.DaemonRuns.{runs_then}
use Rattle.sl_run_law.proofs.Course.MachineTurns.{Alone, Becomes, becomes, Began, Called, Came_up, Clocked, Crashed, Elsewhere, IsQuiet, KeepsAsking, Stays, Stepped, Tested, Took, Turned, Went_down, own_quiet}
use Rattle.sl_run_law.proofs.CourseLists.{changed_if}
use Rattle.sl_run_law.proofs.Front.RunsFromFronts.{fronts_are_lawful, one_step, run_after, run_rest, settled_later, was_there}
use Rattle.sl_run_law.proofs.CoursesGoOn.{told}
use Rattle.sl_run_law.specs.Front.LawfulFronts.{HasOneStep}
use Rattle.sl_run_law.specs.FatesStay.{AreDistinct}
use Rattle.sl_trace.specs.Traces.{is_ok_answer}
use Rattle.sl_trace.specs.declared.effects.Call.{Call}
use Rattle.sl_trace.specs.declared.effects.Effects.{Effects}
use Rattle.sl_trace.specs.declared.effects.Entry.{Entry}
use Rattle.sl_trace.specs.declared.input.Input.TheVariants.{Answer as Told, Exit, Line, Number, Spawned, Wake}
use Rattle.sl_trace.specs.declared.input.Input.{Input}
use Rattle.sl_words.proofs.CaseLaws.{false_is_true, one_value}
use Rattle.sl_words.proofs.WordLaws.{and_true}
use Rattle.sl_words.specs.Words.{some_is}
use Rattle.std.proofs.Common.{ap, arith, inl, inr, refl, subst, sym, tests, ◌∙◌}
use Rattle.std.specs.Option.{option_map_or}
use Rattle.std.specs.Prelude.{Bool, Contains, IsSome, List, None, Option, Some, [], false, is_none, length, option_map, true, ℕ, ◌&&◌, ◌++◌, ◌<◌, ◌==◌, ◌∷◌, ◌≡◌, ◌||◌, ◌⊎◌}

-- ---- what an event changes before a step

it_was : (a : Machine) (d : Course) → Contains a.calls d → is_open a d ≡ true → WasOpen a d
it_was a d has opens = record { course = d; has = has; call = refl; daemon = refl; opens = opens }

-- Where no daemon runs, or one of another number, a call that is in flight was in flight with any.
lands_only : (answered lands runs : Bool) → (answered && (false || lands)) ≡ true → (answered && (runs || lands)) ≡ true
lands_only true true true h = refl
lands_only true true false h = refl
lands_only true false runs h = absurd (false_is_true h)
lands_only false lands runs h = h

others_only : (answered lands runs was : Bool) → runs ≡ false → (answered && (runs || lands)) ≡ true → (answered && (was || lands)) ≡ true
others_only answered lands runs was none h = lands_only answered lands was (ap (λ b. answered && (b || lands)) (sym none) ∙ h)

changed_was : (a : Machine) (n : ℕ) (f : Course → Course) (g : Course) (d : Course) (c : Course) (t : Bool) → (c.call.number == n) ≡ t → KeepsAsking f → (t ≡ true → c ≡ g) → is_open a g ≡ true
    → Contains a.calls c → changed_if t f c ≡ d → is_open a d ≡ true → WasOpen a d
changed_was a n f g d c true is keeps one flies has same opens =
    record {
      course = c;
      has = has;
      call = sym (keeps.call c) ∙ ap (λ (x : Course). x.call) same;
      daemon = sym (keeps.daemon c) ∙ ap (λ (x : Course). x.daemon) same;
      opens = ap (λ x. is_open a x) (one refl) ∙ flies;
    }
changed_was a n f g d c false is keeps one flies has same opens =
    record { course = c; has = has; call = ap (λ (x : Course). x.call) same; daemon = ap (λ (x : Course). x.daemon) same; opens = ap (λ x. is_open a x) same ∙ opens }

flight_opens : (a : Machine) (n : ℕ) (g : Course) → flight_of a n ≡ Some g → is_open a g ≡ true
flight_opens a n g is = (and_true (g.call.number == n) (is_open a g) (find_inside (λ (c : Course). c.call.number == n && is_open a c) a.calls g is).1).1

turned_open : (w : World) (e : Event) (m : ℕ) (a b : Machine) (d : Course) → AreDistinct a.calls → ((c : Course) → Contains a.calls c → c.daemon < length (daemons_on a)) → Turned w e m a b → Contains b.calls d
    → is_open b d ≡ true → WasOpen a d
turned_open w e m a b d apart below (Stays is) has opens = it_was a d (subst (λ (x : Machine). Contains x.calls d) is has) (subst (λ x. is_open x d ≡ true) is opens)
turned_open w e m a b d apart below (Clocked k is) has opens = it_was a d (subst (λ (x : Machine). Contains x.calls d) is has) (subst (λ x. is_open x d ≡ true) is opens)
turned_open w e m a b d apart below (Tested t is) has opens = it_was a d (subst (λ (x : Machine). Contains x.calls d) is has) (subst (λ x. is_open x d ≡ true) is opens)
turned_open w e m a b d apart below (Came_up event up is) has opens = it_was a d (subst (λ (x : Machine). Contains x.calls d) is has) (subst (λ x. is_open x d ≡ true) is opens)
turned_open w e m a b d apart below (Crashed event is) has opens =
    it_was a d (subst (λ (x : Machine). Contains x.calls d) is has) (lands_only (is_none d.answered) (may_land d) (is_of_running a d) (subst (λ x. is_open x d ≡ true) is opens))
turned_open w e m a b d apart below (Went_down event up is) has opens =
    it_was a d (subst (λ (x : Machine). Contains x.calls d) is has) (lands_only (is_none d.answered) (may_land d) (is_of_running a d) (subst (λ x. is_open x d ≡ true) is opens))
turned_open w e m a b d apart below (Began name event up used fresh is) has opens =
    let old : Contains a.calls d = subst (λ (x : Machine). Contains x.calls d) is has in
    it_was a d old
    (others_only (is_none d.answered) (may_land d) (length (daemons_on a) == d.daemon) (is_of_running a d) (turned_number d.daemon (length (daemons_on a)) (below d old)) (subst (λ x. is_open x d ≡ true) is opens)) where
      turned_number : (n k : ℕ) → n < k → (k == n) ≡ false
      turned_number n k less = grind (arith, tests, less)
turned_open w e m a b d apart below (Called n f g flight keeps is) has opens =
    let from = in_map (λ c. changed_if (c.call.number == n) f c) a.calls d (subst (λ (x : Machine). Contains x.calls d) is has) in
    changed_was a n f g d from.0 (from.0.call.number == n) refl keeps (every_has (λ x. (x.call.number == n) ≡ true → x ≡ g) a.calls from.0 (only_flight a n g flight apart) from.1) (flight_opens a n g flight)
    from.1 from.2 (subst (λ x. is_open x d ≡ true) is opens)

-- ---- what a step makes

made_cases : (now : Stamp) (n : ℕ) (cs : List Course) (calls : List Call) (d : Course) → Contains (made_calls now n cs calls) d → Contains cs d ⊎ ((c : Call) × Contains calls c × (new_course now n c ≡ d))
made_cases now n cs [] d has = inl has
made_cases now n cs (c ∷ calls) d has = by (made_cases now n (new_course now n c ∷ cs) calls d has) where
  first : (new_course now n c ≡ d) ⊎ Contains cs d → Contains cs d ⊎ ((k : Call) × Contains (c ∷ calls) k × (new_course now n k ≡ d))
  first (inl new) = inr (c, contains_first c calls, new)
  first (inr old) = inl old

  by : Contains (new_course now n c ∷ cs) d ⊎ ((k : Call) × Contains calls k × (new_course now n k ≡ d)) → Contains cs d ⊎ ((k : Call) × Contains (c ∷ calls) k × (new_course now n k ≡ d))
  by (inl more) = first (contains_cases (new_course now n c) cs d more)
  by (inr (k, there, new)) = inr (k, contains_more c calls k there, new)

closed_was : (b : Machine) (now : Stamp) (ok : Bool) (c d : Course) (t : Bool) → Contains b.calls c → changed_if t (told now ok) c ≡ d → is_open b d ≡ true → WasOpen b d
closed_was b now ok c d true has same opens = absurd (false_is_true (ap (λ (x : Course). is_open b x) same ∙ opens))
closed_was b now ok c d false has same opens =
    record { course = c; has = has; call = ap (λ (x : Course). x.call) same; daemon = ap (λ (x : Course). x.daemon) same; opens = ap (λ x. is_open b x) same ∙ opens }

closed_open : (b : Machine) (now : Stamp) (i : Input) (d : Course) → Contains (close_answered now i b).calls d → is_open b d ≡ true → WasOpen b d
closed_open b now (Told n answer) d has opens =
    let from = in_map (λ c. changed_if (c.call.number == n) (told now (is_ok_answer answer)) c) b.calls d has in
    closed_was b now (is_ok_answer answer) from.0 d (from.0.call.number == n) from.1 from.2 opens
closed_open b now (Line text) d has opens = it_was b d has opens
closed_open b now (Number text) d has opens = it_was b d has opens
closed_open b now (Exit p) d has opens = it_was b d has opens
closed_open b now (Spawned p ok) d has opens = it_was b d has opens
closed_open b now Wake d has opens = it_was b d has opens

same_running : (o : Option Daemon) (e : Entry) (now : Stamp) (d : Course) → some_is (λ (x : Daemon). x.number == d.daemon) (option_map (with_entry e now) o) ≡ some_is (λ (x : Daemon). x.number == d.daemon) o
same_running None e now d = refl
same_running (Some x) e now d = refl

running_then : (now : Stamp) (i : Input) (fx : Effects) (b : Machine) (d : Course) → is_of_running (after_step now i fx b) d ≡ is_of_running b d
running_then now i fx b d = ap (λ o. some_is (λ (x : Daemon). x.number == d.daemon) o) (step_daemon now i fx b) ∙ same_running b.daemon (entry_of i fx b) now d

open_then : (now : Stamp) (i : Input) (fx : Effects) (b : Machine) (d : Course) → is_open (after_step now i fx b) d ≡ true → is_open b d ≡ true
open_then now i fx b d opens = ap (λ r. is_none d.answered && (r || may_land d)) (sym (running_then now i fx b d)) ∙ opens

was_through : (a b : Machine) (d : Course) → ((c : Course) → Contains b.calls c → is_open b c ≡ true → WasOpen a c) → WasOpen b d → WasOpen a d
was_through a b d before w =
    let v : WasOpen a w.course = before w.course w.has w.opens in
    record { course = v.course; has = v.has; call = v.call ∙ w.call; daemon = v.daemon ∙ w.daemon; opens = v.opens }

stepped_open : (p : Program) (h : Header) (now : List Happening) (x : Happening) (m : ℕ) (a c : Machine) (g : Goes_on p h now x m a c) → Contains x.1 g.effects → (d : Course) → Contains c.calls d → is_open c d ≡ true
    → (b : Machine) → Turned (world_at p h now) x.0 m a b → Stepped (world_at p h now) x.0 g.effects m b c → ((k : Course) → Contains b.calls k → is_open b k ≡ true → WasOpen a k)
    → WasOpen a d ⊎ IsMadeNow (world_at p h now) x m c d
stepped_open p h now x m a c g step d has opens b turned (Elsewhere is) before = inl (before d (subst (λ (y : Machine). Contains y.calls d) is has) (subst (λ y. is_open y d ≡ true) is opens))
stepped_open p h now x m a c g step d has opens b turned (Alone none same is) before =
    let stamp : Stamp = stamp_now (next_step (first_change x.0 (world_at p h now))) b in
    let quiet : g.effects.calls ≡ [] = (subst IsQuiet (sym (g.own none)) (own_quiet (world_at p h now) x.0)).calls in
    let there : Contains (made_calls stamp (daemon_number b) b.calls g.effects.calls) d = subst (λ (y : Machine). Contains y.calls d) is has in
    inl (before d (subst (λ cs. Contains (made_calls stamp (daemon_number b) b.calls cs) d) quiet there) (subst (λ y. is_open y d ≡ true) is opens))
stepped_open p h now x m a c g step d has opens b turned (Took i given same is) before =
    by (made_cases stamp (daemon_number b) (close_answered stamp i b).calls g.effects.calls d (subst (λ cs. Contains cs d) (step_calls stamp i g.effects b) (subst (λ (y : Machine). Contains y.calls d) is has))) where
      stamp : Stamp
      stamp = stamp_now (next_step (first_change x.0 (world_at p h now))) b

      open_b : is_open b d ≡ true
      open_b = open_then stamp i g.effects b d (subst (λ y. is_open y d ≡ true) is opens)

      by : Contains (close_answered stamp i b).calls d ⊎ ((k : Call) × Contains g.effects.calls k × (new_course stamp (daemon_number b) k ≡ d)) → WasOpen a d ⊎ IsMadeNow (world_at p h now) x m c d
      by (inl old) = inl (was_through a b d before (closed_open b stamp i d old open_b))
      by (inr (k, there, new)) =
          let r = runs_then (world_at p h now) x.0 m a b i g.may g.at same given turned in
          inr (record {
            machine = sym same;
            input = subst (λ o. IsSome o) (sym given) refl;
            effects = g.effects;
            step = step;
            call = subst (λ (y : Course). Contains g.effects.calls y.call) new there;
            runs = subst (λ y. is_of_running y d ≡ true) (sym is)
                (running_then stamp i g.effects b d
                ∙ (ap (λ o. some_is (λ (y : Daemon). y.number == d.daemon) o) r.1
                ∙ ap (λ n. r.0.number == n) (sym (ap (λ (y : Course). y.daemon) new) ∙ ap (λ o. option_map_or (λ (y : Daemon). y.number) o 0) r.1) ∙ number_itself r.0.number));
          })

-- The event with its one step.
went_on : (p : Program) (h : Header) (now : List Happening) (x : Happening) → LawfulRun p h (now ++ x ∷ []) → (m : ℕ) (b : Machine) → machine_at (world_at p h (now ++ x ∷ [])) m ≡ Some b
    → (a : Machine) × (g : Goes_on p h now x m a b) × Contains x.1 g.effects
went_on p h now x run m b later = (a.0, goes, subst (λ fxs. Contains fxs one.effects) (sym one.one) (contains_first one.effects [])) where
  w : World
  w = world_at p h now

  last : IsRun w (x ∷ [])
  last = run_rest (world_with p h) now (x ∷ []) run.is_run

  one : HasOneStep w x.0 x.1
  one = one_step w x.0 x.1 last.1

  after : world_at p h (now ++ x ∷ []) ≡ take_step (machine_of x.0) (input_of w x.0) one.effects (next_step (first_change x.0 w))
  after = run_after (world_with p h) now (x ∷ []) ∙ ap (λ fxs. happens w x.0 fxs) one.one

  before : LawfulRun p h now
  before = fronts_are_lawful p h now (x ∷ []) run

  a : (a : Machine) × (machine_at w m ≡ Some a)
  a = was_there w (x ∷ []) m b (ap (λ v. machine_at v m) (sym (run_after (world_with p h) now (x ∷ []))) ∙ later)

  q : (c : Machine) × (machine_at (take_step (machine_of x.0) (input_of w x.0) one.effects (next_step (first_change x.0 w))) m ≡ Some c) × Becomes w x.0 one.effects m a.0 c
  q = becomes w x.0 one.effects last.0 m a.0 a.1

  goes : Goes_on p h now x m a.0 b
  goes =
      record {
        run = run;
        before = before;
        may = last.0;
        effects = one.effects;
        own = one.own;
        at = a.1;
        later = later;
        becomes = subst (Becomes w x.0 one.effects m a.0) (one_value q.0 b (machine_at (world_at p h (now ++ x ∷ [])) m) (ap (λ v. machine_at v m) after ∙ q.1) later) q.2;
        settled = settled_later p h now before.is_run m a.0 a.1;
      }

pub open_calls_go_on : OpenCallsGoOn
open_calls_go_on p h now x run m b d at has opens =
    by a.0 g (stepped_open p h now x m a.0 b g a.2 d has opens g.becomes.middle g.becomes.turned g.becomes.stepped
    (λ k there flies. turned_open w x.0 m a.0 g.becomes.middle k (each_distinct p h now g.before m a.0 g.at)
    (λ c inside. every_has (λ y. y.daemon < length (daemons_on a.0)) (a.0).calls c (counted_after p h now g.before m a.0 g.at).daemons inside) g.becomes.turned there flies)) where
      w : World
      w = world_at p h now

      a : (a : Machine) × (g : Goes_on p h now x m a b) × Contains x.1 g.effects
      a = went_on p h now x run m b at

      g : Goes_on p h now x m a.0 b
      g = a.1

      by : (a : Machine) → Goes_on p h now x m a b → WasOpen a d ⊎ IsMadeNow (world_at p h now) x m b d
          → ((a : Machine) × (machine_at (world_at p h now) m ≡ Some a) × WasOpen a d) ⊎ IsMadeNow (world_at p h now) x m b d
      by a g (inl was) = inl (a, g.at, was)
      by a g (inr new) = inr new
