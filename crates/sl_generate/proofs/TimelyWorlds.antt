-- Each event that may happen leaves a world timely: a time that passes is tested, a keepalive rests on now, and a write that a step makes is newer
-- than each reset.
use Rattle.sl_area.specs.AreaSizes.{layout_with}
use Rattle.sl_words.proofs.Lists.{contains_cases, contains_none, got_inside, kept, kept_inside}
use Rattle.sl_words.proofs.Truth.{second_is_false}
use Rattle.sl_run.specs.EventChanges.{after_effects, after_step, after_test, change_call, daemon_number, fated, first_change, happens, new_course, next_step, passed, sampled_more, take_step}
use Rattle.sl_run.specs.Refusals.{event_tests, may_happen, sectors_left}
use Rattle.sl_run.specs.Premises.{is_late_landing, pass_tests}
use Rattle.sl_run.specs.Inputs.{input_of, machine_of}
use Rattle.sl_run.specs.Worlds.{Course, Dropped, Landed, Machine, Program, Stamp, Torn, World, machine_at, machine_of_header, may_land, reading_now, resets_after, stamp_now, world_with}
use Rattle.sl_run.specs.declared.event.Event.TheVariants.{Pass}
use Rattle.sl_run.specs.declared.event.Event.{Event}
use Rattle.sl_run.specs.declared.header.Header.{Header}
use Rattle.sl_run_law.proofs.Front.RunsFromFronts.{was_there}
use Rattle.sl_run_law.proofs.WorldsGoOn.{event_goes, first_goes}
use Rattle.sl_run_law.proofs.Guards.{passes}
use Rattle.sl_run_law.proofs.CoursesGoOn.{told}
use Rattle.sl_run_law.proofs.MachineWalk.{Asked, each_first, each_step, index}
use Rattle.sl_run_law.proofs.Watchdog.ChangesKeepWatch.{fated_goes, if_changed, sampled_goes, told_goes}
use Rattle.sl_run_law.proofs.Watchdog.FoundCalls.{none_of}
use Rattle.sl_run_law.proofs.Watchdog.Machines.{GoesOn, goes_mapped, goes_same}
use Rattle.sl_run_law.specs.WorldsGoOn.{time_of}
use Rattle.sl_run_law.specs.Machines.{EachMachine}
use Rattle.sl_time.specs.Times.{TimingNumbers}
use Rattle.sl_generate.specs.TimelyWorlds.{EventsStayTimely, FirstWorldsAreTimely, IsTimely, IsTimelyBy}
use Rattle.sl_trace.specs.WatchdogConnections.{test_holds}
use Rattle.sl_trace.specs.Traces.{is_ok_answer}
use Rattle.sl_trace.specs.declared.effects.Call.{Call}
use Rattle.sl_trace.specs.declared.effects.Effects.{Effects}
use Rattle.sl_trace.specs.declared.input.Input.TheVariants.{Answer as Told, Exit, Line, Number, Spawned, Wake}
use Rattle.sl_trace.specs.declared.input.Input.{Input}
use Rattle.sl_words.proofs.CaseLaws.{false_is_true, none_some, one_value, some_value}
use Rattle.std.proofs.Common.{ap, arith, inl, inr, refl, subst, sym, tests, ◌∙◌}
use Rattle.std.proofs.lemmas.Bool.{ltb-false}
use Rattle.std.specs.List.{list_any, range_with_len}
use Rattle.std.specs.Prelude.{Bool, Contains, List, Option, Some, [], false, filter, fold, if◌then◌else◌, map, nat_lt, slice_get, suc, true, zero, ℕ, ◌&&◌, ◌+◌, ◌-◌, ◌<◌, ◌==◌, ◌∷◌, ◌≡◌, ◌≤◌, ◌⊎◌}

-- ---- a machine, as steps go on

module _ (t : TimingNumbers) (moment step : ℕ) (up : Bool) (kept_on : Stamp) (resets : List Stamp) where
  -- A call goes on, or is made now.
  abbrev IsOf : List Course → Course → Type 0
  IsOf cs c = GoesOn cs c ⊎ (c.made.step ≡ step)

  steps_on : (calls : List Course) → IsTimelyBy t moment step up kept_on resets calls → IsTimelyBy t moment (step + 1) up kept_on resets calls
  steps_on calls w =
      record {
        fires = w.fires;
        past = λ r there. let h = w.past r there in omega (arith, h);
        lands = w.lands;
      }

  gone_lands : (calls : List Course) (c : Course) → IsTimelyBy t moment step up kept_on resets calls → GoesOn calls c → may_land c ≡ true → (r : Stamp)
      → Contains (filter (λ (x : Stamp). nat_lt c.made.step x.step) resets) r → moment ≤ r.moment + t.land
  gone_lands calls c w g lands r there =
      w.lands g.before g.inside (g.lands lands) r (subst (λ (s : Stamp). Contains (filter (λ (x : Stamp). nat_lt s.step x.step) resets) r) g.made there)

  new_lands : (calls : List Course) (c : Course) → IsTimelyBy t moment step up kept_on resets calls → c.made.step ≡ step → (r : Stamp)
      → Contains (filter (λ (x : Stamp). nat_lt c.made.step x.step) resets) r → moment ≤ r.moment + t.land
  new_lands calls c w made r there =
      let k = kept_inside (λ (x : Stamp). nat_lt c.made.step x.step) resets r there in
      let before = w.past r k.0 in
      let after = is_less c.made.step r.step k.1 in
      absurd (omega (arith, before, made, after))
    where
      is_less : (x y : ℕ) → nat_lt x y ≡ true → x < y
      is_less x y h = grind (arith, tests)

  -- Where each call goes on or is made now.
  calls_on : (calls cs : List Course) → ((c : Course) → Contains cs c → IsOf calls c) → IsTimelyBy t moment step up kept_on resets calls
      → IsTimelyBy t moment (step + 1) up kept_on resets cs
  calls_on calls cs each w =
      record {
        fires = w.fires;
        past = λ r there. let h = w.past r there in omega (arith, h);
        lands = λ c there lands r after. go c lands r after (each c there);
      }
    where
      go : (c : Course) → may_land c ≡ true → (r : Stamp) → Contains (filter (λ (x : Stamp). nat_lt c.made.step x.step) resets) r → IsOf calls c → moment ≤ r.moment + t.land
      go c lands r after (inl g) = gone_lands calls c w g lands r after
      go c lands r after (inr made) = new_lands calls c w made r after

-- ---- one call that goes on

called_of : (n : ℕ) (f : Course → Course) (cs : List Course) (c : Course) → ((x : Course) → GoesOn (x ∷ []) (f x))
    → Contains (map (λ (x : Course). elim (x.call.number == n) as (λ y. Course) [ true ↦ f x | false ↦ x ]) cs) c → GoesOn cs c
called_of n f cs c each there =
    goes_mapped (λ (x : Course). elim (x.call.number == n) as (λ y. Course) [ true ↦ f x | false ↦ x ]) cs c (λ x. if_changed f x (x.call.number == n) (each x)) there

-- ---- calls that a step submits

submitted_by : (now : Stamp) (number : ℕ) (x : Call) (cs : List Course) (c : Course) → Contains (new_course now number x ∷ cs) c ⊎ (c.made.step ≡ now.step)
    → Contains cs c ⊎ (c.made.step ≡ now.step)
submitted_by now number x cs c (inr new) = inr new
submitted_by now number x cs c (inl there) =
    elim (contains_cases (new_course now number x) cs c there) as (λ z. Contains cs c ⊎ (c.made.step ≡ now.step)) [
      | inl same ↦ inr (ap (λ (y : Course). y.made.step) (sym same))
      | inr old ↦ inl old
    ]

submitted_now : (now : Stamp) (number : ℕ) (calls : List Call) (cs : List Course) (c : Course) → Contains (fold (λ (xs : List Course) (x : Call). new_course now number x ∷ xs) cs calls) c
    → Contains cs c ⊎ (c.made.step ≡ now.step)
submitted_now now number [] cs c there = inl there
submitted_now now number (x ∷ calls) cs c there = submitted_by now number x cs c (submitted_now now number calls (new_course now number x ∷ cs) c there)

-- ---- a step

module _ (t : TimingNumbers) (moment step : ℕ) (now : Stamp) (at : now.step ≡ step) where
  effects_on : (fx : Effects) (a : Machine) (cs : List Course) → ((c : Course) → Contains cs c → GoesOn a.calls c) → IsTimely t moment step a
      → IsTimelyBy t moment (step + 1) a.up a.kept a.resets (fold (λ (xs : List Course) (x : Call). new_course now (daemon_number a) x ∷ xs) cs fx.calls)
  effects_on fx a cs each w =
      calls_on t moment step a.up a.kept a.resets a.calls (fold (λ (xs : List Course) (x : Call). new_course now (daemon_number a) x ∷ xs) cs fx.calls)
      (λ c there. go c (submitted_now now (daemon_number a) fx.calls cs c there)) w
    where
      go : (c : Course) → Contains cs c ⊎ (c.made.step ≡ now.step) → GoesOn a.calls c ⊎ (c.made.step ≡ step)
      go c (inl old) = inl (each c old)
      go c (inr new) = inr (new ∙ at)

  own_on : (fx : Effects) (a : Machine) → IsTimely t moment step a → IsTimely t moment (step + 1) (after_effects now fx a)
  own_on fx a w = effects_on fx a a.calls (λ c there. goes_same a.calls c there) w

  step_on : (i : Input) (fx : Effects) (a : Machine) → IsTimely t moment step a → IsTimely t moment (step + 1) (after_step now i fx a)
  step_on (Told n answer) fx a w =
      effects_on fx a (map (λ (c : Course). elim (c.call.number == n) as (λ x. Course) [ true ↦ told now (is_ok_answer answer) c | false ↦ c ]) a.calls)
      (λ c there. called_of n (told now (is_ok_answer answer)) a.calls c (λ x. told_goes now (is_ok_answer answer) x) there) w
  step_on (Line text) fx a w = own_on fx a w
  step_on (Number text) fx a w = own_on fx a w
  step_on (Exit p) fx a w = own_on fx a w
  step_on (Spawned p ok) fx a w = own_on fx a w
  step_on Wake fx a w = own_on fx a w

-- ---- what an event changes first

late_by : (may late : Bool) → elim may as (λ x. Bool) [ false ↦ false | true ↦ late ] ≡ false → may ≡ true → late ≡ false
late_by true late h is = h
late_by false late h is = absurd (false_is_true is)

-- A time that passes is tested.
may_pass : (w : World) (d : ℕ) (growths : Option (List ℕ)) → may_happen w (Pass d growths) ≡ true → (m : ℕ) (a : Machine) → machine_at w m ≡ Some a
    → IsTimely w.header.timing w.moment w.step a → IsTimely w.header.timing (w.moment + d) w.step a
unfolding event_tests pass_tests
may_pass w d growths may m a at before =
    let n = passes w (Pass d growths) may in
    let t : TimingNumbers = w.header.timing in
    let there = got_inside w.machines (m - 1) a (index w m a at).1 in
    let quick = none_of (λ (x : Machine). x.up && nat_lt (x.kept.moment + t.fire) (w.moment + d)) w.machines a n.1.1.0 there in
    let soon = none_of (λ (x : Machine). list_any (is_late_landing t.land (w.moment + d) x) x.calls) w.machines a n.1.1.1.0 there in
    record {
      fires = λ up. ltb-false (a.kept.moment + t.fire) (w.moment + d) (second_is_false a.up (nat_lt (a.kept.moment + t.fire) (w.moment + d)) quick up);
      past = before.past;
      lands = λ c inside lands r after.
          let none = late_by (may_land c) (list_any (λ (x : Stamp). nat_lt (x.moment + t.land) (w.moment + d)) (resets_after a c.made.step))
          (none_of (is_late_landing t.land (w.moment + d) a) a.calls c soon inside) lands in
          ltb-false (r.moment + t.land) (w.moment + d) (none_of (λ (x : Stamp). nat_lt (x.moment + t.land) (w.moment + d)) (resets_after a c.made.step) r none after);
    }

-- What stands before the event.
record Before (t : TimingNumbers) (w : World) (e : Event) : Type 0 where
  may : may_happen w e ≡ true
  timing : w.header.timing ≡ t
  timely : (m : ℕ) (a : Machine) → machine_at w m ≡ Some a → IsTimely t w.moment w.step a

abbrev FirstOn : TimingNumbers → World → Event → ℕ → Machine → Machine → Type 0
FirstOn t w e m a b = machine_at w m ≡ Some a → IsTimely t (w.moment + time_of e) (w.step + 1) b

now_by : (t : TimingNumbers) (moment time step : ℕ) (b : Machine) → time ≡ 0 → IsTimely t moment step b → IsTimely t (moment + time) step b
now_by t moment time step b none w = let same : moment ≡ moment + time = omega (arith, none) in subst (λ n. IsTimely t n step b) same w

first_still : (t : TimingNumbers) (w : World) (e : Event) → Before t w e → time_of e ≡ 0 → (m : ℕ) (a : Machine) → FirstOn t w e m a a
first_still t w e q none m a at = now_by t w.moment (time_of e) (w.step + 1) a none (steps_on t w.moment w.step a.up a.kept a.resets a.calls (q.timely m a at))

called : (t : TimingNumbers) (w : World) (e : Event) (m n : ℕ) (f : Course → Course) (a : Machine) → Before t w e → time_of e ≡ 0 → ((c : Course) → GoesOn (c ∷ []) (f c))
    → FirstOn t w e m a (change_call n f a)
called t w e m n f a q none each at =
    now_by t w.moment (time_of e) (w.step + 1) (change_call n f a) none
    (calls_on t w.moment w.step a.up a.kept a.resets a.calls (map (λ (x : Course). elim (x.call.number == n) as (λ y. Course) [ true ↦ f x | false ↦ x ]) a.calls)
    (λ c there. inl (called_of n f a.calls c each there)) (q.timely m a at))

-- A test that holds moves the keepalive to now.
tested : (t : TimingNumbers) (moment step : ℕ) (now : Stamp) (a : Machine) (b : Bool) → now.moment ≡ moment → IsTimely t moment step a
    → IsTimelyBy t moment (step + 1) a.up (if b then now else a.kept) a.resets a.calls
tested t moment step now a true at w = record { fires = λ up. omega (arith, at); past = λ r there. let h = w.past r there in omega (arith, h); lands = w.lands }
tested t moment step now a false at w = steps_on t moment step a.up a.kept a.resets a.calls w

-- A reset of now is not yet too long ago.
later_resets : (now : Stamp) (resets : List Stamp) (step : ℕ) (r : Stamp) → Contains (filter (λ (x : Stamp). nat_lt step x.step) (now ∷ resets)) r
    → (now ≡ r) ⊎ Contains (filter (λ (x : Stamp). nat_lt step x.step) resets) r
later_resets now resets step r there =
    let b = kept_inside (λ (x : Stamp). nat_lt step x.step) (now ∷ resets) r there in
    elim (contains_cases now resets r b.0) as (λ z. (now ≡ r) ⊎ Contains (filter (λ (x : Stamp). nat_lt step x.step) resets) r) [
      | inl same ↦ inl same
      | inr more ↦ inr (kept (λ (x : Stamp). nat_lt step x.step) resets r b.1 more)
    ]

went_down : (t : TimingNumbers) (moment step : ℕ) (now : Stamp) (a : Machine) → now.moment ≡ moment → now.step ≡ step → IsTimely t moment step a
    → IsTimelyBy t moment (step + 1) false a.kept (now ∷ a.resets) a.calls
went_down t moment step now a at this w =
    record {
      fires = λ up. absurd (false_is_true up);
      past = λ r there.
          elim (contains_cases now a.resets r there) as (λ z. r.step < step + 1) [
            | inl same ↦ let n = ap (λ (x : Stamp). x.step) same in omega (arith, n, this)
            | inr old ↦ let n = w.past r old in omega (arith, n)
          ];
      lands = λ c there lands r after.
          elim (later_resets now a.resets c.made.step r after) as (λ z. moment ≤ r.moment + t.land) [
            | inl same ↦ let n = ap (λ (x : Stamp). x.moment) same in omega (arith, n, at)
            | inr old ↦ w.lands c there lands r old
          ];
    }

came_up : (t : TimingNumbers) (moment step : ℕ) (now : Stamp) (a : Machine) → now.moment ≡ moment → IsTimely t moment step a
    → IsTimelyBy t moment (step + 1) true now a.resets a.calls
came_up t moment step now a at w = record { fires = λ up. omega (arith, at); past = λ r there. let h = w.past r there in omega (arith, h); lands = w.lands }

passing : (t : TimingNumbers) (w : World) (e : Event) (d : ℕ) (growths : Option (List ℕ)) (m : ℕ) (a : Machine) → Before t w e → e ≡ Pass d growths
    → FirstOn t w e m a (passed d growths m a)
passing t w e d growths m a q is at =
    let here : IsTimely w.header.timing w.moment w.step a = subst (λ x. IsTimely x w.moment w.step a) (sym q.timing) (q.timely m a at) in
    let later : IsTimely t (w.moment + d) w.step a =
    subst (λ x. IsTimely x (w.moment + d) w.step a) q.timing (may_pass w d growths (subst (λ x. may_happen w x ≡ true) is q.may) m a at here) in
    let time : d ≡ time_of e = sym (ap time_of is) in
    subst (λ n. IsTimely t (w.moment + n) (w.step + 1) a) time (steps_on t (w.moment + d) w.step a.up a.kept a.resets a.calls later)

asked : (t : TimingNumbers) (w : World) (e : Event) → Before t w e → Asked (FirstOn t w e) w e
asked t w e q =
    record {
      pass = λ d growths is m a h. passing t w e d growths m a q is;
      sample = λ m c k is a h. called t w e m c (sampled_more w k) a q (ap time_of is) (sampled_goes w k);
      land = λ m c is a f h g x. called t w e m c (fated Landed) a q (ap time_of is) (λ y. fated_goes Landed y refl);
      tear = λ m c k bytes is a f h g x. called t w e m c (fated Torn) a q (ap time_of is) (λ y. fated_goes Torn y refl);
      done_read = λ m c is a f h g x. called t w e m c (sampled_more w (sectors_left f)) a q (ap time_of is) (sampled_goes w (sectors_left f));
      done_write = λ m c is a f h g x. called t w e m c (fated Landed) a q (ap time_of is) (λ y. fated_goes Landed y refl);
      drop_write = λ m c is a h. called t w e m c (fated Dropped) a q (ap time_of is) (λ y. fated_goes Dropped y refl);
      tested = λ m is a h at.
          now_by t w.moment (time_of e) (w.step + 1) (after_test w a) (ap time_of is)
          (tested t w.moment w.step (stamp_now w a) a (test_holds a.connections (reading_now a)) refl (q.timely m a at));
      start = λ m name is a h at. first_still t w e q (ap time_of is) m a at;
      crash = λ m is a h at. first_still t w e q (ap time_of is) m a at;
      reset = λ m is a h at. by_time (ap time_of is) (went_down t w.moment w.step (stamp_now w a) a refl refl (q.timely m a at));
      restart = λ m is a h at. by_time (ap time_of is) (came_up t w.moment w.step (stamp_now w a) a refl (q.timely m a at));
    }
  where
    by_time : {up : Bool} {kept_on : Stamp} {resets : List Stamp} {calls : List Course} → time_of e ≡ 0
        → IsTimelyBy t w.moment (w.step + 1) up kept_on resets calls → IsTimelyBy t (w.moment + time_of e) (w.step + 1) up kept_on resets calls
    by_time {up} {kept_on} {resets} {calls} none h =
        let same : w.moment ≡ w.moment + time_of e = omega (arith, none) in subst (λ n. IsTimelyBy t n (w.step + 1) up kept_on resets calls) same h

-- ---- an event

abbrev StepOn : TimingNumbers → World → ℕ → ℕ → Machine → Machine → Type 0
StepOn t v moment m b c = IsTimely t moment v.step b → IsTimely t moment (v.step + 1) c

step_each : (t : TimingNumbers) (m : ℕ) (o : Option Input) (fx : Effects) (v : World) (moment : ℕ) → EachMachine (StepOn t v moment) v (take_step m o fx v)
step_each t m o fx v moment =
    each_step (StepOn t v moment) m o fx v (λ n b h. steps_on t moment v.step b.up b.kept b.resets b.calls h)
    (λ none b at h. own_on t moment v.step (stamp_now v b) refl fx b h)
    (λ i is b at h. step_on t moment v.step (stamp_now v b) refl i fx b h)

pub events_stay_timely : EventsStayTimely
events_stay_timely w e fx may before m c there =
    let t : TimingNumbers = w.header.timing in
    let v : World = next_step (first_change e w) in
    let u : World = happens w e (fx ∷ []) in
    let q : Before t w e = record { may = may; timing = refl; timely = before } in
    let old = was_there w ((e, fx ∷ []) ∷ []) m c there in
    let goes = first_goes e w in
    let went = event_goes w e (fx ∷ []) in
    let one = each_first (FirstOn t w e) e w (first_still t w e q) (asked t w e q) m old.0 old.1 in
    let two = step_each t (machine_of e) (input_of w e) fx v (w.moment + time_of e) m one.0 one.1 in
    let same : two.0 ≡ c = one_value two.0 c (machine_at u m) two.1 there in
    let first : IsTimely t (w.moment + time_of e) v.step one.0 =
    let n = goes.step in let steps : w.step + 1 ≡ v.step = omega (arith, n) in subst (λ n. IsTimely t (w.moment + time_of e) n one.0) steps (one.2 old.1) in
    let last : IsTimely t (w.moment + time_of e) (v.step + 1) c = subst (λ x. IsTimely t (w.moment + time_of e) (v.step + 1) x) same (two.2 first) in
    let step : v.step + 1 ≡ u.step = let n = goes.step in let k = went.step in omega (arith, n, k) in
    let at_step : IsTimely t (w.moment + time_of e) u.step c = subst (λ n. IsTimely t (w.moment + time_of e) n c) step last in
    let at_moment : IsTimely t u.moment u.step c = subst (λ n. IsTimely t n u.step c) (sym went.moment) at_step in
    subst (λ (h : Header). IsTimely h.timing u.moment u.step c) (sym went.header) at_moment

-- ---- the first world

no_calls : (t : TimingNumbers) (up : Bool) (kept_on : Stamp) → IsTimelyBy t 0 1 up kept_on [] []
no_calls t up kept_on =
    record { fires = λ is. omega arith; past = λ r there. absurd (contains_none r there); lands = λ c there. absurd (contains_none c there) }

begins : (p : Program) (h : Header) (m : ℕ) → IsTimely h.timing 0 1 (machine_of_header p (layout_with p.digest h.geometry) h m)
unfolding machine_of_header
begins p h m = no_calls h.timing _ _

begins_each : (p : Program) (h : Header) (k n i : ℕ) (a : Machine) → slice_get (map (machine_of_header p (layout_with p.digest h.geometry) h) (range_with_len k n)) i ≡ Some a
    → IsTimely h.timing 0 1 a
begins_each p h k zero i a at = absurd (none_some a at)
begins_each p h k (suc n) zero a at =
    subst (λ x. IsTimely h.timing 0 1 x) (some_value (machine_of_header p (layout_with p.digest h.geometry) h k) a at) (begins p h k)
begins_each p h k (suc n) (suc i) a at = begins_each p h (k + 1) n i a at

pub first_worlds_are_timely : FirstWorldsAreTimely
first_worlds_are_timely p h m a at = begins_each p h 1 h.machines (m - 1) a (index (world_with p h) m a at).1
