-- Whatever happens in a lawful run, each machine stays watched.
use Rattle.sl_run_law.proofs.Front.RunsFromFronts.{last_event, run_after, run_keeps, was_there}
use Rattle.sl_words.proofs.Lists.{got_inside}
use Rattle.sl_words.proofs.Options.{not_none, some_there, then_value}
use Rattle.sl_words.proofs.Truth.{second_is_false}
use Rattle.sl_run.specs.EventChanges.{after_effects, after_step, change_call, fated, first_change, next_step, own_effects, passed, sampled_more, take_step}
use Rattle.sl_run.specs.Refusals.{event_tests, may_happen, sectors_left}
use Rattle.sl_run.specs.Premises.{is_late_landing, pass_tests}
use Rattle.sl_run.specs.Inputs.{if_running, input_at, input_of, machine_of}
use Rattle.sl_run.specs.Runs.{Happening}
use Rattle.sl_run.specs.Safety.{LawfulRun, world_at}
use Rattle.sl_run.specs.Worlds.{Course, Daemon, Dropped, Landed, Machine, Program, Stamp, Torn, World, daemons_on, machine_at, may_land, resets_after, stamp_now, world_with}
use Rattle.sl_run.specs.declared.event.Event.TheVariants.{AnswerCall, Crash, Do, DropWrite, ExitOf, GiveAsk, GiveCommand, GiveLvm, Land, Pass, Reset, Restart, Sample, SpawnedOf, StartDaemon, Tear, Test, WakeUp}
use Rattle.sl_run.specs.declared.event.Event.{Event}
use Rattle.sl_run.specs.declared.header.Header.{Header}
use Rattle.sl_run_law.proofs.WorldsGoOn.{first_goes, run_goes}
use Rattle.sl_run_law.proofs.Guards.{on_this, passes, restarts, starts}
use Rattle.sl_run_law.proofs.MachineWalk.{Asked, each_first, each_step, index}
use Rattle.sl_run_law.specs.WorldsGoOn.{time_of}
use Rattle.sl_run_law.specs.Machines.{EachMachine}
use Rattle.sl_time.specs.Times.{IsTiming, TimingNumbers}
use Rattle.sl_trace.specs.Traces.{no_effects}
use Rattle.sl_trace.specs.declared.effects.Effects.{Effects}
use Rattle.sl_trace.specs.declared.input.Input.{Input}
use Rattle.sl_trace.specs.declared.input.Input.TheVariants.{Line}
use Rattle.sl_run_law.proofs.Watchdog.WatchedFirst.{watched_first}
use Rattle.sl_run_law.proofs.Watchdog.ChangesKeepWatch.{MayPass, call_keeps, crash_keeps, fated_goes, pass_keeps, reset_keeps, restart_keeps, sampled_goes, start_keeps, test_keeps}
use Rattle.sl_run_law.proofs.Watchdog.FoundCalls.{none_of}
use Rattle.sl_run_law.proofs.Watchdog.KnownMachines.{IsKnown, RestsOn, known}
use Rattle.sl_run_law.proofs.Watchdog.Machines.{GoesOn, IsWatched, steps_keep}
use Rattle.sl_run_law.proofs.Watchdog.StepsKeepWatch.{own_keeps, step_keeps, stepping}
use Rattle.sl_words.proofs.CaseLaws.{false_is_true, none_some, one_value}
use Rattle.sl_words.proofs.WordLaws.{choose_some}
use Rattle.std.proofs.Common.{ap, arith, refl, subst, sym, ◌∙◌}
use Rattle.std.proofs.lemmas.Bool.{ltb-false}
use Rattle.std.specs.List.{list_any}
use Rattle.std.specs.Option.{option_map_or}
use Rattle.std.specs.Prelude.{Bool, Contains, List, None, Option, Some, [], false, is_some, nat_lt, option_and_then, slice_set, true, ℕ, ◌&&◌, ◌++◌, ◌+◌, ◌-◌, ◌<◌, ◌∷◌, ◌≡◌}

-- ---- guards

late_by : (may late : Bool) → elim may as (λ x. Bool) [ false ↦ false | true ↦ late ] ≡ false → may ≡ true → late ≡ false
late_by true late h is = h
late_by false late h is = absurd (false_is_true is)

-- What the guards of a time that passes say of a machine.
may_pass : (w : World) (d : ℕ) (growths : Option (List ℕ)) → may_happen w (Pass d growths) ≡ true → (m : ℕ) (a : Machine) → machine_at w m ≡ Some a
    → MayPass w.header.timing (w.moment + d) a
unfolding event_tests pass_tests
may_pass w d growths may m a at =
    let n = passes w (Pass d growths) may in
    let t : TimingNumbers = w.header.timing in
    let there = got_inside w.machines (m - 1) a (index w m a at).1 in
    let quick = none_of (λ (x : Machine). x.up && nat_lt (x.kept.moment + t.fire) (w.moment + d)) w.machines a n.1.1.0 there in
    let soon = none_of (λ (x : Machine). list_any (is_late_landing t.land (w.moment + d) x) x.calls) w.machines a n.1.1.1.0 there in
    record {
      fires = λ up. ltb-false (a.kept.moment + t.fire) (w.moment + d) (second_is_false a.up (nat_lt (a.kept.moment + t.fire) (w.moment + d)) quick up);
      lands = λ c inside lands r after.
          let none = late_by (may_land c) (list_any (λ (x : Stamp). nat_lt (x.moment + t.land) (w.moment + d)) (resets_after a c.made.step))
          (none_of (is_late_landing t.land (w.moment + d) a) a.calls c soon inside) lands in
          ltb-false (r.moment + t.land) (w.moment + d) (none_of (λ (x : Stamp). nat_lt (x.moment + t.land) (w.moment + d)) (resets_after a c.made.step) r none after);
    }

running : (a : Machine) (x i : Input) → if_running a x ≡ Some i → (d : Daemon) × (a.daemon ≡ Some d)
running a x i h = some_there a.daemon (choose_some (is_some a.daemon) x i h).0

-- Only where a daemon runs is an input taken.
runs_by : (w : World) (e : Event) (a : Machine) (i : Input) → may_happen w e ≡ true → machine_at w (machine_of e) ≡ Some a → input_at w e a ≡ Some i
    → (d : Daemon) × (a.daemon ≡ Some d)
unfolding event_tests
runs_by w (WakeUp m) a i may at is = running a _ i is
runs_by w (GiveCommand m text) a i may at is = running a _ i is
runs_by w (GiveLvm m line) a i may at is = running a _ i is
runs_by w (GiveAsk m) a i may at is = let x = then_value (λ text. if_running a (Line text)) a.locks.due i is in running a _ i x.2
runs_by w (ExitOf m p) a i may at is = running a _ i is
runs_by w (SpawnedOf m p ok) a i may at is = running a _ i is
runs_by w (AnswerCall m c ok) a i may at is = not_none a.daemon (on_this w m _ a at (passes w (AnswerCall m c ok) may)).0
runs_by w (Do m c) a i may at is = not_none a.daemon (on_this w m _ a at (passes w (Do m c) may)).0
runs_by w (Pass d growths) a i may at is = absurd (none_some i is)
runs_by w (Sample m c k) a i may at is = absurd (none_some i is)
runs_by w (Land m c) a i may at is = absurd (none_some i is)
runs_by w (Tear m c k bytes) a i may at is = absurd (none_some i is)
runs_by w (DropWrite m c) a i may at is = absurd (none_some i is)
runs_by w (Test m) a i may at is = absurd (none_some i is)
runs_by w (StartDaemon m name) a i may at is = absurd (none_some i is)
runs_by w (Crash m) a i may at is = absurd (none_some i is)
runs_by w (Reset m) a i may at is = absurd (none_some i is)
runs_by w (Restart m) a i may at is = absurd (none_some i is)

input_is : (w : World) (e : Event) (a : Machine) (o : Option Input) → machine_at w (machine_of e) ≡ Some a → input_of w e ≡ o → input_at w e a ≡ o
input_is w e a o at is = ap (option_and_then (input_at w e)) (sym at) ∙ is

-- ---- the machine itself submits nothing

pub own_by : (w : World) (e : Event) (a : Machine) → (own_effects w e a).calls ≡ []
own_by w (Pass d growths) a = refl
own_by w (WakeUp m) a = refl
own_by w (GiveCommand m text) a = refl
own_by w (GiveLvm m line) a = refl
own_by w (GiveAsk m) a = refl
own_by w (Sample m c k) a = refl
own_by w (Land m c) a = refl
own_by w (Tear m c k bytes) a = refl
own_by w (AnswerCall m c ok) a = refl
own_by w (Do m c) a = refl
own_by w (DropWrite m c) a = refl
own_by w (Test m) a = refl
own_by w (ExitOf m p) a = refl
own_by w (SpawnedOf m p ok) a = refl
own_by w (StartDaemon m name) a = refl
own_by w (Crash m) a = refl
own_by w (Reset m) a = refl
own_by w (Restart m) a = refl

own_none : (w : World) (e : Event) (o : Option Machine) → (option_map_or (own_effects w e) o no_effects).calls ≡ []
own_none w e None = refl
own_none w e (Some a) = own_by w e a

-- ---- what an event changes before a daemon's step

-- What stands before the event.
record Before (t : TimingNumbers) (w : World) (e : Event) : Type 0 where
  may : may_happen w e ≡ true
  timing : w.header.timing ≡ t
  watched : (m : ℕ) (a : Machine) → machine_at w m ≡ Some a → IsWatched t w.moment w.step a
  knows : (m : ℕ) (a : Machine) → machine_at w m ≡ Some a → IsKnown t a
  begun : (m : ℕ) (a : Machine) → machine_at w m ≡ Some a → (d : Daemon) → Contains (daemons_on a) d → d.begun.step < w.step

abbrev FirstKeeps : TimingNumbers → World → Event → ℕ → Machine → Machine → Type 0
FirstKeeps t w e m a b =
    machine_at w m ≡ Some a → IsWatched t (w.moment + time_of e) (w.step + 1) b × ((i : Input) → machine_at w (machine_of e) ≡ Some a → input_of w e ≡ Some i → b.daemon ≡ a.daemon)

now_by : (t : TimingNumbers) (moment time step : ℕ) (b : Machine) → time ≡ 0 → IsWatched t moment step b → IsWatched t (moment + time) step b
now_by t moment time step b none w = let same : moment ≡ moment + time = omega (arith, none) in subst (λ n. IsWatched t n step b) same w

first_still : (t : TimingNumbers) (w : World) (e : Event) → Before t w e → time_of e ≡ 0 → (m : ℕ) (a : Machine) → FirstKeeps t w e m a a
first_still t w e q none m a at = (now_by t w.moment (time_of e) (w.step + 1) a none (steps_keep t w.moment w.step a (q.watched m a at)), λ i h is. refl)

called : (t : TimingNumbers) (w : World) (e : Event) (m n : ℕ) (f : Course → Course) (a : Machine) → Before t w e → time_of e ≡ 0 → ((c : Course) → GoesOn (c ∷ []) (f c))
    → FirstKeeps t w e m a (change_call n f a)
called t w e m n f a q none each at = (
  now_by t w.moment (time_of e) (w.step + 1) (change_call n f a) none
      (steps_keep t w.moment w.step (change_call n f a) (call_keeps t w.moment w.step a n f each (q.watched m a at))),
  λ i h is. refl,
)

passing : (t : TimingNumbers) (w : World) (e : Event) (d : ℕ) (growths : Option (List ℕ)) (m : ℕ) (a : Machine) → Before t w e → e ≡ Pass d growths
    → FirstKeeps t w e m a (passed d growths m a)
passing t w e d growths m a q is at =
    let may = may_pass w d growths (subst (λ x. may_happen w x ≡ true) is q.may) m a at in
    let time : d ≡ time_of e = sym (ap time_of is) in (
      steps_keep t (w.moment + time_of e) w.step (passed d growths m a)
          (subst (λ n. IsWatched t (w.moment + n) w.step (passed d growths m a)) time
          (pass_keeps t w.moment (w.moment + d) w.step d m growths a (subst (λ x. MayPass x (w.moment + d) a) q.timing may) (q.watched m a at))),
      λ i h x. refl,
    )

-- An event without an input may change the daemon.
silent : (t : TimingNumbers) (w : World) (e : Event) (m : ℕ) (a b : Machine) → time_of e ≡ 0 → input_at w e a ≡ None → (machine_at w m ≡ Some a → IsWatched t w.moment (w.step + 1) b)
    → FirstKeeps t w e m a b
silent t w e m a b none quiet h at =
    (now_by t w.moment (time_of e) (w.step + 1) b none (h at), λ i there is. absurd (none_some i (sym quiet ∙ input_is w e a (Some i) there is)))

asked : (t : TimingNumbers) (w : World) (e : Event) → Before t w e → Asked (FirstKeeps t w e) w e
asked t w e q =
    record {
      pass = λ d growths is m a h. passing t w e d growths m a q is;
      sample = λ m c k is a h. called t w e m c (sampled_more w k) a q (ap time_of is) (sampled_goes w k);
      land = λ m c is a f h g x. called t w e m c (fated Landed) a q (ap time_of is) (λ y. fated_goes Landed y refl);
      tear = λ m c k bytes is a f h g x. called t w e m c (fated Torn) a q (ap time_of is) (λ y. fated_goes Torn y refl);
      done_read = λ m c is a f h g x. called t w e m c (sampled_more w (sectors_left f)) a q (ap time_of is) (sampled_goes w (sectors_left f));
      done_write = λ m c is a f h g x. called t w e m c (fated Landed) a q (ap time_of is) (λ y. fated_goes Landed y refl);
      drop_write = λ m c is a h. called t w e m c (fated Dropped) a q (ap time_of is) (λ y. fated_goes Dropped y refl);
      tested = λ m is a h. silent t w e m a _ (ap time_of is) (ap (λ x. input_at w x a) is)
          (λ at. steps_keep t w.moment w.step _ (test_keeps t w.moment w.step w a (q.knows m a at) refl (q.watched m a at)));
      start = λ m name is a h. silent t w e m a _ (ap time_of is) (ap (λ x. input_at w x a) is)
          (λ at. let s = starts w m name a (subst (λ x. may_happen w x ≡ true) is q.may) at in
          steps_keep t w.moment w.step _ (start_keeps t w.moment w.step w m name a (q.knows m a at) s.0 s.1 (q.watched m a at)));
      crash = λ m is a h. silent t w e m a _ (ap time_of is) (ap (λ x. input_at w x a) is)
          (λ at. steps_keep t w.moment w.step _ (crash_keeps t w.moment w.step a (q.watched m a at)));
      reset = λ m is a h. silent t w e m a _ (ap time_of is) (ap (λ x. input_at w x a) is)
          (λ at. reset_keeps t w.moment w.step w a (q.knows m a at) refl refl (q.begun m a at) (q.watched m a at));
      restart = λ m is a h. silent t w e m a _ (ap time_of is) (ap (λ x. input_at w x a) is)
          (λ at. steps_keep t w.moment w.step _ (restart_keeps t w.moment w.step w a (restarts w m a (subst (λ x. may_happen w x ≡ true) is q.may) at) refl (q.watched m a at)));
    }

-- ---- the step

abbrev StepKeeps : TimingNumbers → World → Event → World → World → ℕ → ℕ → Machine → Machine → Type 0
StepKeeps t w e v u moment m b c =
    machine_at v m ≡ Some b → machine_at u m ≡ Some c → ((i : Input) → input_of w e ≡ Some i → m ≡ machine_of e → (d : Daemon) × (b.daemon ≡ Some d))
    → IsWatched t moment v.step b → IsWatched t moment (v.step + 1) c

step_each : (t : TimingNumbers) (w : World) (e : Event) (fx : Effects) (v u : World) (moment : ℕ) → IsTiming t → (input_of w e ≡ None → fx.calls ≡ [])
    → ((m : ℕ) (c : Machine) → machine_at u m ≡ Some c → IsKnown t c) → EachMachine (StepKeeps t w e v u moment) v (take_step (machine_of e) (input_of w e) fx v)
step_each t w e fx v u moment timing own knows =
    each_step (StepKeeps t w e v u moment) (machine_of e) (input_of w e) fx v (λ m b at there runs h. steps_keep t moment v.step b h)
    (λ none b at here there runs h. own_keeps t moment v.step b fx (stamp_now v b) (own none) h)
    (λ i is b at here there runs h.
    let d = runs i is refl in
    step_keeps t moment v.step b d.0 i fx (stamp_now v b)
    (stepping t v.step b d.0 i fx (stamp_now v b) timing d.1 refl (knows (machine_of e) (after_step (stamp_now v b) i fx b) there)) h)

-- ---- an event

changed_by : (m : ℕ) (f : Machine → Machine) (v : World) (o : Option Machine)
    → ((elim o as (λ x. World) [ None ↦ v | Some a ↦ record v { machines = slice_set v.machines (m - 1) (f a) } ]).moment ≡ v.moment)
    × ((elim o as (λ x. World) [ None ↦ v | Some a ↦ record v { machines = slice_set v.machines (m - 1) (f a) } ]).step ≡ v.step)
changed_by m f v None = (refl, refl)
changed_by m f v (Some a) = (refl, refl)

-- A step takes no time.
stepped : (m : ℕ) (o : Option Input) (fx : Effects) (v : World) → ((take_step m o fx v).moment ≡ v.moment) × ((take_step m o fx v).step ≡ v.step + 1)
stepped m None fx v =
    let r = changed_by m (λ a. after_effects (stamp_now v a) fx a) v (machine_at v m) in
    (r.0, ap (λ n. n + 1) r.1)
stepped m (Some i) fx v =
    let r = changed_by m (λ a. after_step (stamp_now v a) i fx a) v (machine_at v m) in
    (r.0, ap (λ n. n + 1) r.1)

-- The world after the event.
abbrev after_event : World → Event → Effects → World
after_event w e fx = take_step (machine_of e) (input_of w e) fx (next_step (first_change e w))

-- A machine that is watched before an event is so after it.
event_keeps : (t : TimingNumbers) (w : World) (e : Event) (fx : Effects) → Before t w e → IsTiming t → (input_of w e ≡ None → fx.calls ≡ [])
    → ((m : ℕ) (c : Machine) → machine_at (after_event w e fx) m ≡ Some c → IsKnown t c) → (m : ℕ) (a c : Machine) → machine_at w m ≡ Some a
    → machine_at (after_event w e fx) m ≡ Some c → IsWatched t (after_event w e fx).moment (after_event w e fx).step c
event_keeps t w e fx q timing own knows m a c at there =
    let v : World = next_step (first_change e w) in
    let u : World = after_event w e fx in
    let time : ℕ = w.moment + time_of e in
    let goes = first_goes e w in
    let one = each_first (FirstKeeps t w e) e w (first_still t w e q) (asked t w e q) m a at in
    let b : Machine = one.0 in
    let first = one.2 at in
    let two = step_each t w e fx v u time timing own knows m b one.1 in
    let same : two.0 ≡ c = one_value two.0 c (machine_at u m) two.1 there in
    let steps : w.step + 1 ≡ v.step = let n = goes.step in omega (arith, n) in
    let went = stepped (machine_of e) (input_of w e) fx v in
    let last = two.2 one.1 two.1 (λ i is here.
    let machine = subst (λ n. machine_at w n ≡ Some a) here at in
    let r = runs_by w e a i q.may machine (input_is w e a (Some i) machine is) in
    (r.0, first.1 i machine is ∙ r.1)) (subst (λ n. IsWatched t time n b) steps first.0) in
    subst (λ x. IsWatched t u.moment u.step x) same
    (subst (λ n. IsWatched t u.moment n two.0) (sym went.1) (subst (λ n. IsWatched t n (v.step + 1) two.0) (sym (went.0 ∙ goes.moment)) last))

-- ---- runs

-- Each machine of this world is watched.
abbrev pub AllWatched : TimingNumbers → World → Type 0
AllWatched t w = (m : ℕ) (a : Machine) → machine_at w m ≡ Some a → IsWatched t w.moment w.step a

next_watched : RestsOn → (p : Program) (h : Header) → IsTiming h.timing → (now : List Happening) (x : Happening) → LawfulRun p h (now ++ x ∷ [])
    → AllWatched h.timing (world_at p h now) → AllWatched h.timing (world_at p h (now ++ x ∷ []))
next_watched on p h timing now x run so =
    let w : World = world_at p h now in
    let last = last_event p h now x run in
    let e : Event = x.0 in
    let fx : Effects = last.effects in
    let header = (run_goes (world_with p h) now).header in
    let before : Before h.timing w e =
    record {
      may = last.may;
      timing = ap (λ (y : Header). y.timing) header;
      watched = so;
      knows = known on p h now last.before;
      begun = λ m a at d there. (on.of_world p h now last.before m a d at there).begun;
    } in
    subst (AllWatched h.timing) (sym last.after) (λ m c at.
    let a = was_there w (x ∷ []) m c (ap (λ z. machine_at z m) (sym (run_after (world_with p h) now (x ∷ [])) ∙ last.after) ∙ at) in
    event_keeps h.timing w e fx before timing (λ none. ap (λ (y : Effects). y.calls) (last.own none) ∙ own_none w e (machine_at w (machine_of e)))
    (subst (λ z. (n : ℕ) (y : Machine) → machine_at z n ≡ Some y → IsKnown h.timing y) last.after (known on p h (now ++ x ∷ []) run)) m a.0 c a.1 at)

-- Each machine of a lawful run is watched.
pub all_watched : RestsOn → (p : Program) (h : Header) (xs : List Happening) → LawfulRun p h xs → AllWatched h.timing (world_at p h xs)
all_watched on p h xs run =
    run_keeps p h (λ ys. AllWatched h.timing (world_at p h ys))
    (record { first = λ m a at. watched_first p h m a run.header.timing at; next = next_watched on p h run.header.timing }) xs run
