-- Each event leaves a sane world sane: by what it changes first, and by its step.
use Rattle.sl_area.specs.AreaSizes.{Layout}
use Rattle.sl_world_state.specs.Daemons.{IsSoundCall, IsSoundOp}
use Rattle.sl_world_state.specs.SaneWorlds.{IsSane, IsSaneMachine}
use Rattle.sl_world_law.proofs.AllowedEvents.{allowed, flight_allowed, flight_found, machine_allowed, machine_found, open_test}
use Rattle.sl_world_law.proofs.DaemonLives.{none_ran}
use Rattle.sl_world_law.proofs.Lookups.{flight_inside, machine_place}
use Rattle.sl_world_law.proofs.Sectors.{range_at}
use Rattle.sl_world_law.proofs.TestLists.{Tests}
use Rattle.sl_world_law.proofs.WholeEvents.{no_calls, runs_then}
use Rattle.sl_words.proofs.Lists.{any_of, contains_cases, contains_first, contains_more, got_inside, head_is}
use Rattle.sl_words.proofs.Numbers.{one_less}
use Rattle.sl_words.proofs.Options.{none_is, then_value}
use Rattle.sl_run.specs.EventChanges.{add_landing, after_crash, after_effects, after_pass, after_reset, after_restart, after_start, after_step, after_test, change_call, complete, fated, first_change, flight_at, land_torn, land_whole, next_input, next_step, passed, sampled_more, take_step, write_bytes}
use Rattle.sl_run.specs.Premises.{clock_after, growth_of, pass_tests, spells_something, torn_bytes}
use Rattle.sl_run.specs.Refusals.{event_tests, is_placed, is_read_course, is_shaped, may_happen, on_flight, on_machine, refusal_of, sectors_left}
use Rattle.sl_run.specs.Inputs.{input_of, machine_of}
use Rattle.sl_run.specs.Runs.{HasSteps, own_effects_of}
use Rattle.sl_run.specs.Worlds.{Course, Daemon, Dropped, Fate, Landed, Machine, Program, Stamp, Torn, World, change_machine, daemons_on, first_that, flight_of, is_in_flight, is_write_course, machine_at, names_of, new_daemon, next_numbers, sector_size, setting_of, stamp_now}
use Rattle.sl_run.specs.declared.event.Event.TheVariants.{AnswerCall, Crash, Do, DropWrite, ExitOf, GiveAsk, GiveCommand, GiveLvm, Land, Pass, Reset, Restart, Sample, SpawnedOf, StartDaemon, Tear, Test, WakeUp}
use Rattle.sl_run.specs.declared.event.Event.{Event}
use Rattle.sl_run.specs.declared.event.Refusal.TheVariants.{MissingDaemon, MissingDown, MissingFlight, MissingPlace, MissingReset, MissingSample, MissingUp, PremiseName, PremiseTorn, Syntax}
use Rattle.sl_run.specs.declared.header.Header.{Header}
use Rattle.sl_world_law.proofs.PlainLists.{enumerated, numbered_at}
use Rattle.sl_world_law.proofs.SaneCalls.{changed_sane, fate_keeps}
use Rattle.sl_world_law.proofs.SaneMachines.{crashed_sane, ended_all, passed_sane, reset_sane, restarted_sane, started_sane, still_sane, tested_sane}
use Rattle.sl_world_law.proofs.SaneSectors.{sample_keeps, torn_size, whole_size}
use Rattle.sl_world_law.proofs.SaneSteps.{daemons_now, daemons_then, own_sane, runs_inside, step_sane, stepped_daemon}
use Rattle.sl_world_law.proofs.SaneWorlds.{AreOf, IsOf, are_of, changed_world, landed_sane, next_sane}
use Rattle.sl_world_law.specs.SanityStays.{HasSoundStep, SanityStays}
use Rattle.sl_text.specs.Forms.{Form}
use Rattle.sl_time.specs.Times.{reading_of}
use Rattle.sl_trace.specs.CommandForms.{command_in}
use Rattle.sl_trace.specs.declared.command.Command.{Command}
use Rattle.sl_trace.specs.declared.effects.Call.{Call}
use Rattle.sl_trace.specs.declared.effects.Effects.{Effects}
use Rattle.sl_trace.specs.declared.input.Input.{Input}
use Rattle.sl_words.proofs.CaseLaws.{is_false, one_value, true_is_false}
use Rattle.sl_words.specs.Bounds.{moments}
use Rattle.std.proofs.Common.{ap, ap₂, arith, inl, inr, refl, subst, sym, ◌∙◌}
use Rattle.std.proofs.lemmas.Bool.Decides.{nat_tests}
use Rattle.std.proofs.lemmas.Option.{slice_get_within}
use Rattle.std.specs.List.{list_any, range_with_len}
use Rattle.std.specs.Option.{option_map_or}
use Rattle.std.specs.Prelude.{Bool, Contains, IsSome, List, None, Option, Some, bytes_eq, false, if◌then◌else◌, is_none, length, nat_le, nat_lt, not, slice_get, take, true, [], ℕ, ◌+◌, ◌-◌, ◌<◌, ◌==◌, ◌∷◌, ◌≡◌, ◌≤◌, ◌||◌}

-- ---- time passes

one_later : (w : World) → w.step ≤ w.step + 1
one_later w = omega arith

same_most : (n : ℕ) → n ≤ n
same_most n = omega arith

none_of : {A : Type 0} (p : A → Bool) (xs : List A) → list_any p xs ≡ false → (x : A) → Contains xs x → p x ≡ false
none_of p xs none x inside = is_false (p x) (λ h. true_is_false (sym (any_of p xs x h inside) ∙ none))

or_parts : (a b : Bool) → (a || b) ≡ false → (a ≡ false) × (b ≡ false)
or_parts true b h = absurd (true_is_false h)
or_parts false b h = (refl, h)

below_bound : (n : ℕ) → nat_le moments n ≡ false → n < moments
below_bound n h = grind (arith, nat_tests, h)

-- The first of some tests fails.
abbrev FirstFails : Tests → Type 0
FirstFails [] = Unit {0}
FirstFails (t ∷ ts) = t.0 ≡ false

first_fails : (ts : Tests) → first_that ts ≡ None → FirstFails ts
first_fails [] h = tt
first_fails (t ∷ ts) h = (open_test t.0 t.1 ts h).0

-- What time may pass.
record MayPass (w : World) (d : ℕ) (gs : Option (List ℕ)) : Type 0 where
  pub moment : w.moment + d < moments
  pub readings : (m : ℕ) → Contains (range_with_len 1 w.header.machines) m → reading_of (clock_after w d gs m) < moments

may_pass : (w : World) (d : ℕ) (gs : Option (List ℕ)) → may_happen w (Pass d gs) ≡ true → MayPass w d gs
unfolding event_tests pass_tests
may_pass w d gs may =
    let late : Bool = nat_le moments (w.moment + d) in
    let past : ℕ → Bool = λ m. nat_le moments (reading_of (clock_after w d gs m)) in
    let both = or_parts late (list_any past (range_with_len 1 w.header.machines)) (first_fails (pass_tests w d gs) (allowed w (Pass d gs) may)) in
    record {
      moment = below_bound (w.moment + d) both.0;
      readings = λ m inside. below_bound (reading_of (clock_after w d gs m)) (none_of past (range_with_len 1 w.header.machines) both.1 m inside);
    }

machine_here : (w : World) (i : ℕ) → machine_at w (1 + i) ≡ slice_get w.machines i
machine_here w i = ap₂ (λ b n. if b then None else slice_get w.machines n) (not_zero i) (one_less i)
  where
    not_zero : (n : ℕ) → (1 + n == 0) ≡ false
    not_zero n = grind (arith, nat_tests)

moment_later : (n d : ℕ) → n ≤ n + d
moment_later n d = omega arith

pass_sane : (commands : Header → List (Form Command)) (w : World) → IsSane commands w → (d : ℕ) (gs : Option (List ℕ)) → may_happen w (Pass d gs) ≡ true
    → IsSane commands (after_pass d gs w)
pass_sane commands w is d gs may =
    let ok = may_pass w d gs may in
    record {
      header = is.header;
      program = is.program;
      layout = is.layout;
      counted = enumerated (passed d gs) 1 w.machines ∙ is.counted;
      below = ok.moment;
      sane = λ i b at. let a = numbered_at (passed d gs) 1 w.machines i b at in
          let inside = got_inside (range_with_len 1 w.header.machines) i (1 + i)
          (range_at 1 w.header.machines i (subst (λ n. i < n) is.counted (slice_get_within w.machines i a.0 a.1))) in
          subst (IsSaneMachine (after_pass d gs w)) a.2
          (still_sane w (after_pass d gs w) (passed d gs (1 + i) a.0) (same_most w.step) (moment_later w.moment d) refl
          (passed_sane w a.0 d gs (1 + i) (is.sane i a.0 a.1)
          (subst (λ (o : Option Machine). reading_of (elim o as (λ z. ℕ) [ None ↦ 0 | Some x ↦ x.clock + growth_of d gs (1 + i) ]) < moments) (machine_here w i ∙ a.1)
          (ok.readings (1 + i) inside))));
      forms = λ i b x at inside. let a = numbered_at (passed d gs) 1 w.machines i b at in
          is.forms i a.0 x a.1 (subst (λ (z : Machine). Contains (daemons_on z) x) (sym a.2) inside);
      layouts = λ i b x at inside. let a = numbered_at (passed d gs) 1 w.machines i b at in
          is.layouts i a.0 x a.1 (subst (λ (z : Machine). Contains (daemons_on z) x) (sym a.2) inside);
      landings = is.landings;
    }

-- ---- calls

write_sane : (commands : Header → List (Form Command)) (w : World) → IsSane commands w → (m c : ℕ) (call : Call) (whole : Bool) (bytes : List ℕ) (fate : Fate)
    → length bytes ≡ sector_size w → is_in_flight fate ≡ false → IsSane commands (next_step (change_machine m (change_call c (fated fate)) (add_landing m call whole bytes w)))
write_sane commands w is m c call whole bytes fate size over =
    let v : World = add_landing m call whole bytes w in
    changed_world commands v (landed_sane commands w is m call whole bytes size) m (change_call c (fated fate))
    (λ a at s. still_sane v (next_step v) (change_call c (fated fate) a) (one_later v) (same_most v.moment) refl
    (changed_sane v a c (fated fate) s (fate_keeps v a c fate over))) (λ a at of. of)

-- The call in flight.
record FliesAt (w : World) (m c : ℕ) (f : Course) : Type 0 where
  pub machine : Machine
  pub at : machine_at w m ≡ Some machine
  pub there : flight_of machine c ≡ Some f

flies_at : (w : World) (m c : ℕ) (f : Course) → flight_at w m c ≡ Some f → FliesAt w m c f
flies_at w m c f h =
    let v = then_value (λ (a : Machine). flight_of a c) (machine_at w m) f h in record { machine = v.0; at = v.1; there = v.2 }

sound_op : (commands : Header → List (Form Command)) (w : World) → IsSane commands w → (m c : ℕ) (f : Course) → FliesAt w m c f → IsSoundOp f.call.op
sound_op commands w is m c f x = ((is.sane (m - 1) x.machine (machine_place w m x.machine x.at)).calls f (flight_inside x.machine c f x.there)).op

land_sane : (commands : Header → List (Form Command)) (w : World) → IsSane commands w → (m c : ℕ) → ((f : Course) → FliesAt w m c f → is_write_course f ≡ true)
    → IsSane commands (next_step (land_whole m c w))
land_sane commands w is m c writes = go (flight_at w m c) refl
  where
    go : (o : Option Course) → flight_at w m c ≡ o
        → IsSane commands (next_step (option_map_or (λ (f : Course). change_machine m (change_call c (fated Landed)) (add_landing m f.call true (write_bytes w f.call) w)) o w))
    go None at = next_sane commands w is
    go (Some f) at =
        let x = flies_at w m c f at in
        write_sane commands w is m c f.call true (write_bytes w f.call) Landed (whole_size w is f.call (writes f x) (sound_op commands w is m c f x)) refl

tear_sane : (commands : Header → List (Form Command)) (w : World) → IsSane commands w → (m c n : ℕ) (bytes : List ℕ) → n + length bytes ≤ sector_size w
    → ((f : Course) → FliesAt w m c f → is_write_course f ≡ true) → IsSane commands (next_step (land_torn m c n bytes w))
tear_sane commands w is m c n bytes fits writes = go (flight_at w m c) refl
  where
    go : (o : Option Course) → flight_at w m c ≡ o
        → IsSane commands (next_step (option_map_or (λ (f : Course). change_machine m (change_call c (fated Torn)) (add_landing m f.call false (torn_bytes w f.call n bytes) w)) o w))
    go None at = next_sane commands w is
    go (Some f) at =
        let x = flies_at w m c f at in
        write_sane commands w is m c f.call false (torn_bytes w f.call n bytes) Torn (torn_size w is f.call n bytes (writes f x) (sound_op commands w is m c f x) fits) refl

sample_sane : (commands : Header → List (Form Command)) (w : World) → IsSane commands w → (m c : ℕ) (x : Course) (k : ℕ) → FliesAt w m c x → k ≤ sectors_left x
    → IsSane commands (next_step (change_machine m (change_call c (sampled_more w k)) w))
sample_sane commands w is m c x k flies few =
    changed_world commands w is m (change_call c (sampled_more w k))
    (λ a at s. still_sane w (next_step w) (change_call c (sampled_more w k) a) (one_later w) (same_most w.moment) refl
    (changed_sane w a c (sampled_more w k) s (sample_keeps w is a s c x
    (subst (λ (b : Machine). flight_of b c ≡ Some x) (one_value flies.machine a (machine_at w m) flies.at at) flies.there) k few))) (λ a at of. of)

-- ---- what an event finds

-- The call of an event that writes.
wrote : (w : World) (m c : ℕ) (tests : Course → Tests) → first_that (on_machine w m (λ a. on_flight a c is_write_course tests)) ≡ None → (f : Course) → FliesAt w m c f
    → (is_write_course f ≡ true) × (first_that (tests f) ≡ None)
wrote w m c tests h f x =
    flight_allowed x.machine c is_write_course tests f (machine_allowed w m (λ a. on_flight a c is_write_course tests) x.machine h x.at) x.there

-- .. and on whose machine a daemon runs.
found_running : (w : World) (m c : ℕ) (p : Course → Bool) (tests : Course → Tests)
    → first_that (on_machine w m (λ a. (is_none a.daemon, MissingDaemon) ∷ on_flight a c p tests)) ≡ None → (f : Course) → FliesAt w m c f
    → (p f ≡ true) × (first_that (tests f) ≡ None)
found_running w m c p tests h f x =
    let here = machine_allowed w m (λ a. (is_none a.daemon, MissingDaemon) ∷ on_flight a c p tests) x.machine h x.at in
    flight_allowed x.machine c p tests f (open_test (is_none x.machine.daemon) MissingDaemon (on_flight x.machine c p tests) here).1 x.there

most_left : (a b : ℕ) → nat_lt a b ≡ false → b ≤ a
most_left a b h = grind (arith, nat_tests, h)

fits_sector : (a b : ℕ) → not (nat_le a b) ≡ false → a ≤ b
fits_sector a b h = grind (arith, nat_tests, h)

write_or_read : (b : Bool) → not b ≡ true → b ≡ false
write_or_read true h = absurd (true_is_false (sym h))
write_or_read false h = refl

-- The reads of an event that samples.
samples_found : (w : World) (m c k : ℕ) → may_happen w (Sample m c k) ≡ true → (f : Course) × FliesAt w m c f × (k ≤ sectors_left f)
unfolding event_tests
samples_found w m c k may =
    let inner : Course → Tests = λ f. (not (is_placed w f.call), MissingPlace) ∷ (nat_lt (sectors_left f) k, MissingSample) ∷ [] in
    let a = machine_found w m (λ b. (is_none b.daemon, MissingDaemon) ∷ on_flight b c is_read_course inner) (allowed w (Sample m c k) may) in
    let x = flight_found a.0 c is_read_course inner (open_test (is_none a.0.daemon) MissingDaemon (on_flight a.0 c is_read_course inner) a.2).1 in
    let left = (open_test (not (is_placed w x.0.call)) MissingPlace ((nat_lt (sectors_left x.0) k, MissingSample) ∷ []) x.3).1 in
    (x.0, record { machine = a.0; at = a.1; there = x.1 }, most_left (sectors_left x.0) k (open_test (nat_lt (sectors_left x.0) k) MissingSample [] left).0)

one_flight : (w : World) (m c : ℕ) (f g : Course) → FliesAt w m c f → FliesAt w m c g → f ≡ g
one_flight w m c f g x y =
    one_value f g (flight_of y.machine c) (subst (λ (b : Machine). flight_of b c ≡ Some f) (one_value x.machine y.machine (machine_at w m) x.at y.at) x.there) y.there

do_sane : (commands : Header → List (Form Command)) (w : World) → IsSane commands w → (m c : ℕ) → IsSane commands (next_step (complete m c w))
do_sane commands w is m c = go (flight_at w m c) refl
  where
    world_by : Option Course → World
    world_by o =
        elim o [
          | None ↦ w
          | Some f ↦ elim (is_write_course f) [
            | false ↦ change_machine m (change_call c (sampled_more w (sectors_left f))) w
            | true ↦ elim (is_in_flight f.fate) [ true ↦ land_whole m c w | false ↦ w ]
          ]
        ]

    by_write : (f : Course) → FliesAt w m c f → (b : Bool) → is_write_course f ≡ b
        → IsSane commands (next_step (elim b as (λ z. World) [
          | false ↦ change_machine m (change_call c (sampled_more w (sectors_left f))) w
          | true ↦ elim (is_in_flight f.fate) as (λ z. World) [ true ↦ land_whole m c w | false ↦ w ]
        ]))
    by_write f x false reads = sample_sane commands w is m c f (sectors_left f) x (same_most (sectors_left f))
    by_write f x true writes = by_fate (is_in_flight f.fate)
      where
        by_fate : (b : Bool) → IsSane commands (next_step (elim b as (λ z. World) [ true ↦ land_whole m c w | false ↦ w ]))
        by_fate true = land_sane commands w is m c (λ g y. subst (λ z. is_write_course z ≡ true) (one_flight w m c f g x y) writes)
        by_fate false = next_sane commands w is

    go : (o : Option Course) → flight_at w m c ≡ o → IsSane commands (next_step (world_by o))
    go None at = next_sane commands w is
    go (Some f) at = by_write f (flies_at w m c f at) (is_write_course f) refl

-- ---- lives

not_false : (b : Bool) → not b ≡ false → b ≡ true
not_false true h = refl
not_false false h = absurd (true_is_false h)

pub may_start : (w : World) (m : ℕ) (name : List ℕ) → may_happen w (StartDaemon m name) ≡ true → (a : Machine) → machine_at w m ≡ Some a → IsSaneMachine w a
    → (a.daemon ≡ None) × (a.up ≡ true)
unfolding event_tests
may_start w m name may a at s =
    let names : Tests = (list_any (bytes_eq name) (names_of w), PremiseName) ∷ [] in
    let here = machine_allowed w m (λ b. (not b.up, MissingUp) ∷ (b.used, MissingReset) ∷ names) a (allowed w (StartDaemon m name) may) at in
    let first = open_test (not a.up) MissingUp ((a.used, MissingReset) ∷ names) here in
    (none_ran w a s (open_test a.used MissingReset names first.1).0, not_false a.up first.0)

is_down : (w : World) (m : ℕ) → may_happen w (Restart m) ≡ true → (a : Machine) → machine_at w m ≡ Some a → a.up ≡ false
unfolding event_tests
is_down w m may a at = (open_test a.up MissingDown [] (machine_allowed w m (λ b. (b.up, MissingDown) ∷ []) a (allowed w (Restart m) may) at)).0

started_of : (commands : Header → List (Form Command)) (w : World) → IsSane commands w → (m : ℕ) (name : List ℕ) (a : Machine) → a.daemon ≡ None → AreOf commands w a
    → AreOf commands w (after_start w m name a)
started_of commands w is m name a none of d inside =
    elim (contains_cases new a.ended d inside) [
      | inl same ↦ subst (λ (x : Daemon). IsOf commands w x.setting) same
          (record { read = ap (λ (p : Program). command_in (p.commands w.header)) is.program; layout = refl })
      | inr older ↦ of d (subst (λ (ds : List Daemon). Contains ds d) (sym (ended_all a none)) older)
    ]
  where
    new : Daemon
    new = new_daemon (length (daemons_on a)) (setting_of w.program w.layout w.header m name (next_numbers a) []) (stamp_now w a)

start_sane : (commands : Header → List (Form Command)) (w : World) → IsSane commands w → (m : ℕ) (name : List ℕ) → may_happen w (StartDaemon m name) ≡ true
    → IsSane commands (next_step (change_machine m (after_start w m name) w))
start_sane commands w is m name may =
    changed_world commands w is m (after_start w m name)
    (λ a at s. let ok = free a at s in
    still_sane w (next_step w) (after_start w m name a) (one_later w) (same_most w.moment) refl (started_sane w a m name s ok.0 ok.1))
    (λ a at of. started_of commands w is m name a (free a at (is.sane (m - 1) a (machine_place w m a at))).0 of)
  where
    free : (a : Machine) → machine_at w m ≡ Some a → IsSaneMachine w a → (a.daemon ≡ None) × (a.up ≡ true)
    free a at s = may_start w m name may a at s

-- ---- what an event changes first

pub first_sane : (commands : Header → List (Form Command)) (w : World) → IsSane commands w → (e : Event) → may_happen w e ≡ true → IsSane commands (next_step (first_change e w))
unfolding first_change event_tests
first_sane commands w is (Pass d gs) may = next_sane commands (after_pass d gs w) (pass_sane commands w is d gs may)
first_sane commands w is (Sample m c k) may = let x = samples_found w m c k may in sample_sane commands w is m c x.0 k x.1 x.2
first_sane commands w is (Land m c) may =
    land_sane commands w is m c (λ f x. (wrote w m c (λ g. (not (is_placed w g.call), MissingPlace) ∷ (not (is_in_flight g.fate), MissingFlight) ∷ []) (allowed w (Land m c) may) f x).0)
first_sane commands w is (Tear m c n bytes) may =
    tear_sane commands w is m c n bytes (fits_sector (n + length bytes) (sector_size w) (first_fails ((not (is_shaped w (Tear m c n bytes)), Syntax) ∷ event_tests w (Tear m c n bytes))
    (none_is (refusal_of w (Tear m c n bytes)) may)))
    (λ f x. (wrote w m c (λ g. (not (is_placed w g.call), MissingPlace) ∷ (not (is_in_flight g.fate), MissingFlight)
    ∷ (spells_something w (torn_bytes w g.call n bytes), PremiseTorn) ∷ []) (allowed w (Tear m c n bytes) may) f x).0)
first_sane commands w is (Do m c) may = do_sane commands w is m c
first_sane commands w is (DropWrite m c) may =
    changed_world commands w is m (change_call c (fated Dropped))
    (λ a at s. still_sane w (next_step w) (change_call c (fated Dropped) a) (one_later w) (same_most w.moment) refl
    (changed_sane w a c (fated Dropped) s (fate_keeps w a c Dropped refl))) (λ a at of. of)
first_sane commands w is (Test m) may =
    changed_world commands w is m (after_test w) (λ a at s. still_sane w (next_step w) (after_test w a) (one_later w) (same_most w.moment) refl (tested_sane w a s)) (λ a at of. of)
first_sane commands w is (StartDaemon m name) may = start_sane commands w is m name may
first_sane commands w is (Crash m) may =
    changed_world commands w is m after_crash (λ a at s. still_sane w (next_step w) (after_crash a) (one_later w) (same_most w.moment) refl (crashed_sane w a s)) (λ a at of. of)
first_sane commands w is (Reset m) may = changed_world commands w is m (after_reset w) (λ a at s. reset_sane w a s) (λ a at of. of)
first_sane commands w is (Restart m) may =
    changed_world commands w is m (after_restart w)
    (λ a at s. still_sane w (next_step w) (after_restart w a) (one_later w) (same_most w.moment) refl (restarted_sane w a s (is_down w m may a at))) (λ a at of. of)
first_sane commands w is (WakeUp m) may = next_sane commands w is
first_sane commands w is (GiveCommand m text) may = next_sane commands w is
first_sane commands w is (GiveLvm m line) may = next_sane commands w is
first_sane commands w is (GiveAsk m) may = next_sane commands w is
first_sane commands w is (AnswerCall m c ok) may = next_sane commands w is
first_sane commands w is (ExitOf m p) may = next_sane commands w is
first_sane commands w is (SpawnedOf m p ok) may = next_sane commands w is

-- ---- all of an event

first_is : (x y : Effects) → x ∷ [] ≡ y ∷ [] → x ≡ y
first_is x y h = head_is x y [] [] h

-- Where no daemon takes the event, the effects are the machine's own.
pub own_then : (w : World) (e : Event) (fx : Effects) → HasSteps w e (fx ∷ []) → input_of w e ≡ None → fx ≡ own_effects_of w e
own_then w e fx steps gives =
    let P : Option Input → Type 0 = λ o. elim o as (λ x. Type 0) [
      | Some i ↦ (1 ≤ length (fx ∷ [])) × (next_input w e (fx ∷ []) ≡ None) × ((j : ℕ) → j < length (fx ∷ []) → IsSome (next_input w e (take j (fx ∷ []))))
      | None ↦ fx ∷ [] ≡ own_effects_of w e ∷ []
    ] in
    first_is fx (own_effects_of w e) (subst P gives steps)

-- A step keeps the settings of the machine's daemons.
stepped_of : (commands : Header → List (Form Command)) (w : World) (now : Stamp) (i : Input) (fx : Effects) (a : Machine) (d : Daemon) → a.daemon ≡ Some d → AreOf commands w a
    → AreOf commands w (after_step now i fx a)
stepped_of commands w now i fx a d runs of x inside =
    elim (contains_cases (stepped_daemon now i fx a d) a.ended x (subst (λ (ds : List Daemon). Contains ds x) (daemons_then now i fx a d runs) inside)) [
      | inl same ↦ subst (λ (y : Daemon). IsOf commands w y.setting) same (of d (subst (λ (ds : List Daemon). Contains ds d) (sym (daemons_now a d runs)) (contains_first d a.ended)))
      | inr older ↦ of x (subst (λ (ds : List Daemon). Contains ds x) (sym (daemons_now a d runs)) (contains_more d a.ended x older))
    ]

then_sane : (commands : Header → List (Form Command)) (w : World) → IsSane commands w → (e : Event) → may_happen w e ≡ true → (fx : Effects) → HasSteps w e (fx ∷ [])
    → HasSoundStep w e fx → (o : Option Input) → input_of w e ≡ o → IsSane commands (take_step (machine_of e) o fx (next_step (first_change e w)))
then_sane commands w is e may fx steps sound None gives =
    let v : World = next_step (first_change e w) in
    changed_world commands v (first_sane commands w is e may) (machine_of e) (λ a. after_effects (stamp_now v a) fx a)
    (λ a at s. still_sane v (next_step v) (after_effects (stamp_now v a) fx a) (one_later v) (same_most v.moment) refl
    (own_sane v a (stamp_now v a) fx (ap (λ (x : Effects). x.calls) (own_then w e fx steps gives) ∙ no_calls w e (machine_at w (machine_of e))) s)) (λ a at of. of)
then_sane commands w is e may fx steps sound (Some i) gives =
    let v : World = next_step (first_change e w) in
    let r = runs_then commands w is e may i gives in
    let s : IsSane commands v = first_sane commands w is e may in
    let good = sound i gives r.before r.daemon r.was r.ran in
    changed_world commands v s (machine_of e) (λ a. after_step (stamp_now v a) i fx a)
    (λ a at b. let runs = ap (λ (x : Machine). x.daemon) (one_value a r.machine (machine_at v (machine_of e)) at r.there) ∙ r.runs in
    step_sane v a r.daemon runs i fx b good.numbered
    (λ c inside. subst (λ (g : Layout). IsSoundCall g.sector c) ((are_of commands v s (machine_of e) a at) r.daemon (runs_inside a r.daemon runs)).layout (good.sound c inside)))
    (λ a at of. stepped_of commands v (stamp_now v a) i fx a r.daemon (ap (λ (x : Machine). x.daemon) (one_value a r.machine (machine_at v (machine_of e)) at r.there) ∙ r.runs) of)

pub sanity_stays : SanityStays
sanity_stays commands w is e may fx steps sound = then_sane commands w is e may fx steps sound (input_of w e) refl
