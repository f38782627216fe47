-- What an event leaves of a world: a walk over all of them.
use Rattle.sl_words.proofs.Lists.{set_length}
use Rattle.sl_words.proofs.Numbers.{plus_zero}
use Rattle.sl_run.specs.EventChanges.{add_landing, after_crash, after_effects, after_pass, after_reset, after_restart, after_start, after_step, after_test, change_call, complete, fated, first_change, flight_at, happens, land_whole, next_input, next_step, passed, sampled_more, take_step, take_steps, write_bytes}
use Rattle.sl_run.specs.Refusals.{sectors_left}
use Rattle.sl_run.specs.Premises.{torn_bytes}
use Rattle.sl_run.specs.Inputs.{machine_of}
use Rattle.sl_run.specs.Runs.{Happening, world_after}
use Rattle.sl_run.specs.Worlds.{Course, Dropped, Landed, Machine, Torn, World, change_machine, is_in_flight, is_write_course, machine_at, stamp_now}
use Rattle.sl_run.specs.declared.event.Event.TheVariants.{AnswerCall, Crash, Do, DropWrite, ExitOf, GiveAsk, GiveCommand, GiveLvm, Land, Pass, Reset, Restart, Sample, SpawnedOf, StartDaemon, Tear, Test, WakeUp}
use Rattle.sl_run.specs.declared.event.Event.{Event}
use Rattle.sl_run_law.specs.WorldsGoOn.{Goes, Grown, steps_of_run, time_of, time_of_run}
use Rattle.sl_trace.specs.declared.effects.Call.{Call}
use Rattle.sl_trace.specs.declared.effects.Effects.{Effects}
use Rattle.sl_trace.specs.declared.input.Input.{Input}
use Rattle.std.proofs.Common.{ap, arith, refl, subst, sym, ◌∙◌}
use Rattle.std.proofs.lemmas.List.{append_assoc}
use Rattle.std.specs.List.{enumerate_from}
use Rattle.std.specs.Option.{option_map_or}
use Rattle.std.specs.Prelude.{Bool, List, None, Option, Some, false, length, map, slice_set, suc, true, [], ℕ, ◌++◌, ◌+◌, ◌-◌, ◌∷◌, ◌≡◌}

-- ---- one change after another

pub same_list : {A : Type 0} (ls : List A) → Grown ls ls
same_list ls = record { newer = []; same = refl }

pub grown_again : {A : Type 0} (a b c : List A) → Grown a b → Grown b c → Grown a c
grown_again a b c g h = record { newer = h.newer ++ g.newer; same = h.same ∙ ap (λ ls. h.newer ++ ls) g.same ∙ sym (append_assoc h.newer g.newer a) }

sum_of : (a b c d e : ℕ) → b ≡ a + d → c ≡ b + e → c ≡ a + (d + e)
sum_of a b c d e h k = omega (arith, h, k)

pub stays : (w : World) → Goes 0 0 w w
stays w =
    record {
      program = refl;
      header = refl;
      layout = refl;
      machines = refl;
      moment = plus_zero w.moment;
      step = plus_zero w.step;
      landings = same_list w.landings;
    }

pub goes_again : (d e k n : ℕ) (w v u : World) → Goes d k w v → Goes e n v u → Goes (d + e) (k + n) w u
goes_again d e k n w v u g h =
    record {
      program = h.program ∙ g.program;
      header = h.header ∙ g.header;
      layout = h.layout ∙ g.layout;
      machines = h.machines ∙ g.machines;
      moment = sum_of w.moment v.moment u.moment d e g.moment h.moment;
      step = sum_of w.step v.step u.step k n g.step h.step;
      landings = grown_again w.landings v.landings u.landings g.landings h.landings;
    }

-- ---- what one change leaves

changed_by : (m : ℕ) (f : Machine → Machine) (w : World) (o : Option Machine)
    → Goes 0 0 w (elim o as (λ x. World) [ None ↦ w | Some a ↦ record w { machines = slice_set w.machines (m - 1) (f a) } ])
changed_by m f w None = stays w
changed_by m f w (Some a) =
    record {
      program = refl;
      header = refl;
      layout = refl;
      machines = set_length w.machines (m - 1) (f a);
      moment = plus_zero w.moment;
      step = plus_zero w.step;
      landings = same_list w.landings;
    }

changed : (m : ℕ) (f : Machine → Machine) (w : World) → Goes 0 0 w (change_machine m f w)
changed m f w = changed_by m f w (machine_at w m)

landed : (m : ℕ) (c : Call) (whole : Bool) (bytes : List ℕ) (w : World) → Goes 0 0 w (add_landing m c whole bytes w)
landed m c whole bytes w =
    record {
      program = refl;
      header = refl;
      layout = refl;
      machines = refl;
      moment = plus_zero w.moment;
      step = plus_zero w.step;
      landings = record {
        newer = record { path = c.path; offset = c.offset; bytes = bytes; whole = whole; writer = Some (m, c.number); step = w.step; moment = w.moment } ∷ [];
        same = refl;
      };
    }

stepped : (w : World) → Goes 0 1 w (next_step w)
stepped w =
    record {
      program = refl;
      header = refl;
      layout = refl;
      machines = refl;
      moment = plus_zero w.moment;
      step = refl;
      landings = same_list w.landings;
    }

-- ---- before the daemon

enumerated_length : (d : ℕ) (growths : Option (List ℕ)) (n : ℕ) (ms : List Machine)
    → length (map (λ p. passed d growths p.0 p.1) (enumerate_from n ms)) ≡ length ms
enumerated_length d growths n [] = refl
enumerated_length d growths n (m ∷ ms) = ap (λ k. suc k) (enumerated_length d growths (n + 1) ms)

time_passes : (d : ℕ) (growths : Option (List ℕ)) (w : World) → Goes d 0 w (after_pass d growths w)
time_passes d growths w =
    record {
      program = refl;
      header = refl;
      layout = refl;
      machines = enumerated_length d growths 1 w.machines;
      moment = refl;
      step = plus_zero w.step;
      landings = same_list w.landings;
    }

whole_by : (m c : ℕ) (w : World) (o : Option Course)
    → Goes 0 0 w (option_map_or (λ (f : Course). change_machine m (change_call c (fated Landed)) (add_landing m f.call true (write_bytes w f.call) w)) o w)
whole_by m c w None = stays w
whole_by m c w (Some f) =
    let v : World = add_landing m f.call true (write_bytes w f.call) w in
    goes_again 0 0 0 0 w v (change_machine m (change_call c (fated Landed)) v) (landed m f.call true (write_bytes w f.call) w)
    (changed m (change_call c (fated Landed)) v)

lands : (m c : ℕ) (w : World) → Goes 0 0 w (land_whole m c w)
lands m c w = whole_by m c w (flight_at w m c)

torn_by : (m c k : ℕ) (bytes : List ℕ) (w : World) (o : Option Course)
    → Goes 0 0 w (option_map_or (λ (f : Course). change_machine m (change_call c (fated Torn)) (add_landing m f.call false (torn_bytes w f.call k bytes) w)) o w)
torn_by m c k bytes w None = stays w
torn_by m c k bytes w (Some f) =
    let v : World = add_landing m f.call false (torn_bytes w f.call k bytes) w in
    goes_again 0 0 0 0 w v (change_machine m (change_call c (fated Torn)) v) (landed m f.call false (torn_bytes w f.call k bytes) w)
    (changed m (change_call c (fated Torn)) v)

if_lands : (m c : ℕ) (w : World) (b : Bool) → Goes 0 0 w (elim b as (λ x. World) [ true ↦ land_whole m c w | false ↦ w ])
if_lands m c w true = lands m c w
if_lands m c w false = stays w

completed_by : (m c : ℕ) (w : World) (f : Course) (b : Bool)
    → Goes 0 0 w (elim b as (λ x. World) [
      | false ↦ change_machine m (change_call c (sampled_more w (sectors_left f))) w
      | true ↦ elim (is_in_flight f.fate) as (λ x. World) [ true ↦ land_whole m c w | false ↦ w ]
    ])
completed_by m c w f false = changed m (change_call c (sampled_more w (sectors_left f))) w
completed_by m c w f true = if_lands m c w (is_in_flight f.fate)

completes_by : (m c : ℕ) (w : World) (o : Option Course)
    → Goes 0 0 w (elim o as (λ x. World) [
      | None ↦ w
      | Some f ↦ elim (is_write_course f) as (λ x. World) [
        | false ↦ change_machine m (change_call c (sampled_more w (sectors_left f))) w
        | true ↦ elim (is_in_flight f.fate) as (λ x. World) [ true ↦ land_whole m c w | false ↦ w ]
      ]
    ])
completes_by m c w None = stays w
completes_by m c w (Some f) = completed_by m c w f (is_write_course f)

completes : (m c : ℕ) (w : World) → Goes 0 0 w (complete m c w)
completes m c w = completes_by m c w (flight_at w m c)

pub first_goes : (e : Event) (w : World) → Goes (time_of e) 0 w (first_change e w)
unfolding first_change
first_goes (Pass d growths) w = time_passes d growths w
first_goes (WakeUp m) w = stays w
first_goes (GiveAsk m) w = stays w
first_goes (GiveCommand m text) w = stays w
first_goes (GiveLvm m text) w = stays w
first_goes (Sample m c k) w = changed m (change_call c (sampled_more w k)) w
first_goes (Land m c) w = lands m c w
first_goes (Tear m c k bytes) w = torn_by m c k bytes w (flight_at w m c)
first_goes (AnswerCall m c ok) w = stays w
first_goes (Do m c) w = completes m c w
first_goes (DropWrite m c) w = changed m (change_call c (fated Dropped)) w
first_goes (Test m) w = changed m (after_test w) w
first_goes (ExitOf m p) w = stays w
first_goes (SpawnedOf m p ok) w = stays w
first_goes (StartDaemon m name) w = changed m (after_start w m name) w
first_goes (Crash m) w = changed m after_crash w
first_goes (Reset m) w = changed m (after_reset w) w
first_goes (Restart m) w = changed m (after_restart w) w

-- ---- the daemon's steps

step_goes : (m : ℕ) (o : Option Input) (fx : Effects) (v : World) → Goes 0 1 v (take_step m o fx v)
step_goes m None fx v =
    let u : World = change_machine m (λ a. after_effects (stamp_now v a) fx a) v in
    goes_again 0 0 0 1 v u (next_step u) (changed m (λ a. after_effects (stamp_now v a) fx a) v) (stepped u)
step_goes m (Some i) fx v =
    let u : World = change_machine m (λ a. after_step (stamp_now v a) i fx a) v in
    goes_again 0 0 0 1 v u (next_step u) (changed m (λ a. after_step (stamp_now v a) i fx a) v) (stepped u)

one_more : (n k : ℕ) (w v : World) → k ≡ suc n → Goes 0 (1 + n) w v → Goes 0 k w v
one_more n k w v h g = let same : 1 + n ≡ k = omega (arith, h) in subst (λ j. Goes 0 j w v) same g

steps_go : (w : World) (e : Event) (before fxs : List Effects) (v : World) → Goes 0 (length fxs) v (take_steps w e before fxs v)
steps_go w e before [] v = stays v
steps_go w e before (fx ∷ fxs) v =
    let u : World = take_step (machine_of e) (next_input w e before) fx v in
    one_more (length fxs) (length (fx ∷ fxs)) v (take_steps w e before (fx ∷ fxs) v) refl
    (goes_again 0 0 1 (length fxs) v u (take_steps w e (before ++ fx ∷ []) fxs u) (step_goes (machine_of e) (next_input w e before) fx v)
    (steps_go w e (before ++ fx ∷ []) fxs u))

-- ---- events and runs

without_rest : (d k : ℕ) (w v : World) → Goes ((d + 0) + 0) k w v → Goes d k w v
without_rest d k w v g = let same : (d + 0) + 0 ≡ d = omega arith in subst (λ n. Goes n k w v) same g

pub event_goes : (w : World) (e : Event) (fxs : List Effects) → Goes (time_of e) (1 + length fxs) w (happens w e fxs)
event_goes w e fxs =
    let u : World = first_change e w in
    without_rest (time_of e) (1 + length fxs) w (happens w e fxs)
    (goes_again (time_of e + 0) 0 1 (length fxs) w (next_step u) (happens w e fxs) (goes_again (time_of e) 0 0 1 w u (next_step u) (first_goes e w) (stepped u))
    (steps_go w e [] fxs (next_step u)))

pub run_goes : (w : World) (xs : List Happening) → Goes (time_of_run xs) (steps_of_run xs) w (world_after w xs)
run_goes w [] = stays w
run_goes w (x ∷ xs) =
    goes_again (time_of x.0) (time_of_run xs) (1 + length x.1) (steps_of_run xs) w (happens w x.0 x.1) (world_after w (x ∷ xs)) (event_goes w x.0 x.1)
    (run_goes (happens w x.0 x.1) xs)
