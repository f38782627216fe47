-- A daemon takes a step, or a machine does something itself: what it shows then.
use Rattle.sl_world_state.specs.KeptWorld.{FlightState}
use Rattle.sl_world_state.specs.ShownWorlds.{shown, starting_of}
use Rattle.sl_world_state.specs.Steps.{is_answered_by, is_spawned_by, new_flight, numbers_after, owned_machine, stepped_machine}
use Rattle.sl_world_law.proofs.MachineChanges.{names_on, tells_change, tells_next}
use Rattle.sl_world_law.proofs.ShownCalls.{answered_at, closes, made, same_shows, shows}
use Rattle.sl_world_law.proofs.NextNumbers.{calls_next, jobs_next, starting_next}
use Rattle.sl_world_law.specs.Steps.{OwnIsKept, StepsAreKept}
use Rattle.sl_run.specs.EventChanges.{after_effects, after_step, daemon_number, new_course, number_of_step, with_entry}
use Rattle.sl_run.specs.Locks.{left_locks, locks_after}
use Rattle.sl_run.specs.Worlds.{Course, Daemon, Machine, Stamp, first_numbers, machine_at, next_numbers, reading_now, stamp_now}
use Rattle.sl_run.specs.declared.header.Header.{Header}
use Rattle.sl_trace.specs.WatchdogConnections.{after_move}
use Rattle.sl_trace.specs.Traces.{held_after, is_ok_answer, next_call, next_job}
use Rattle.sl_trace.specs.declared.effects.Effects.{Effects}
use Rattle.sl_trace.specs.declared.effects.Entry.{Entry}
use Rattle.sl_trace.specs.declared.effects.Start.{Start}
use Rattle.sl_trace.specs.declared.input.Input.TheVariants.{Answer as Told, Exit, Line, Number, Spawned, Wake}
use Rattle.sl_trace.specs.declared.input.Input.{Input}
use Rattle.sl_trace.specs.declared.input.Numbers.{Numbers}
use Rattle.sl_words.proofs.CaseLaws.{one_value}
use Rattle.sl_words.specs.Words.{first_of_list}
use Rattle.std.proofs.Common.{ap, ap₂, subst, arith, refl, sym, ◌∙◌}
use Rattle.std.proofs.lemmas.Bool.Decides.{nat_tests}
use Rattle.std.specs.List.{list_any}
use Rattle.std.specs.Option.{option_map_or}
use Rattle.std.specs.Prelude.{Contains, List, None, Option, Some, bytes_eq, false, filter, fold, is_some, length, map, nat_lt, not, option_map, [], ℕ, ◌++◌, ◌∷◌, ◌≡◌}

-- ---- a machine, once the answered call is closed

-- The entry of the step.
abbrev entry_at : Machine → Input → Effects → Entry
entry_at a i fx = record { reading = reading_now a; input = i; effects = fx }

-- The machine after the step, if its calls were these before it.
abbrev stepped_with : Stamp → Input → Effects → Machine → List Course → Machine
stepped_with now i fx a cs =
    let b : Machine = after_effects now fx (record a { calls = cs }) in
    record b { daemon = option_map (with_entry (entry_at a i fx) now) b.daemon; locks = (locks_after (number_of_step a) i fx a.locks).0 }

abbrev next_by : List Daemon → Option Daemon → Numbers
next_by ended o =
    elim (first_of_list (elim o as (λ x. List Daemon) [ None ↦ ended | Some d ↦ d ∷ ended ])) [
      | None ↦ first_numbers
      | Some d ↦ record { call = next_call d.setting d.trace; job = next_job d.setting d.trace }
    ]

-- No reset is newer than the step.
abbrev NoneSince : Stamp → Machine → Type 0
NoneSince now a = (r : Stamp) → Contains a.resets r → nat_lt now.step r.step ≡ false

steps_on : (now : Stamp) (e : Entry) (o : Option Daemon) (d : Daemon) → o ≡ Some d → option_map (with_entry e now) o ≡ Some (with_entry e now d)
steps_on now e o d runs = ap (option_map (with_entry e now)) runs

numbers_then : (now : Stamp) (i : Input) (fx : Effects) (a : Machine) (d : Daemon) → a.daemon ≡ Some d
    → next_by a.ended (option_map (with_entry (entry_at a i fx) now) a.daemon) ≡ numbers_after i (length fx.calls) (next_numbers a)
numbers_then now i fx a d runs =
    ap (next_by a.ended) (steps_on now (entry_at a i fx) a.daemon d runs)
    ∙ ap₂ (λ c j. record { call = c; job = j }) (calls_next d.setting d.trace (entry_at a i fx)) (jobs_next d.setting d.trace (entry_at a i fx))
    ∙ sym (ap (λ o. numbers_after i (length fx.calls) (next_by a.ended o)) runs)

number_is : (a : Machine) (d : Daemon) → a.daemon ≡ Some d → number_of_step a ≡ (next_numbers a).job
number_is a d runs =
    ap (λ (o : Option Daemon). option_map_or (λ (x : Daemon). next_job x.setting x.trace) o 0) runs ∙ sym (ap (λ o. (next_by a.ended o).job) runs)

some_map : {A B : Type 0} (f : A → B) (o : Option A) → is_some (option_map f o) ≡ is_some o
some_map f None = refl
some_map f (Some x) = refl

starting_then : (now : Stamp) (i : Input) (fx : Effects) (a : Machine) (d : Daemon) → a.daemon ≡ Some d
    → starting_of (option_map (with_entry (entry_at a i fx) now) a.daemon)
    ≡ filter (λ p. not (is_spawned_by i p)) (starting_of a.daemon) ++ map (λ (x : Start). x.process) fx.starts
starting_then now i fx a d runs =
    ap starting_of (steps_on now (entry_at a i fx) a.daemon d runs) ∙ starting_next d.trace (entry_at a i fx)
    ∙ sym (ap (λ o. filter (λ p. not (is_spawned_by i p)) (starting_of o) ++ map (λ (x : Start). x.process) fx.starts) runs)

flights_then : (h : Header) (now : Stamp) (i : Input) (fx : Effects) (a : Machine) (d : Daemon) (cs : List Course) → a.daemon ≡ Some d → NoneSince now a
    → shows h a cs ≡ filter (λ (f : FlightState). not (is_answered_by i f)) (shows h a a.calls)
    → shows h (stepped_with now i fx a cs) (fold (λ ys c. new_course now (option_map_or (λ (x : Daemon). x.number) a.daemon 0) c ∷ ys) cs fx.calls)
    ≡ fold (λ fs c. new_flight h c ∷ fs) (filter (λ (f : FlightState). not (is_answered_by i f)) (shows h a a.calls)) fx.calls
flights_then h now i fx a d cs runs none closed =
    ap (λ n. shows h (stepped_with now i fx a cs) (fold (λ ys c. new_course now n c ∷ ys) cs fx.calls)) (ap (λ (o : Option Daemon). option_map_or (λ (x : Daemon). x.number) o 0) runs)
    ∙ same_shows h a (stepped_with now i fx a cs) d (with_entry (entry_at a i fx) now d) runs (steps_on now (entry_at a i fx) a.daemon d runs) refl refl
    (fold (λ ys c. new_course now d.number c ∷ ys) cs fx.calls)
    ∙ made h now a d runs none fx.calls cs ∙ ap (λ fs. fold (λ gs c. new_flight h c ∷ gs) fs fx.calls) closed

shows_with : (h : Header) (now : Stamp) (i : Input) (fx : Effects) (a : Machine) (d : Daemon) (cs : List Course) → a.daemon ≡ Some d → NoneSince now a
    → shows h a cs ≡ filter (λ (f : FlightState). not (is_answered_by i f)) (shows h a a.calls)
    → shown h (stepped_with now i fx a cs) ≡ stepped_machine h i fx (shown h a)
unfolding shown
shows_with h now i fx a d cs runs none closed = λ j.
    record {
      up = a.up;
      used = a.used;
      runs = some_map (with_entry (entry_at a i fx) now) a.daemon j;
      clock = a.clock;
      kept = a.kept.moment;
      connections = fold after_move a.connections fx.moves;
      next = numbers_then now i fx a d runs j;
      starting = starting_then now i fx a d runs j;
      flights = flights_then h now i fx a d cs runs none closed j;
      held = held_after fx a.holdings;
      lingering = a.lingering;
      locks = (locks_after (number_is a d runs j) i fx a.locks).0;
    }

all_stay : {A : Type 0} (xs : List A) → xs ≡ filter (λ x. not false) xs
all_stay [] = refl
all_stay (x ∷ xs) = ap (λ ys. x ∷ ys) (all_stay xs)

-- Whatever the input.
pub shows_step : (h : Header) (now : Stamp) (i : Input) (fx : Effects) (a : Machine) (d : Daemon) → a.daemon ≡ Some d
    → ((r : Stamp) → Contains a.resets r → nat_lt now.step r.step ≡ false) → shown h (after_step now i fx a) ≡ stepped_machine h i fx (shown h a)
shows_step h now (Told n answer) fx a d runs none =
    shows_with h now (Told n answer) fx a d (map (answered_at n now (is_ok_answer answer)) a.calls) runs none (closes h a n now (is_ok_answer answer) a.calls)
shows_step h now (Line text) fx a d runs none = shows_with h now (Line text) fx a d a.calls runs none (all_stay (shows h a a.calls))
shows_step h now (Number text) fx a d runs none = shows_with h now (Number text) fx a d a.calls runs none (all_stay (shows h a a.calls))
shows_step h now Wake fx a d runs none = shows_with h now Wake fx a d a.calls runs none (all_stay (shows h a a.calls))
shows_step h now (Exit p) fx a d runs none = shows_with h now (Exit p) fx a d a.calls runs none (all_stay (shows h a a.calls))
shows_step h now (Spawned p ok) fx a d runs none = shows_with h now (Spawned p ok) fx a d a.calls runs none (all_stay (shows h a a.calls))

abbrev names_by : List Daemon → Option Daemon → List (List ℕ)
names_by ended o = map (λ (d : Daemon). d.setting.name) (elim o as (λ x. List Daemon) [ None ↦ ended | Some d ↦ d ∷ ended ])

same_names : (now : Stamp) (e : Entry) (a : Machine) (d : Daemon) → a.daemon ≡ Some d → names_by a.ended (option_map (with_entry e now) a.daemon) ≡ names_on a
same_names now e a d runs = ap (names_by a.ended) (steps_on now e a.daemon d runs) ∙ sym (ap (names_by a.ended) runs)

pub names_step : (now : Stamp) (i : Input) (fx : Effects) (a : Machine) (d : Daemon) → a.daemon ≡ Some d → names_on (after_step now i fx a) ≡ names_on a
names_step now (Told n answer) fx a d runs = same_names now (entry_at a (Told n answer) fx) a d runs
names_step now (Line text) fx a d runs = same_names now (entry_at a (Line text) fx) a d runs
names_step now (Number text) fx a d runs = same_names now (entry_at a (Number text) fx) a d runs
names_step now Wake fx a d runs = same_names now (entry_at a Wake fx) a d runs
names_step now (Exit p) fx a d runs = same_names now (entry_at a (Exit p) fx) a d runs
names_step now (Spawned p ok) fx a d runs = same_names now (entry_at a (Spawned p ok) fx) a d runs

-- What a machine does itself.
shows_own : (h : Header) (now : Stamp) (fx : Effects) (a : Machine) → fx.calls ≡ [] → shown h (after_effects now fx a) ≡ owned_machine fx (shown h a)
unfolding shown
shows_own h now fx a no_calls =
    ap (λ xs. shown h (record a {
      connections = fold after_move a.connections fx.moves;
      calls = fold (λ cs c. new_course now (daemon_number a) c ∷ cs) a.calls xs;
      holdings = held_after fx a.holdings;
      locks = left_locks fx a.locks;
    })) no_calls

-- ---- the world

pub steps_are_kept : StepsAreKept
steps_are_kept k w t m a d at runs old i fx =
    tells_next _ _ (tells_change k w t m (λ b. after_step (stamp_now w b) i fx b) (stepped_machine k.header i fx) here named)
  where
    here : (b : Machine) → machine_at w m ≡ Some b → shown w.header (after_step (stamp_now w b) i fx b) ≡ stepped_machine k.header i fx (shown w.header b)
    here b there =
        let same : a ≡ b = one_value a b (machine_at w m) at there in
        shows_step w.header (stamp_now w b) i fx b d (ap (λ (x : Machine). x.daemon) (sym same) ∙ runs)
        (λ r inside. let older = old r (subst (λ (x : Machine). Contains x.resets r) (sym same) inside) in grind (arith, nat_tests, older))
        ∙ ap (λ h. stepped_machine h i fx (shown w.header b)) t.header

    named : (b : Machine) (name : List ℕ) → machine_at w m ≡ Some b
        → list_any (bytes_eq name) (names_on (after_step (stamp_now w b) i fx b)) ≡ list_any (bytes_eq name) (names_on b)
    named b name there =
        let same : a ≡ b = one_value a b (machine_at w m) at there in
        ap (list_any (bytes_eq name)) (names_step (stamp_now w b) i fx b d (ap (λ (x : Machine). x.daemon) (sym same) ∙ runs))

pub own_is_kept : OwnIsKept
own_is_kept k w t m fx no_calls =
    tells_next _ _ (tells_change k w t m (λ b. after_effects (stamp_now w b) fx b) (owned_machine fx)
    (λ b there. shows_own w.header (stamp_now w b) fx b no_calls) (λ b name there. refl))
