-- What a generator asks of a world is a matter of what is kept.
use Rattle.sl_world_state.specs.KeptWorld.{FlightState, KeptState, MachineState, machine_in}
use Rattle.sl_world_state.specs.Refusals.{refusal_in}
use Rattle.sl_world_state.specs.ShownWorlds.{Tells, flight_of_course, shown}
use Rattle.sl_world_law.proofs.Lookups.{machine_shown}
use Rattle.sl_world_law.proofs.RefusalCases.{refusals_are_kept}
use Rattle.sl_report.specs.GeneratedSchedules.{candidates, ended_calls, is_starving, is_useful_test, least_call, least_ended}
use Rattle.sl_run.specs.Refusals.{may_happen}
use Rattle.sl_run.specs.Worlds.{Course, Machine, World, flights, is_of_running, machine_at, reading_now}
use Rattle.sl_run.specs.declared.event.Event.TheVariants.{Pass}
use Rattle.sl_run.specs.declared.event.Event.{Event}
use Rattle.sl_run.specs.declared.header.Header.{Header}
use Rattle.sl_world_law.proofs.PlainLists.{same_filter}
use Rattle.sl_time.specs.Times.{reading_of}
use Rattle.sl_trace.specs.WatchdogConnections.{test_holds}
use Rattle.sl_words.specs.Words.{first_of_list, least, some_is}
use Rattle.sl_world_law.specs.DrawnCandidates.{DrawsAreKept, QuestionsStand, candidates_in, candidates_with, ended_in, is_useful_in, least_call_in, starves_in}
use Rattle.std.proofs.Common.{ap, ap₂, refl, sym, ◌∙◌}
use Rattle.std.specs.List.{cons_option, enumerate_from, range_with_len}
use Rattle.std.specs.Prelude.{Bool, List, None, Option, Some, cond, false, filter, filter_map, find, is_none, map, nat_le, nat_lt, not, option_and_then, option_map, true, unwrap_or, [], ℕ, ◌%◌, ◌&&◌, ◌+◌, ◌∷◌, ◌≡◌}

-- ---- questions

numbers_shown : (h : Header) (a : Machine) (cs : List Course) → map (λ (f : FlightState). f.number) (map (flight_of_course h a) cs) ≡ map (λ (c : Course). c.call.number) cs
numbers_shown h a [] = refl
numbers_shown h a (c ∷ cs) = ap (λ ns. c.call.number ∷ ns) (numbers_shown h a cs)

own_shown : (h : Header) (a : Machine) (cs : List Course)
    → map (λ (f : FlightState). f.number) (filter (λ (f : FlightState). not f.own) (map (flight_of_course h a) cs))
    ≡ map (λ (c : Course). c.call.number) (filter (λ (c : Course). not (is_of_running a c)) cs)
own_shown h a [] = refl
own_shown h a (c ∷ cs) = go (not (is_of_running a c)) (own_shown h a cs)
  where
    go : (b : Bool) → map (λ (f : FlightState). f.number) (filter (λ (f : FlightState). not f.own) (map (flight_of_course h a) cs))
        ≡ map (λ (c : Course). c.call.number) (filter (λ (c : Course). not (is_of_running a c)) cs)
        → map (λ (f : FlightState). f.number) (cond b (flight_of_course h a c ∷ filter (λ (f : FlightState). not f.own) (map (flight_of_course h a) cs))
        (filter (λ (f : FlightState). not f.own) (map (flight_of_course h a) cs)))
        ≡ map (λ (c : Course). c.call.number) (cond b (c ∷ filter (λ (c : Course). not (is_of_running a c)) cs) (filter (λ (c : Course). not (is_of_running a c)) cs))
    go true rest = ap (λ ns. c.call.number ∷ ns) rest
    go false rest = rest

shown_flights : (h : Header) (a : Machine) → (shown h a).flights ≡ map (flight_of_course h a) (flights a)
unfolding shown
shown_flights h a = refl

-- An answer of a machine, if there is one.
then_shown : {B : Type 0} (k : KeptState) (w : World) → Tells k w → (m : ℕ) (f : Machine → Option B) (g : MachineState → Option B) → ((a : Machine) → f a ≡ g (shown w.header a))
    → option_and_then f (machine_at w m) ≡ option_and_then g (machine_in k m)
then_shown {B} k w t m f g same = go (machine_at w m) ∙ sym (ap (option_and_then g) (machine_shown k w t m))
  where
    go : (o : Option Machine) → option_and_then f o ≡ option_and_then g (option_map (shown w.header) o)
    go None = refl
    go (Some a) = same a

test_shown : (k : KeptState) (w : World) → Tells k w → (m : ℕ) (f : Machine → Bool) (g : MachineState → Bool) → ((a : Machine) → f a ≡ g (shown w.header a))
    → some_is f (machine_at w m) ≡ some_is g (machine_in k m)
test_shown k w t m f g same = go (machine_at w m) ∙ sym (ap (some_is g) (machine_shown k w t m))
  where
    go : (o : Option Machine) → some_is f o ≡ some_is g (option_map (shown w.header) o)
    go None = refl
    go (Some a) = same a

useful_here : (h : Header) (moment : ℕ) (a : Machine) → (a.up && test_holds a.connections (reading_now a) && nat_lt a.kept.moment moment)
    ≡ ((shown h a).up && test_holds (shown h a).connections (reading_of (shown h a).clock) && nat_lt (shown h a).kept moment)
unfolding shown
useful_here h moment a = refl

starves_here : (h : Header) (moment : ℕ) (a : Machine) → (a.up && nat_le (a.kept.moment + 550) moment) ≡ ((shown h a).up && nat_le ((shown h a).kept + 550) moment)
unfolding shown
starves_here h moment a = refl

ended_here : (h : Header) (i : ℕ) (a : Machine) → ended_calls (i, a) ≡ ended_in (i, shown h a)
ended_here h i a =
    ap (λ ns. option_map (λ c. (i, c)) (least ns))
    (sym (ap (λ (fs : List FlightState). map (λ f. f.number) (filter (λ f. not f.own) fs)) (shown_flights h a) ∙ own_shown h a (flights a)))

ended_from : (h : Header) (i : ℕ) (xs : List Machine) → filter_map ended_calls (enumerate_from i xs) ≡ filter_map ended_in (enumerate_from i (map (shown h) xs))
ended_from h i [] = refl
ended_from h i (x ∷ xs) = ap₂ (λ o ys. cons_option o ys) (ended_here h i x) (ended_from h (i + 1) xs)

pub questions_stand : QuestionsStand
questions_stand k w t =
    record {
      least_call = λ m. then_shown k w t m (λ a. least (map (λ c. c.call.number) (flights a))) (λ s. least (map (λ f. f.number) s.flights))
          (λ a. ap least (sym (ap (map (λ (f : FlightState). f.number)) (shown_flights w.header a) ∙ numbers_shown w.header a (flights a))));
      least_ended = ap first_of_list (ended_from w.header 1 w.machines ∙ ap (λ ss. filter_map ended_in (enumerate_from 1 ss)) t.machines);
      is_useful = λ m. test_shown k w t m (λ a. a.up && test_holds a.connections (reading_now a) && nat_lt a.kept.moment w.moment)
          (λ s. s.up && test_holds s.connections (reading_of s.clock) && nat_lt s.kept k.moment)
          (λ a. ap (λ n. a.up && test_holds a.connections (reading_now a) && nat_lt a.kept.moment n) t.moment ∙ useful_here w.header k.moment a);
      starves = λ m. test_shown k w t m (λ a. a.up && nat_le (a.kept.moment + 550) w.moment) (λ s. s.up && nat_le (s.kept + 550) k.moment)
          (λ a. ap (λ n. a.up && nat_le (a.kept.moment + 550) n) t.moment ∙ starves_here w.header k.moment a);
    }

-- ---- candidates

by_questions : (w : World) (hosts a b c number : ℕ) → candidates w hosts a b c number
    ≡ candidates_with (least_call w (1 + a % hosts)) (filter (is_useful_test w) (range_with_len 1 hosts)) (least_ended w) (filter (is_starving w) (range_with_len 1 hosts))
    (1 + a % hosts) b c number
unfolding candidates
by_questions w hosts a b c number = refl

candidates_are_kept : (k : KeptState) (w : World) → Tells k w → (hosts a b c number : ℕ) → candidates w hosts a b c number ≡ candidates_in k hosts a b c number
unfolding candidates_in
candidates_are_kept k w t hosts a b c number =
    let q = questions_stand k w t in
    by_questions w hosts a b c number
    ∙ ap₂ (λ f u. candidates_with f u (least_ended w) (filter (is_starving w) (range_with_len 1 hosts)) (1 + a % hosts) b c number) (q.least_call (1 + a % hosts))
    (same_filter (is_useful_test w) (is_useful_in k) (range_with_len 1 hosts) q.is_useful)
    ∙ ap₂ (λ e s. candidates_with (least_call_in k (1 + a % hosts)) (filter (is_useful_in k) (range_with_len 1 hosts)) e s (1 + a % hosts) b c number) q.least_ended
    (same_filter (is_starving w) (starves_in k) (range_with_len 1 hosts) q.starves)

same_found : {A : Type 0} (p q : A → Bool) (xs : List A) → ((x : A) → p x ≡ q x) → find p xs ≡ find q xs
same_found p q [] same = refl
same_found p q (x ∷ xs) same = ap₂ (λ b o. cond b (Some x) o) (same x) (same_found p q xs same)

pub draws_are_kept : DrawsAreKept
draws_are_kept commands k w t is hosts a b c number =
    ap (λ (o : Option Event). unwrap_or o (Pass 0 None))
    (ap (find (may_happen w)) (candidates_are_kept k w t hosts a b c number)
    ∙ same_found (may_happen w) (λ e. is_none (refusal_in commands k e)) (candidates_in k hosts a b c number) (λ e. ap is_none (refusals_are_kept commands k w t is e)))
