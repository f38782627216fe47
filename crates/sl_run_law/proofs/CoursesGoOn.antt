-- Whatever happens, no call, no reset and no ended daemon of a machine is lost.
use Rattle.sl_run.specs.EventChanges.{after_crash, after_effects, after_step, change_call, close_answered, daemon_number, fated, first_change, happens, next_input, next_step, sampled_more, take_step, take_steps}
use Rattle.sl_run.specs.Inputs.{machine_of}
use Rattle.sl_run.specs.Refusals.{sectors_left}
use Rattle.sl_run.specs.Runs.{Happening, world_after}
use Rattle.sl_run.specs.Worlds.{Course, Daemon, Dropped, Fate, Landed, Machine, Stamp, Torn, World, stamp_now}
use Rattle.sl_run.specs.declared.event.Event.{Event}
use Rattle.sl_run_law.proofs.CourseLists.{FurtherCourse, StillCourse, calls_changed, calls_further, calls_still, calls_submitted, continues_further, continues_still, every_of, none_appended}
use Rattle.sl_run_law.proofs.WorldsGoOn.{grown_again, same_list}
use Rattle.sl_run_law.proofs.MachineWalk.{Asked, each_first, each_further, each_step, each_still}
use Rattle.sl_run_law.specs.CoursesGoOn.{Continues, Tracks}
use Rattle.sl_run_law.specs.FatesStay.{Every}
use Rattle.sl_run_law.specs.WorldsGoOn.{Grown}
use Rattle.sl_run_law.specs.Machines.{EachMachine}
use Rattle.sl_trace.specs.Traces.{is_ok_answer}
use Rattle.sl_trace.specs.declared.effects.Effects.{Effects}
use Rattle.sl_trace.specs.declared.input.Input.TheVariants.{Answer as Told, Exit, Line, Number, Spawned, Wake}
use Rattle.sl_trace.specs.declared.input.Input.{Input}
use Rattle.std.proofs.Common.{refl}
use Rattle.std.specs.Prelude.{Bool, List, None, Option, Some, true, [], ℕ, ◌++◌, ◌==◌, ◌∷◌, ◌≡◌}

-- ---- for any relation of courses

pub tracks_still : (C : Course → Course → Type 0) (a : Machine) → StillCourse C → Tracks C a a
tracks_still C a still = record { calls = calls_still C a.calls still; resets = same_list a.resets; ended = same_list a.ended }

pub tracks_further : (C : Course → Course → Type 0) (a b c : Machine) → FurtherCourse C → Tracks C a b → Tracks C b c → Tracks C a c
tracks_further C a b c further g h =
    record {
      calls = calls_further C a.calls b.calls c.calls further g.calls h.calls;
      resets = grown_again a.resets b.resets c.resets g.resets h.resets;
      ended = grown_again a.ended b.ended c.ended g.ended h.ended;
    }

pub tracks_changed : (C : Course → Course → Type 0) (n : ℕ) (f : Course → Course) (a : Machine) → StillCourse C
    → Every (λ c. (c.call.number == n) ≡ true → C c (f c)) a.calls → Tracks C a (change_call n f a)
tracks_changed C n f a still h =
    record { calls = calls_changed C (λ c. c.call.number == n) f a.calls still h; resets = same_list a.resets; ended = same_list a.ended }

pub ended_by : (o : Option Daemon) (ds : List Daemon) → Grown ds (elim o as (λ x. List Daemon) [ None ↦ ds | Some d ↦ d ∷ ds ])
ended_by None ds = same_list ds
ended_by (Some d) ds = record { newer = d ∷ []; same = refl }

pub tracks_crash : (C : Course → Course → Type 0) (a : Machine) → StillCourse C → Tracks C a (after_crash a)
tracks_crash C a still = record { calls = calls_still C a.calls still; resets = same_list a.resets; ended = ended_by a.daemon a.ended }

pub tracks_effects : (C : Course → Course → Type 0) (now : Stamp) (fx : Effects) (a : Machine) → StillCourse C → Tracks C a (after_effects now fx a)
tracks_effects C now fx a still =
    record { calls = calls_submitted C now (daemon_number a) a.calls fx.calls still; resets = same_list a.resets; ended = same_list a.ended }

-- The answer of a call.
abbrev pub told : Stamp → Bool → Course → Course
told now ok c = record c { answered = Some now; done = ok }

-- The input answers the call with this number.
abbrev pub IsTold : Input → ℕ → Type 0
IsTold i n = elim i [ Told number answer ↦ number ≡ n | _ ↦ ⊥ ]

tracks_closed : (C : Course → Course → Type 0) (now : Stamp) (i : Input) (a : Machine) → StillCourse C
    → ((n : ℕ) (ok : Bool) → IsTold i n → Every (λ c. (c.call.number == n) ≡ true → C c (told now ok c)) a.calls) → Tracks C a (close_answered now i a)
tracks_closed C now (Line text) a still h = tracks_still C a still
tracks_closed C now (Number text) a still h = tracks_still C a still
tracks_closed C now (Told n answer) a still h = tracks_changed C n (told now (is_ok_answer answer)) a still (h n (is_ok_answer answer) refl)
tracks_closed C now Wake a still h = tracks_still C a still
tracks_closed C now (Exit p) a still h = tracks_still C a still
tracks_closed C now (Spawned p ok) a still h = tracks_still C a still

pub tracks_step : (C : Course → Course → Type 0) (now : Stamp) (i : Input) (fx : Effects) (a : Machine) → StillCourse C → FurtherCourse C
    → ((n : ℕ) (ok : Bool) → IsTold i n → Every (λ c. (c.call.number == n) ≡ true → C c (told now ok c)) a.calls) → Tracks C a (after_step now i fx a)
tracks_step C now i fx a still further h =
    let b : Machine = close_answered now i a in
    let u : Tracks C b (after_effects now fx b) = tracks_effects C now fx b still in
    let t : Tracks C b (after_step now i fx a) = record { calls = u.calls; resets = u.resets; ended = u.ended } in
    tracks_further C a b (after_step now i fx a) further (tracks_closed C now i a still h) t

-- ---- what stays of a course whatever happens

sampled_continues : (w : World) (k : ℕ) (c : Course) → Continues c (sampled_more w k c)
sampled_continues w k c =
    let d : Course = sampled_more w k c in
    record { call = refl; daemon = refl; made = refl; sampled = record { newer = _; same = refl }; samples = record { newer = _; same = refl } }

fated_continues : (fate : Fate) (c : Course) → Continues c (fated fate c)
fated_continues fate c = record { call = refl; daemon = refl; made = refl; sampled = none_appended c.sampled; samples = none_appended c.samples }

pub told_continues : (now : Stamp) (ok : Bool) (c : Course) → Continues c (told now ok c)
told_continues now ok c = record { call = refl; daemon = refl; made = refl; sampled = none_appended c.sampled; samples = none_appended c.samples }

changed_by : (n : ℕ) (f : Course → Course) (a : Machine) → ((c : Course) → Continues c (f c)) → Tracks Continues a (change_call n f a)
changed_by n f a h = tracks_changed Continues n f a continues_still (every_of (λ c. (c.call.number == n) ≡ true → Continues c (f c)) a.calls (λ c t. h c))

asked : (w : World) (e : Event) → Asked (λ m. Tracks Continues) w e
asked w e =
    record {
      pass = λ d growths is m a h. record { calls = calls_still Continues a.calls continues_still; resets = same_list a.resets; ended = same_list a.ended };
      sample = λ m c k is a h. changed_by c (sampled_more w k) a (sampled_continues w k);
      land = λ m c is a f h g t. changed_by c (fated Landed) a (fated_continues Landed);
      tear = λ m c k bytes is a f h g t. changed_by c (fated Torn) a (fated_continues Torn);
      done_read = λ m c is a f h g t. changed_by c (sampled_more w (sectors_left f)) a (sampled_continues w (sectors_left f));
      done_write = λ m c is a f h g t. changed_by c (fated Landed) a (fated_continues Landed);
      drop_write = λ m c is a h. changed_by c (fated Dropped) a (fated_continues Dropped);
      tested = λ m is a h. record { calls = calls_still Continues a.calls continues_still; resets = same_list a.resets; ended = same_list a.ended };
      start = λ m name is a h. record { calls = calls_still Continues a.calls continues_still; resets = same_list a.resets; ended = same_list a.ended };
      crash = λ m is a h. tracks_crash Continues a continues_still;
      reset = λ m is a h. record {
        calls = calls_still Continues a.calls continues_still;
        resets = record { newer = stamp_now w a ∷ []; same = refl };
        ended = ended_by a.daemon a.ended;
      };
      restart = λ m is a h. record { calls = calls_still Continues a.calls continues_still; resets = same_list a.resets; ended = same_list a.ended };
    }

-- ---- events and runs

further : (m : ℕ) (a b c : Machine) → Tracks Continues a b → Tracks Continues b c → Tracks Continues a c
further m a b c g h = tracks_further Continues a b c continues_further g h

pub still : (m : ℕ) (a : Machine) → Tracks Continues a a
still m a = tracks_still Continues a continues_still

pub step_tracks : (m : ℕ) (o : Option Input) (fx : Effects) (v : World) → EachMachine (λ m. Tracks Continues) v (take_step m o fx v)
step_tracks m o fx v =
    each_step (λ m. Tracks Continues) m o fx v still (λ none a h. tracks_effects Continues (stamp_now v a) fx a continues_still)
    (λ i is a h. tracks_step Continues (stamp_now v a) i fx a continues_still continues_further
    (λ n ok t. every_of (λ c. (c.call.number == n) ≡ true → Continues c (told (stamp_now v a) ok c)) a.calls (λ c q. told_continues (stamp_now v a) ok c)))

steps_track : (w : World) (e : Event) (before fxs : List Effects) (v : World) → EachMachine (λ m. Tracks Continues) v (take_steps w e before fxs v)
steps_track w e before [] v = each_still (λ m. Tracks Continues) v still
steps_track w e before (fx ∷ fxs) v =
    let u : World = take_step (machine_of e) (next_input w e before) fx v in
    each_further (λ m. Tracks Continues) v u (take_steps w e before (fx ∷ fxs) v) further (step_tracks (machine_of e) (next_input w e before) fx v)
    (steps_track w e (before ++ fx ∷ []) fxs u)

pub event_tracks : (w : World) (e : Event) (fxs : List Effects) → EachMachine (λ m. Tracks Continues) w (happens w e fxs)
event_tracks w e fxs =
    let u : World = first_change e w in
    each_further (λ m. Tracks Continues) w (next_step u) (happens w e fxs) further (each_first (λ m. Tracks Continues) e w (λ none. still) (asked w e))
    (steps_track w e [] fxs (next_step u))

pub run_tracks : (w : World) (xs : List Happening) → EachMachine (λ m. Tracks Continues) w (world_after w xs)
run_tracks w [] = each_still (λ m. Tracks Continues) w still
run_tracks w (x ∷ xs) =
    each_further (λ m. Tracks Continues) w (happens w x.0 x.1) (world_after w (x ∷ xs)) further (event_tracks w x.0 x.1) (run_tracks (happens w x.0 x.1) xs)
