-- What an event changes in a world, in this order:
--
-- 1. `first_change`: what the event does by itself: time passes, a call is sampled, lands, is torn or dropped, a machine goes down or
--    comes up.
-- 2. `close_answered`: the call that the event's input answers is no longer in flight.
-- 3. `after_effects`: what the effects of the daemon's step make: connections, calls, holdings, and the locks whose holdings have ended.
--    Where no daemon takes the event the machine's own effects (`own_effects`) do so.
-- 4. `with_entry`, `locks_after`: the daemon's trace is longer by the entry, and lvmlockd's locks take their turn.
--
-- `happens` is all of it. After each of `first_change` and the steps one number of a step is used up (`next_step`), so whatever happens
-- has a stamp of its own.
use Rattle.sl_area.specs.AreaSizes.{sector_with}
use Rattle.sl_run.specs.Locks.{fresh_locks, left_locks, locks_after}
use Rattle.sl_run.specs.Worlds.{Course, Daemon, Dropped, Fate, In_flight, Landed, Machine, Sampling, Stamp, Torn, World, change_machine, daemons_on, flight_of, is_in_flight, is_write_course, landed_at, lingering_now, machine_at, new_daemon, next_numbers, reading_now, sector_size, setting_of, stamp_now}
use Rattle.sl_run.specs.declared.event.Event.TheVariants.{Crash, Do, DropWrite, ExitOf, Land, Pass, Reset, Restart, Sample, StartDaemon, Tear, Test}
use Rattle.sl_run.specs.declared.event.Event.{Event}
use Rattle.sl_trace.specs.WatchdogConnections.{after_move, test_holds}
use Rattle.sl_trace.specs.Traces.{end_of, held_after, is_ok_answer, next_job, no_effects, orphans_left, record_of}
use Rattle.sl_trace.specs.declared.effects.Call.{Call}
use Rattle.sl_trace.specs.declared.effects.Effects.{Effects}
use Rattle.sl_trace.specs.declared.effects.Entry.{Entry}
use Rattle.sl_trace.specs.declared.effects.Grant.{Grant}
use Rattle.sl_trace.specs.declared.input.Input.TheVariants.{Answer as Told}
use Rattle.sl_trace.specs.declared.input.Input.{Input}
use Rattle.std.specs.List.{enumerate_from, range_with_len}
use Rattle.std.specs.Option.{option_map_or}
use Rattle.std.specs.Prelude.{Bool, List, None, Option, Some, false, filter, fold, if◌then◌else◌, length, map, option_and_then, option_map, true, [], ℕ, ◌*◌, ◌++◌, ◌+◌, ◌==◌, ◌∷◌}
use Rattle.sl_run.specs.Refusals.{sectors_left}
use Rattle.sl_run.specs.Premises.{torn_bytes, growth_of}
use Rattle.sl_run.specs.Inputs.{rest_sampled, machine_of, input_of}

-- ---- what the machine itself does, where no daemon takes the event: holdings end, and some become orphans

-- These holdings end.
abbrev pub ends_of : List Grant → Effects
ends_of gs = record no_effects { ends = map end_of gs }

-- What a machine does without its daemon: at an exit, and at a reset.
abbrev pub own_effects : World → Event → Machine → Effects
own_effects w (ExitOf m p) a = record (ends_of (filter (λ g. g.process == p) a.holdings)) { grants = orphans_left p a.holdings }
own_effects w (Reset m) a = ends_of a.holdings
own_effects w e a = no_effects

-- ---- what changes

-- A call that a step of the running daemon submits.
abbrev pub new_course : Stamp → ℕ → Call → Course
new_course now daemon c =
    record { call = c; daemon = daemon; made = now; sampled = []; samples = []; fate = In_flight; answered = None; done = false }

-- The number of the daemon that runs.
abbrev pub daemon_number : Machine → ℕ
daemon_number a = option_map_or (λ d. d.number) a.daemon 0

-- The effects of a step, or of the machine itself, on the machine.
abbrev pub after_effects : Stamp → Effects → Machine → Machine
after_effects now fx a =
    record a {
      connections = fold after_move a.connections fx.moves;
      calls = fold (λ cs c. new_course now (daemon_number a) c ∷ cs) a.calls fx.calls;
      holdings = held_after fx a.holdings;
      locks = left_locks fx a.locks;
    }

-- The daemon with one more entry.
abbrev pub with_entry : Entry → Stamp → Daemon → Daemon
with_entry e now d = record d { trace = e ∷ d.trace; stamps = now ∷ d.stamps }

-- The calls of the machine, those that pass changed.
abbrev pub change_calls : (Course → Bool) → (Course → Course) → Machine → Machine
change_calls p f a = record a { calls = map (λ c. elim (p c) [ true ↦ f c | false ↦ c ]) a.calls }

-- The call with this number, changed; numbers are given once for each machine.
abbrev pub change_call : ℕ → (Course → Course) → Machine → Machine
change_call number f a = change_calls (λ c. c.call.number == number) f a

-- The call that the input answers is closed.
abbrev pub close_answered : Stamp → Input → Machine → Machine
close_answered now i a =
    elim i [ Told number answer ↦ change_call number (λ c. record c { answered = Some now; done = is_ok_answer answer }) a | _ ↦ a ]

-- The number that the next line of the running daemon takes.
abbrev pub number_of_step : Machine → ℕ
number_of_step a = option_map_or (λ d. next_job d.setting d.trace) a.daemon 0

-- The running daemon takes one step.
abbrev pub after_step : Stamp → Input → Effects → Machine → Machine
after_step now i fx a =
    let b : Machine = after_effects now fx (close_answered now i a) in
    record b {
      daemon = option_map (with_entry (record { reading = reading_now a; input = i; effects = fx }) now) b.daemon;
      locks = (locks_after (number_of_step a) i fx a.locks).0;
    }

-- The call with this fate.
abbrev pub fated : Fate → Course → Course
fated fate c = record c { fate = fate }

-- What a whole write leaves.
abbrev pub write_bytes : World → Call → List ℕ
write_bytes w c = option_map_or (sector_with w.layout) (record_of c.op) []

-- One more landing, of this call of machine m.
abbrev pub add_landing : ℕ → Call → Bool → List ℕ → World → World
add_landing m c whole bytes w =
    record w {
      landings = record {
        path = c.path;
        offset = c.offset;
        bytes = bytes;
        whole = whole;
        writer = Some (m, c.number);
        step = w.step;
        moment = w.moment;
      } ∷ w.landings;
    }

-- The call in flight of machine m.
abbrev pub flight_at : World → ℕ → ℕ → Option Course
flight_at w m c = option_and_then (λ a. flight_of a c) (machine_at w m)

-- The write takes effect whole.
abbrev pub land_whole : ℕ → ℕ → World → World
land_whole m c w =
    option_map_or (λ f. change_machine m (change_call c (fated Landed)) (add_landing m f.call true (write_bytes w f.call) w)) (flight_at w m c) w

-- The write takes effect in part.
abbrev pub land_torn : ℕ → ℕ → ℕ → List ℕ → World → World
land_torn m c k bytes w =
    option_map_or (λ f. change_machine m (change_call c (fated Torn)) (add_landing m f.call false (torn_bytes w f.call k bytes) w)) (flight_at w m c) w

-- The sample of the call's sector k, now.
abbrev pub sample_at : World → Call → ℕ → Sampling
sample_at w c k = record { step = w.step; moment = w.moment; index = length (landed_at w c.path (c.offset + k * sector_size w)) }

-- The read with so many sectors more.
abbrev pub sampled_more : World → ℕ → Course → Course
sampled_more w k c =
    record c {
      sampled = rest_sampled w c k;
      samples = c.samples ++ map (sample_at w c.call) (range_with_len (length c.samples) k);
    }

-- What an answer ok needs is done: the rest is sampled, or the write lands.
abbrev pub complete : ℕ → ℕ → World → World
complete m c w =
    elim (flight_at w m c) [
      | None ↦ w
      | Some f ↦ elim (is_write_course f) [
        | false ↦ change_machine m (change_call c (sampled_more w (sectors_left f))) w
        | true ↦ elim (is_in_flight f.fate) [ true ↦ land_whole m c w | false ↦ w ]
      ]
    ]

-- A machine's clock goes on.
abbrev pub passed : ℕ → Option (List ℕ) → ℕ → Machine → Machine
passed d growths m a = record a { clock = a.clock + growth_of d growths m }

-- Time passes.
abbrev pub after_pass : ℕ → Option (List ℕ) → World → World
after_pass d growths w = record w { moment = w.moment + d; machines = map (λ p. passed d growths p.0 p.1) (enumerate_from 1 w.machines) }

-- A test that holds moves the keepalive.
abbrev pub after_test : World → Machine → Machine
after_test w a = record a { kept = (if test_holds a.connections (reading_now a) then stamp_now w a else a.kept) }

-- A daemon begins.
abbrev pub after_start : World → ℕ → List ℕ → Machine → Machine
after_start w m name a =
    record a {
      daemon = Some (new_daemon (length (daemons_on a)) (setting_of w.program w.layout w.header m name (next_numbers a) []) (stamp_now w a));
      used = true;
      locks = fresh_locks w.header;
    }

-- The daemon ends.
abbrev pub after_crash : Machine → Machine
after_crash a = record a { daemon = None; ended = daemons_on a }

-- The machine goes down. What it holds lingers from now on, beside what lingers of earlier resets; and lvmlockd's locks are gone.
abbrev pub after_reset : World → Machine → Machine
after_reset w a =
    record a {
      up = false;
      connections = [];
      daemon = None;
      ended = daemons_on a;
      holdings = [];
      lingering = map (λ g. record { held = g; reset = w.moment }) a.holdings ++ lingering_now w a;
      resets = stamp_now w a ∷ a.resets;
      locks = fresh_locks w.header;
    }

-- The machine comes up; the last keepalive rests on now.
abbrev pub after_restart : World → Machine → Machine
after_restart w a = record a { up = true; kept = stamp_now w a; used = false }

-- What the event does before a daemon, if any, takes its steps.
unfoldable pub first_change : Event → World → World
first_change (Pass d growths) w = after_pass d growths w
first_change (Sample m c k) w = change_machine m (change_call c (sampled_more w k)) w
first_change (Land m c) w = land_whole m c w
first_change (Tear m c k bytes) w = land_torn m c k bytes w
first_change (Do m c) w = complete m c w
first_change (DropWrite m c) w = change_machine m (change_call c (fated Dropped)) w
first_change (Test m) w = change_machine m (after_test w) w
first_change (StartDaemon m name) w = change_machine m (after_start w m name) w
first_change (Crash m) w = change_machine m after_crash w
first_change (Reset m) w = change_machine m (after_reset w) w
first_change (Restart m) w = change_machine m (after_restart w) w
first_change e w = w

-- The world after one more step.
abbrev pub next_step : World → World
next_step w = record w { step = w.step + 1 }

-- The input of the event's next step, after steps with these effects; none where it has no further step. (An event has one step
-- at most: an ask that a step leaves due is an event of its own.).
abbrev pub next_input : World → Event → List Effects → Option Input
next_input w e [] = input_of w e
next_input w e (fx ∷ fxs) = None

-- One step of the daemon of machine m, or what the machine itself does.
abbrev pub take_step : ℕ → Option Input → Effects → World → World
take_step m None fx v = next_step (change_machine m (λ a. after_effects (stamp_now v a) fx a) v)
take_step m (Some i) fx v = next_step (change_machine m (λ a. after_step (stamp_now v a) i fx a) v)

-- The steps that follow those with effects `done`; w is the world before the event.
abbrev pub take_steps : World → Event → List Effects → List Effects → World → World
take_steps w e done [] v = v
take_steps w e done (fx ∷ fxs) v = take_steps w e (done ++ fx ∷ []) fxs (take_step (machine_of e) (next_input w e done) fx v)

-- What the event changes, with the effects of its steps in order, or the machine's own.
abbrev pub happens : World → Event → List Effects → World
happens w e fxs = take_steps w e [] fxs (next_step (first_change e w))
