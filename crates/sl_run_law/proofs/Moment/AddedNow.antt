-- What each event keeps more on a machine is of now.
use Rattle.sl_run_law.proofs.Moment.GrowingLists.{CallsAdd, CourseAdds, From, IsNow, calls_again, calls_changed, calls_same, calls_submitted, from_again, from_both, from_equal, from_new, from_same}
use Rattle.sl_run_law.specs.Moment.MomentsFollowSteps.{stamps_on}
use Rattle.sl_words.proofs.Lists.{contains_cases, contains_none}
use Rattle.sl_run.specs.EventChanges.{after_crash, after_effects, after_reset, after_restart, after_start, after_step, after_test, change_call, close_answered, daemon_number, fated, first_change, happens, next_input, next_step, passed, sample_at, sampled_more, take_step, take_steps, with_entry}
use Rattle.sl_run.specs.Inputs.{machine_of}
use Rattle.sl_run.specs.Refusals.{sectors_left}
use Rattle.sl_run.specs.Locks.{Locks}
use Rattle.sl_run.specs.Worlds.{Course, Daemon, Dropped, Fate, Landed, Machine, Sampling, Stamp, Torn, World, change_machine, daemons_on, machine_at, new_daemon, next_numbers, reading_now, setting_of, stamp_now}
use Rattle.sl_run.specs.declared.event.Event.{Event}
use Rattle.sl_run_law.proofs.WorldsGoOn.{event_goes, first_goes}
use Rattle.sl_run_law.proofs.MachineWalk.{Asked, each_first, each_further, each_step, each_still, each_then}
use Rattle.sl_run_law.specs.WorldsGoOn.{time_of}
use Rattle.sl_run_law.specs.Machines.{EachMachine}
use Rattle.sl_run_law.proofs.Front.JoinedLists.{contains_append, contains_right}
use Rattle.sl_trace.specs.WatchdogConnections.{test_holds}
use Rattle.sl_trace.specs.Traces.{is_ok_answer}
use Rattle.sl_trace.specs.declared.effects.Call.{Call}
use Rattle.sl_trace.specs.declared.effects.Effects.{Effects}
use Rattle.sl_trace.specs.declared.effects.Entry.{Entry}
use Rattle.sl_trace.specs.declared.input.Input.TheVariants.{Answer as Told, Exit, Line, Number, Spawned, Wake}
use Rattle.sl_trace.specs.declared.input.Input.{Input}
use Rattle.std.proofs.Common.{ap, arith, inl, inr, refl, subst, sym, ◌∙◌}
use Rattle.std.specs.Prelude.{Bool, Contains, List, None, Option, Some, false, filter_map, flat_map, if◌then◌else◌, length, map, option_map, slice_set, true, [], ℕ, ◌++◌, ◌+◌, ◌-◌, ◌<◌, ◌==◌, ◌∷◌, ◌≡◌, ◌≤◌, ◌⊎◌}

-- ---- a machine

-- The stamps that daemons keep.
abbrev pub daemon_stamps : List Daemon → List Stamp
daemon_stamps ds = flat_map (λ d. d.begun ∷ d.stamps) ds

-- A machine later: what it keeps more is new.
pub record Adds (N : ℕ → ℕ → Type 0) (a b : Machine) : Type 0 where
  pub kept : From N b.clock (a.kept ∷ []) (b.kept ∷ [])
  pub resets : From N b.clock a.resets b.resets
  pub daemons : From N b.clock (daemon_stamps (daemons_on a)) (daemon_stamps (daemons_on b))
  pub calls : CallsAdd N b.clock a.calls b.calls

-- .. and its clock stands.
pub record AddsStill (N : ℕ → ℕ → Type 0) (a b : Machine) : Type 0 where
  pub adds : Adds N a b
  pub clock : b.clock ≡ a.clock

-- Each stamp that it keeps is an old one, or new.
pub adds_stamps : (N : ℕ → ℕ → Type 0) (a b : Machine) → Adds N a b → From N b.clock (stamps_on a) (stamps_on b)
adds_stamps N a b h =
    let made : From N b.clock (map (λ c. c.made) a.calls) (map (λ c. c.made) b.calls) = h.calls.made in
    let answered : From N b.clock (filter_map (λ c. c.answered) a.calls) (filter_map (λ c. c.answered) b.calls) = h.calls.answered in
    let old : List Stamp = a.resets ++ daemon_stamps (daemons_on a) in
    let grown : List Stamp = b.resets ++ daemon_stamps (daemons_on b) in
    from_both N b.clock (a.kept ∷ []) (b.kept ∷ []) (old ++ map (λ c. c.made) a.calls ++ filter_map (λ c. c.answered) a.calls)
    (grown ++ map (λ c. c.made) b.calls ++ filter_map (λ c. c.answered) b.calls) h.kept
    (from_both N b.clock (old ++ map (λ c. c.made) a.calls) (grown ++ map (λ c. c.made) b.calls) (filter_map (λ c. c.answered) a.calls)
    (filter_map (λ c. c.answered) b.calls)
    (from_both N b.clock old grown (map (λ c. c.made) a.calls) (map (λ c. c.made) b.calls)
    (from_both N b.clock a.resets b.resets (daemon_stamps (daemons_on a)) (daemon_stamps (daemons_on b)) h.resets h.daemons) made) answered)

adds_again : (N : ℕ → ℕ → Type 0) (a b c : Machine) → Adds N a b → AddsStill N b c → Adds N a c
adds_again N a b c f s =
    let g = s.adds in
    let e : b.clock ≡ c.clock = sym s.clock in
    record {
      kept = from_again N b.clock c.clock (a.kept ∷ []) (b.kept ∷ []) (c.kept ∷ []) e f.kept g.kept;
      resets = from_again N b.clock c.clock a.resets b.resets c.resets e f.resets g.resets;
      daemons = from_again N b.clock c.clock (daemon_stamps (daemons_on a)) (daemon_stamps (daemons_on b)) (daemon_stamps (daemons_on c)) e f.daemons g.daemons;
      calls = calls_again N b.clock c.clock a.calls b.calls c.calls e f.calls g.calls;
    }

still_again : (N : ℕ → ℕ → Type 0) (a b c : Machine) → AddsStill N a b → AddsStill N b c → AddsStill N a c
still_again N a b c f g = record { adds = adds_again N a b c f.adds g; clock = g.clock ∙ f.clock }

-- A change of its calls alone.
calls_alone : (N : ℕ → ℕ → Type 0) (a b : Machine) → b.kept ≡ a.kept → b.resets ≡ a.resets → daemons_on b ≡ daemons_on a → CallsAdd N b.clock a.calls b.calls → Adds N a b
calls_alone N a b kept resets daemons calls =
    record {
      kept = from_equal N b.clock (a.kept ∷ []) (b.kept ∷ []) (ap (λ s. s ∷ []) kept);
      resets = from_equal N b.clock a.resets b.resets resets;
      daemons = from_equal N b.clock (daemon_stamps (daemons_on a)) (daemon_stamps (daemons_on b)) (ap daemon_stamps daemons);
      calls = calls;
    }

adds_nothing : (N : ℕ → ℕ → Type 0) (a b : Machine) → b.kept ≡ a.kept → b.resets ≡ a.resets → daemons_on b ≡ daemons_on a → b.calls ≡ a.calls → Adds N a b
adds_nothing N a b kept resets daemons calls =
    calls_alone N a b kept resets daemons (subst (λ cs. CallsAdd N b.clock a.calls cs) (sym calls) (calls_same N b.clock a.calls))

adds_same : (N : ℕ → ℕ → Type 0) (a : Machine) → Adds N a a
adds_same N a = adds_nothing N a a refl refl refl refl

same_still : (N : ℕ → ℕ → Type 0) (m : ℕ) (a : Machine) → AddsStill N a a
same_still N m a = record { adds = adds_same N a; clock = refl }

-- ---- one call goes on

call_changes : (N : ℕ → ℕ → Type 0) (n : ℕ) (f : Course → Course) (a : Machine) → ((c : Course) → CourseAdds N a.clock c (f c)) → Adds N a (change_call n f a)
call_changes N n f a h = calls_alone N a (change_call n f a) refl refl refl (calls_changed N a.clock (λ c. c.call.number == n) f a.calls h)

fated_adds : (N : ℕ → ℕ → Type 0) (clock : ℕ) (fate : Fate) (c : Course) → CourseAdds N clock c (fated fate c)
fated_adds N clock fate c = record { made = refl; answered = inl refl; samples = λ s h. inl h }

told_adds : (N : ℕ → ℕ → Type 0) (clock : ℕ) (now : Stamp) (ok : Bool) (c : Course) → IsNow N clock now → CourseAdds N clock c (record c { answered = Some now; done = ok })
told_adds N clock now ok c is = record { made = refl; answered = inr (now, refl, is); samples = λ s h. inl h }

sampled_now : (N : ℕ → ℕ → Type 0) (w : World) (c : Call) (ks : List ℕ) (s : Sampling) → N w.step w.moment → Contains (map (sample_at w c) ks) s → N s.step s.moment
sampled_now N w c [] s now h = absurd (contains_none s h)
sampled_now N w c (k ∷ ks) s now h =
    elim (contains_cases (sample_at w c k) (map (sample_at w c) ks) s h) as (λ z. N s.step s.moment) [
      | inl e ↦ subst (λ (x : Sampling). N x.step x.moment) e now
      | inr more ↦ sampled_now N w c ks s now more
    ]

samples_now : (N : ℕ → ℕ → Type 0) (w : World) (c : Call) (ks : List ℕ) (before : List Sampling) (s : Sampling) → N w.step w.moment
    → Contains (before ++ map (sample_at w c) ks) s → Contains before s ⊎ N s.step s.moment
samples_now N w c ks before s now h =
    elim (contains_append before (map (sample_at w c) ks) s h) as (λ z. Contains before s ⊎ N s.step s.moment) [
      | inl p ↦ inl p
      | inr q ↦ inr (sampled_now N w c ks s now q)
    ]

sampled_adds : (N : ℕ → ℕ → Type 0) (clock : ℕ) (w : World) (k : ℕ) (c : Course) → N w.step w.moment → CourseAdds N clock c (sampled_more w k c)
sampled_adds N clock w k c now = record { made = refl; answered = inl refl; samples = λ s h. samples_now N w c.call _ c.samples s now h }

-- ---- daemons

entered_by : (N : ℕ → ℕ → Type 0) (clock : ℕ) (e : Entry) (now : Stamp) (o : Option Daemon) (ds : List Daemon) → IsNow N clock now
    → From N clock (daemon_stamps (elim o as (λ x. List Daemon) [ None ↦ ds | Some d ↦ d ∷ ds ]))
    (daemon_stamps (elim (option_map (with_entry e now) o) as (λ x. List Daemon) [ None ↦ ds | Some d ↦ d ∷ ds ]))
entered_by N clock e now None ds is = from_same N clock (daemon_stamps ds)
entered_by N clock e now (Some d) ds is =
    from_both N clock (d.begun ∷ d.stamps) (d.begun ∷ now ∷ d.stamps) (daemon_stamps ds) (daemon_stamps ds)
    (from_both N clock (d.begun ∷ []) (d.begun ∷ []) d.stamps (now ∷ d.stamps) (from_same N clock (d.begun ∷ []))
    (from_new N clock d.stamps d.stamps now is (from_same N clock d.stamps)))
    (from_same N clock (daemon_stamps ds))

begun_by : (N : ℕ → ℕ → Type 0) (clock : ℕ) (o : Option Daemon) (ds : List Daemon) (d : Daemon) → d.stamps ≡ [] → IsNow N clock d.begun
    → From N clock (daemon_stamps (elim o as (λ x. List Daemon) [ None ↦ ds | Some e ↦ e ∷ ds ])) (daemon_stamps (d ∷ ds))
begun_by N clock None ds d none is =
    subst (λ ss. From N clock (daemon_stamps ds) (d.begun ∷ (ss ++ daemon_stamps ds))) (sym none)
    (from_new N clock (daemon_stamps ds) (daemon_stamps ds) d.begun is (from_same N clock (daemon_stamps ds)))
begun_by N clock (Some e) ds d none is =
    subst (λ ss. From N clock (daemon_stamps (e ∷ ds)) (d.begun ∷ (ss ++ daemon_stamps ds))) (sym none)
    (from_new N clock (daemon_stamps (e ∷ ds)) (daemon_stamps ds) d.begun is (λ s h. inl (contains_right (e.begun ∷ e.stamps) (daemon_stamps ds) s h)))

-- ---- what happens to a machine

effects_add : (N : ℕ → ℕ → Type 0) (now : Stamp) (fx : Effects) (a : Machine) → IsNow N a.clock now → Adds N a (after_effects now fx a)
effects_add N now fx a is = calls_alone N a (after_effects now fx a) refl refl refl (calls_submitted N a.clock now (daemon_number a) a.calls fx.calls is)

closed_adds : (N : ℕ → ℕ → Type 0) (now : Stamp) (i : Input) (a : Machine) → IsNow N a.clock now → AddsStill N a (close_answered now i a)
closed_adds N now (Line text) a is = same_still N 0 a
closed_adds N now (Number text) a is = same_still N 0 a
closed_adds N now (Told n answer) a is =
    record { adds = call_changes N n (λ c. record c { answered = Some now; done = is_ok_answer answer }) a (λ c. told_adds N a.clock now (is_ok_answer answer) c is); clock = refl }
closed_adds N now Wake a is = same_still N 0 a
closed_adds N now (Exit p) a is = same_still N 0 a
closed_adds N now (Spawned p ok) a is = same_still N 0 a

-- The running daemon has one more entry, whatever lvmlockd's locks.
enters : (N : ℕ → ℕ → Type 0) (e : Entry) (now : Stamp) (locks : Locks) (a : Machine) → IsNow N a.clock now
    → AddsStill N a (record a { daemon = option_map (with_entry e now) a.daemon; locks = locks })
enters N e now locks a is =
    record {
      adds = record {
        kept = from_same N a.clock (a.kept ∷ []);
        resets = from_same N a.clock a.resets;
        daemons = entered_by N a.clock e now a.daemon a.ended is;
        calls = calls_same N a.clock a.calls;
      };
      clock = refl;
    }

step_adds : (N : ℕ → ℕ → Type 0) (now : Stamp) (i : Input) (fx : Effects) (a : Machine) → IsNow N a.clock now → AddsStill N a (after_step now i fx a)
step_adds N now i fx a is =
    let b : Machine = close_answered now i a in
    let c : Machine = after_effects now fx b in
    let closed = closed_adds N now i a is in
    let here : IsNow N b.clock now = (is.0, is.1 ∙ sym closed.clock) in
    let went : AddsStill N b c = record { adds = effects_add N now fx b here; clock = refl } in
    let e : Entry = record { reading = reading_now a; input = i; effects = fx } in
    still_again N a c (after_step now i fx a) (still_again N a b c closed went) (enters N e now (after_step now i fx a).locks c here)

reset_adds : (N : ℕ → ℕ → Type 0) (w : World) (a : Machine) → N w.step w.moment → Adds N a (after_reset w a)
reset_adds N w a now =
    record {
      kept = from_same N a.clock (a.kept ∷ []);
      resets = from_new N a.clock a.resets a.resets (stamp_now w a) (now, refl) (from_same N a.clock a.resets);
      daemons = from_same N a.clock (daemon_stamps (daemons_on a));
      calls = calls_same N a.clock a.calls;
    }

-- The keepalive rests on now, or on what it rested on.
kept_now : (N : ℕ → ℕ → Type 0) (clock : ℕ) (t : Bool) (now kept : Stamp) → IsNow N clock now → From N clock (kept ∷ []) ((if t then now else kept) ∷ [])
kept_now N clock true now kept is = from_new N clock (kept ∷ []) [] now is (λ s h. absurd (contains_none s h))
kept_now N clock false now kept is = from_same N clock (kept ∷ [])

test_adds : (N : ℕ → ℕ → Type 0) (w : World) (a : Machine) → N w.step w.moment → Adds N a (after_test w a)
test_adds N w a now =
    record {
      kept = kept_now N a.clock (test_holds a.connections (reading_now a)) (stamp_now w a) a.kept (now, refl);
      resets = from_same N a.clock a.resets;
      daemons = from_same N a.clock (daemon_stamps (daemons_on a));
      calls = calls_same N a.clock a.calls;
    }

restart_adds : (N : ℕ → ℕ → Type 0) (w : World) (a : Machine) → N w.step w.moment → Adds N a (after_restart w a)
restart_adds N w a now =
    record {
      kept = kept_now N a.clock true (stamp_now w a) a.kept (now, refl);
      resets = from_same N a.clock a.resets;
      daemons = from_same N a.clock (daemon_stamps (daemons_on a));
      calls = calls_same N a.clock a.calls;
    }

start_adds : (N : ℕ → ℕ → Type 0) (w : World) (m : ℕ) (name : List ℕ) (a : Machine) → N w.step w.moment → Adds N a (after_start w m name a)
start_adds N w m name a now =
    let d : Daemon = new_daemon (length (daemons_on a)) (setting_of w.program w.layout w.header m name (next_numbers a) []) (stamp_now w a) in
    record {
      kept = from_same N a.clock (a.kept ∷ []);
      resets = from_same N a.clock a.resets;
      daemons = begun_by N a.clock a.daemon a.ended d refl (now, refl);
      calls = calls_same N a.clock a.calls;
    }

-- ---- events

-- All but a time that passes may add what is of now.
asked : (N : ℕ → ℕ → Type 0) (w : World) (e : Event) → (time_of e ≡ 0 → N w.step w.moment) → Asked (λ m. Adds N) w e
asked N w e now =
    record {
      pass = λ d growths is m a h. adds_nothing N a (passed d growths m a) refl refl refl refl;
      sample = λ m c k is a h. call_changes N c (sampled_more w k) a (λ x. sampled_adds N a.clock w k x (now (ap time_of is)));
      land = λ m c is a f h g t. call_changes N c (fated Landed) a (fated_adds N a.clock Landed);
      tear = λ m c k bytes is a f h g t. call_changes N c (fated Torn) a (fated_adds N a.clock Torn);
      done_read = λ m c is a f h g t.
          call_changes N c (sampled_more w (sectors_left f)) a (λ x. sampled_adds N a.clock w (sectors_left f) x (now (ap time_of is)));
      done_write = λ m c is a f h g t. call_changes N c (fated Landed) a (fated_adds N a.clock Landed);
      drop_write = λ m c is a h. call_changes N c (fated Dropped) a (fated_adds N a.clock Dropped);
      tested = λ m is a h. test_adds N w a (now (ap time_of is));
      start = λ m name is a h. start_adds N w m name a (now (ap time_of is));
      crash = λ m is a h. adds_nothing N a (after_crash a) refl refl refl refl;
      reset = λ m is a h. reset_adds N w a (now (ap time_of is));
      restart = λ m is a h. restart_adds N w a (now (ap time_of is));
    }

-- ---- the daemon's steps

moved_by : (m : ℕ) (f : Machine → Machine) (w : World) (o : Option Machine)
    → let v : World = elim o as (λ x. World) [ None ↦ w | Some a ↦ record w { machines = slice_set w.machines (m - 1) (f a) } ] in
    (v.step ≡ w.step) × (v.moment ≡ w.moment) × (v.landings ≡ w.landings)
moved_by m f w None = (refl, refl, refl)
moved_by m f w (Some a) = (refl, refl, refl)

-- A change of one machine changes nothing else.
pub moved : (m : ℕ) (f : Machine → Machine) (w : World)
    → ((change_machine m f w).step ≡ w.step) × ((change_machine m f w).moment ≡ w.moment) × ((change_machine m f w).landings ≡ w.landings)
moved m f w = moved_by m f w (machine_at w m)

-- A step takes no time, and nothing lands in it.
pub steps_by_one : (m : ℕ) (o : Option Input) (fx : Effects) (v : World)
    → ((take_step m o fx v).step ≡ v.step + 1) × ((take_step m o fx v).moment ≡ v.moment) × ((take_step m o fx v).landings ≡ v.landings)
steps_by_one m None fx v = let p = moved m (λ a. after_effects (stamp_now v a) fx a) v in (ap (λ n. n + 1) p.0, p.1, p.2)
steps_by_one m (Some i) fx v = let p = moved m (λ a. after_step (stamp_now v a) i fx a) v in (ap (λ n. n + 1) p.0, p.1, p.2)

step_keeps : (N : ℕ → ℕ → Type 0) (m : ℕ) (o : Option Input) (fx : Effects) (v : World) → N v.step v.moment → EachMachine (λ n. AddsStill N) v (take_step m o fx v)
step_keeps N m o fx v now =
    each_step (λ n. AddsStill N) m o fx v (same_still N)
    (λ none a h. record { adds = effects_add N (stamp_now v a) fx a (now, refl); clock = refl })
    (λ i is a h. step_adds N (stamp_now v a) i fx a (now, refl))

-- Kept from one step on, before another, at this moment.
abbrev pub Between : ℕ → ℕ → ℕ → ℕ → ℕ → Type 0
Between first after now s m = (first ≤ s) × (s < after) × (m ≡ now)

steps_keep : (first after now : ℕ) (w : World) (e : Event) (before fxs : List Effects) (v : World) → first ≤ v.step → v.step + length fxs ≤ after → v.moment ≡ now
    → EachMachine (λ m. AddsStill (Between first after now)) v (take_steps w e before fxs v)
steps_keep first after now w e before [] v low high is = each_still (λ m. AddsStill (Between first after now)) v (same_still (Between first after now))
steps_keep first after now w e before (fx ∷ fxs) v low high is =
    let N : ℕ → ℕ → Type 0 = Between first after now in
    let u : World = take_step (machine_of e) (next_input w e before) fx v in
    let p = steps_by_one (machine_of e) (next_input w e before) fx v in
    each_further (λ m. AddsStill N) v u (take_steps w e before (fx ∷ fxs) v) (λ m. still_again N)
    (step_keeps N (machine_of e) (next_input w e before) fx v (low, omega (arith, high), is))
    (steps_keep first after now w e (before ++ fx ∷ []) fxs u (omega (arith, low, p.0)) (omega (arith, high, p.0)) (p.1 ∙ is))

-- What an event adds on each machine: it is kept at a step of the event, and at the moment after it.
pub event_adds : (w : World) (e : Event) (fxs : List Effects) → let v : World = happens w e fxs in
    EachMachine (λ m. Adds (Between w.step v.step v.moment)) w v
event_adds w e fxs =
    let v : World = happens w e fxs in
    let N : ℕ → ℕ → Type 0 = Between w.step v.step v.moment in
    let u : World = first_change e w in
    let all = event_goes w e fxs in
    let first = first_goes e w in
    let later : v.step ≡ w.step + (1 + length fxs) = all.step in
    let begun : u.step ≡ w.step + 0 = first.step in
    let at : v.moment ≡ w.moment + time_of e = all.moment in
    each_then (λ m. Adds N) (λ m. AddsStill N) (λ m. Adds N) w (next_step u) v (λ m. adds_again N)
    (each_first (λ m. Adds N) e w (λ none m. adds_same N) (asked N w e (λ none. (omega arith, omega (arith, later), omega (arith, at, none)))))
    (steps_keep w.step v.step v.moment w e [] fxs (next_step u) (omega (arith, begun)) (omega (arith, later, begun)) (first.moment ∙ sym at))
