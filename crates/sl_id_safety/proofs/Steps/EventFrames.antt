-- What stays of a world between an event's first change and its step, and after that step: its calls, who wrote what, the layout.
use Rattle.sl_run_law.specs.Course.CourseLaws.{MachinesMirror}
use Rattle.sl_run_law.proofs.Front.RunsFromFronts.{last_event}
use Rattle.sl_id_safety.proofs.State.FindingFrames.{find_passes}
use Rattle.sl_id_safety.proofs.State.SectorFrames.{SameSector, history_same}
use Rattle.sl_id_safety.proofs.State.WriterFrames.{HasCall, KeepsGiven, KeepsWriters, call_kept, call_there, calls_of_landings, given_on, writers_kept}
use Rattle.sl_id_safety.specs.State.IdStates.{writer_of}
use Rattle.sl_id_safety.proofs.Steps.QuietEvents.{IsOrderly, LeavesRest, begins, leaves_by, orderly}
use Rattle.sl_id_safety.proofs.Steps.IdsStayStill.{IsStill, given_first, given_stays, with_running}
use Rattle.sl_id_safety.specs.Steps.EventParts.{between}
use Rattle.sl_run_law.proofs.Landing.OneArrival.{changed_landings, flies_on}
use Rattle.sl_run_law.specs.Landing.Landings.{LandingsAreWritten}
use Rattle.sl_words.proofs.Lists.{contains_cases}
use Rattle.sl_words.proofs.Numbers.{number_itself}
use Rattle.sl_run.specs.EventChanges.{add_landing, after_crash, after_effects, after_reset, after_restart, after_start, after_step, after_test, change_call, fated, first_change, flight_at, land_whole, sampled_more, take_step, with_entry, write_bytes}
use Rattle.sl_run.specs.Inputs.{input_of, machine_of}
use Rattle.sl_run.specs.Refusals.{may_happen, sectors_left}
use Rattle.sl_run.specs.Premises.{torn_bytes}
use Rattle.sl_run.specs.Runs.{Happening}
use Rattle.sl_run.specs.Safety.{LawfulRun, world_at}
use Rattle.sl_run.specs.Worlds.{Course, Daemon, Dropped, Landed, Landing, Machine, Program, Stamp, Torn, World, change_machine, history_of, is_in_flight, is_open, is_write_course, machine_at, reading_now, stamp_now}
use Rattle.sl_run.specs.declared.event.Event.TheVariants.{AnswerCall, Crash, Do, DropWrite, ExitOf, GiveAsk, GiveCommand, GiveLvm, Land, Pass, Reset, Restart, Sample, SpawnedOf, StartDaemon, Tear, Test, WakeUp}
use Rattle.sl_run.specs.declared.event.Event.{Event}
use Rattle.sl_run.specs.declared.header.Header.{Header}
use Rattle.sl_run_law.proofs.WorldsGoOn.{event_goes}
use Rattle.sl_run_law.proofs.Guards.{starts}
use Rattle.sl_run_law.proofs.CoursesGoOn.{event_tracks, step_tracks}
use Rattle.sl_run_law.proofs.MachineWalk.{Asked, each_first, each_step}
use Rattle.sl_run_law.specs.CoursesGoOn.{Continues, Follow, ListGoes, Tracks}
use Rattle.sl_run_law.specs.FatesStay.{AreDistinct, EachDistinct, Every}
use Rattle.sl_run_law.specs.WorldsGoOn.{Goes, time_of}
use Rattle.sl_run_law.specs.Machines.{EachMachine}
use Rattle.sl_trace.specs.declared.effects.Effects.{Effects}
use Rattle.sl_trace.specs.declared.effects.Entry.{Entry}
use Rattle.sl_trace.specs.declared.input.Input.TheVariants.{Answer as Told, Exit, Line, Number, Spawned, Wake}
use Rattle.sl_trace.specs.declared.input.Input.{Input}
use Rattle.std.proofs.Common.{ap, inl, inr, refl, subst, sym, ◌∙◌}
use Rattle.std.specs.Option.{option_map_or}
use Rattle.std.specs.Prelude.{Bool, Contains, List, None, Option, Some, cond, false, find, length, option_map, true, [], ℕ, ◌&&◌, ◌++◌, ◌==◌, ◌∷◌, ◌≡◌, ◌⊎◌}

-- ---- what first daemons were given

still_given : (m : ℕ) (a : Machine) → KeepsGiven m a a
still_given m a = refl

asked_given : (w : World) (e : Event) → may_happen w e ≡ true → IsOrderly w → Asked KeepsGiven w e
asked_given w e may o =
    record {
      pass = λ d growths is m a h. refl;
      sample = λ m c k is a h. refl;
      land = λ m c is a f h g t. refl;
      tear = λ m c k bytes is a f h g t. refl;
      done_read = λ m c is a f h g t. refl;
      done_write = λ m c is a f h g t. refl;
      drop_write = λ m c is a h. refl;
      tested = λ m is a h. refl;
      start = λ m name is a h. let s : IsStill a (after_start w m name a) = begins w m name a
          ((o.settled m a h).unused (starts w m name a (subst (λ x. may_happen w x ≡ true) is may) h).1) (o.numbered m a h) in
          given_stays a (after_start w m name a) s.ended s.daemon;
      crash = λ m is a h. refl;
      reset = λ m is a h. refl;
      restart = λ m is a h. refl;
    }

entered_by : (e : Entry) (now : Stamp) (d : Daemon) (ds : List Daemon) (t : Bool)
    → given_first (cond t (Some (with_entry e now d)) (find (λ x. x.number == 0) ds)) ≡ given_first (cond t (Some d) (find (λ x. x.number == 0) ds))
entered_by e now d ds true = refl
entered_by e now d ds false = refl

entered : (e : Entry) (now : Stamp) (o : Option Daemon) (ds : List Daemon)
    → given_first (find (λ x. x.number == 0) (with_running (option_map (with_entry e now) o) ds)) ≡ given_first (find (λ x. x.number == 0) (with_running o ds))
entered e now None ds = refl
entered e now (Some d) ds = entered_by e now d ds (d.number == 0)

-- The entry of a step.
abbrev pub entry_of : Input → Effects → Machine → Entry
entry_of i fx a = record { reading = reading_now a; input = i; effects = fx }

step_given : (now : Stamp) (i : Input) (fx : Effects) (a : Machine) → given_on (after_step now i fx a) ≡ given_on a
step_given now (Line text) fx a = entered (entry_of (Line text) fx a) now a.daemon a.ended
step_given now (Number text) fx a = entered (entry_of (Number text) fx a) now a.daemon a.ended
step_given now (Told n answer) fx a = entered (entry_of (Told n answer) fx a) now a.daemon a.ended
step_given now Wake fx a = entered (entry_of Wake fx a) now a.daemon a.ended
step_given now (Exit p) fx a = entered (entry_of (Exit p) fx a) now a.daemon a.ended
step_given now (Spawned p ok) fx a = entered (entry_of (Spawned p ok) fx a) now a.daemon a.ended

each_given : (m : ℕ) (o : Option Input) (fx : Effects) (v : World) → EachMachine KeepsGiven v (take_step m o fx v)
each_given m o fx v = each_step KeepsGiven m o fx v still_given (λ is a h. refl) (λ i is a h. step_given (stamp_now v a) i fx a)

-- ---- calls

-- A change before it does.
pub first_tracks : (w : World) (e : Event) → EachMachine (λ m. Tracks Continues) w (between w e)
first_tracks w e = event_tracks w e []

only_calls : (w v : World) → EachMachine (λ m. Tracks Continues) w v → EachMachine (λ m a b. ListGoes Continues a.calls b.calls) w v
only_calls w v each m a at = let b = each m a at in (b.0, b.1, b.2.calls)

-- ---- distinct numbers

-- Numbers of a machine's calls are different after each lawful run.
abbrev pub StayDistinct : Type 0
StayDistinct = (p : Program) (h : Header) (xs : List Happening) → LawfulRun p h xs → EachDistinct (world_at p h xs)

distinct_back : (xs ys : List Course) → AreDistinct (xs ++ ys) → AreDistinct ys
distinct_back [] ys d = d
distinct_back (x ∷ xs) ys d = distinct_back xs ys d.1

apart_follow : (c d : Course) (cs ds : List Course) → d.call ≡ c.call → Follow Continues cs ds → Every (λ x. (x.call.number == d.call.number) ≡ true → ⊥) ds
    → Every (λ x. (x.call.number == c.call.number) ≡ true → ⊥) cs
apart_follow c d [] ds same f each = tt
apart_follow c d (x ∷ cs) [] same f each = absurd f
apart_follow c d (x ∷ cs) (y ∷ ds) same f each = (
  λ t. each.0 (ap (λ k. k.number == d.call.number) f.0.call ∙ ap (λ k. x.call.number == k.number) same ∙ t),
  apart_follow c d cs ds same f.1 each.1,
)

distinct_follow : (cs ds : List Course) → Follow Continues cs ds → AreDistinct ds → AreDistinct cs
distinct_follow [] ds f d = tt
distinct_follow (c ∷ cs) [] f d = absurd f
distinct_follow (c ∷ cs) (x ∷ ds) f d = (apart_follow c x cs ds f.0.call f.1 d.0, distinct_follow cs ds f.1 d.1)

-- What goes on to distinct calls was distinct.
pub distinct_before : (w v : World) → EachMachine (λ m. Tracks Continues) w v → EachDistinct v → EachDistinct w
distinct_before w v each d m a at =
    let b = each m a at in
    distinct_follow a.calls b.2.calls.older b.2.calls.follow (distinct_back b.2.calls.newer b.2.calls.older (subst AreDistinct b.2.calls.same (d m b.0 b.1)))

-- ---- an event

-- The world after an event.
abbrev pub after_event : Program → Header → List Happening → Happening → World
after_event p h now x = world_at p h (now ++ x ∷ [])

-- The step goes on from the world between to that after.
pub second_tracks : (p : Program) (h : Header) (now : List Happening) (x : Happening) → LawfulRun p h (now ++ x ∷ [])
    → EachMachine (λ m. Tracks Continues) (between (world_at p h now) x.0) (after_event p h now x)
second_tracks p h now x run =
    let last = last_event p h now x run in
    let w : World = world_at p h now in
    subst (λ v. EachMachine (λ m. Tracks Continues) (between w x.0) v) (sym last.after) (step_tracks (machine_of x.0) (input_of w x.0) last.effects (between w x.0))

pub between_distinct : StayDistinct → (p : Program) (h : Header) (now : List Happening) (x : Happening) → LawfulRun p h (now ++ x ∷ [])
    → EachDistinct (between (world_at p h now) x.0)
between_distinct distinct p h now x run =
    distinct_before (between (world_at p h now) x.0) (after_event p h now x) (second_tracks p h now x run)
    (distinct p h (now ++ x ∷ []) run)

-- Who wrote what stays, to the world between ..
pub first_keeps : StayDistinct → MachinesMirror → (p : Program) (h : Header) (now : List Happening) (x : Happening) → LawfulRun p h (now ++ x ∷ [])
    → KeepsWriters (world_at p h now) (between (world_at p h now) x.0)
first_keeps distinct mirror p h now x run =
    let last = last_event p h now x run in
    let w : World = world_at p h now in
    let g : Goes (time_of x.0) 1 w (between w x.0) = event_goes w x.0 [] in
    record {
      layout = g.layout;
      machines = g.machines;
      given = each_first KeepsGiven x.0 w (λ none. still_given) (asked_given w x.0 last.may (orderly mirror p h now last.before));
      calls = only_calls w (between w x.0) (first_tracks w x.0);
      distinct = between_distinct distinct p h now x run;
    }

-- What a step leaves of the rest of a world.
pub step_rest : (m : ℕ) (o : Option Input) (fx : Effects) (v : World) → LeavesRest v (take_step m o fx v)
step_rest m None fx v = leaves_by m (λ a. after_effects (stamp_now v a) fx a) v (machine_at v m)
step_rest m (Some i) fx v = leaves_by m (λ a. after_step (stamp_now v a) i fx a) v (machine_at v m)

-- .. and from there to the world after.
pub second_keeps : StayDistinct → (p : Program) (h : Header) (now : List Happening) (x : Happening) → LawfulRun p h (now ++ x ∷ [])
    → KeepsWriters (between (world_at p h now) x.0) (after_event p h now x)
second_keeps distinct p h now x run =
    let last = last_event p h now x run in
    let w : World = world_at p h now in
    let u : World = between w x.0 in
    let after : World = take_step (machine_of x.0) (input_of w x.0) last.effects u in
    let r : LeavesRest u after = step_rest (machine_of x.0) (input_of w x.0) last.effects u in
    record {
      layout = ap (λ v. v.layout) last.after ∙ r.layout;
      machines = ap (λ v. length v.machines) last.after ∙ r.machines;
      given = subst (λ v. EachMachine KeepsGiven u v) (sym last.after) (each_given (machine_of x.0) (input_of w x.0) last.effects u);
      calls = only_calls u (after_event p h now x) (second_tracks p h now x run);
      distinct = distinct p h (now ++ x ∷ []) run;
    }

-- ---- landings have their calls

-- What a call in flight leaves has its call.
pub left_has_call : (w : World) (m n : ℕ) (f : Course) (l : Landing) → flight_at w m n ≡ Some f → l.writer ≡ Some (m, f.call.number) → HasCall w l
left_has_call w m n f l flies named =
    let a = flies_on w m n f flies in
    let c = call_there f.call.number a.0.calls f (find_passes (λ c. c.call.number == n && is_open a.0 c) a.0.calls f a.2).there (number_itself f.call.number) in
    record { machine = m; call = f.call.number; named = named; host = a.0; course = c.0; at = a.1; has = c.1 }

-- Each landing is an old one, or has its call.
abbrev Accounted : World → List Landing → Type 0
Accounted w ls = (l : Landing) → Contains ls l → Contains w.landings l ⊎ HasCall w l

old_ones : (w : World) → Accounted w w.landings
old_ones w l has = inl has

one_left : (w : World) (m n : ℕ) (f : Course) (whole : Bool) (bytes : List ℕ) → flight_at w m n ≡ Some f
    → Accounted w (add_landing m f.call whole bytes w).landings
one_left w m n f whole bytes flies l has =
    elim (contains_cases _ w.landings l has) as (λ z. Contains w.landings l ⊎ HasCall w l) [
      | inl e ↦ inr (left_has_call w m n f l flies (ap (λ x. x.writer) (sym e)))
      | inr more ↦ inl more
    ]

left_by : (w : World) (m n : ℕ) (turn : Machine → Machine) (whole : Bool) (bytes : Course → List ℕ) (o : Option Course) → flight_at w m n ≡ o
    → Accounted w (option_map_or (λ (f : Course). change_machine m turn (add_landing m f.call whole (bytes f) w)) o w).landings
left_by w m n turn whole bytes None flies = old_ones w
left_by w m n turn whole bytes (Some f) flies =
    subst (Accounted w) (sym (changed_landings m turn (add_landing m f.call whole (bytes f) w))) (one_left w m n f whole (bytes f) flies)

whole_accounted : (w : World) (m n : ℕ) → Accounted w (land_whole m n w).landings
whole_accounted w m n = left_by w m n (change_call n (fated Landed)) true (λ f. write_bytes w f.call) (flight_at w m n) refl

changed_accounted : (w : World) (m : ℕ) (turn : Machine → Machine) → Accounted w (change_machine m turn w).landings
changed_accounted w m turn = subst (Accounted w) (sym (changed_landings m turn w)) (old_ones w)

done_write : (w : World) (m n : ℕ) (b : Bool) → Accounted w (elim b as (λ z. World) [ true ↦ land_whole m n w | false ↦ w ]).landings
done_write w m n true = whole_accounted w m n
done_write w m n false = old_ones w

done_by : (w : World) (m n : ℕ) (f : Course) (b : Bool) → Accounted w (elim b as (λ z. World) [
  | false ↦ change_machine m (change_call n (sampled_more w (sectors_left f))) w
  | true ↦ elim (is_in_flight f.fate) as (λ z. World) [ true ↦ land_whole m n w | false ↦ w ]
]).landings
done_by w m n f false = changed_accounted w m (change_call n (sampled_more w (sectors_left f)))
done_by w m n f true = done_write w m n (is_in_flight f.fate)

completes_by : (w : World) (m n : ℕ) (o : Option Course) → Accounted w (elim o as (λ z. World) [
  | None ↦ w
  | Some f ↦ elim (is_write_course f) as (λ z. World) [
    | false ↦ change_machine m (change_call n (sampled_more w (sectors_left f))) w
    | true ↦ elim (is_in_flight f.fate) as (λ z. World) [ true ↦ land_whole m n w | false ↦ w ]
  ]
]).landings
completes_by w m n None = old_ones w
completes_by w m n (Some f) = done_by w m n f (is_write_course f)

accounted : (e : Event) (w : World) → Accounted w (first_change e w).landings
unfolding first_change
accounted (Pass d growths) w = old_ones w
accounted (WakeUp m) w = old_ones w
accounted (GiveCommand m text) w = old_ones w
accounted (GiveLvm m line) w = old_ones w
accounted (GiveAsk m) w = old_ones w
accounted (Sample m c k) w = changed_accounted w m (change_call c (sampled_more w k))
accounted (Land m c) w = whole_accounted w m c
accounted (Tear m c k bytes) w = left_by w m c (change_call c (fated Torn)) false (λ f. torn_bytes w f.call k bytes) (flight_at w m c) refl
accounted (AnswerCall m c ok) w = old_ones w
accounted (Do m c) w = completes_by w m c (flight_at w m c)
accounted (DropWrite m c) w = changed_accounted w m (change_call c (fated Dropped))
accounted (Test m) w = changed_accounted w m (after_test w)
accounted (ExitOf m p) w = old_ones w
accounted (SpawnedOf m p ok) w = old_ones w
accounted (StartDaemon m name) w = changed_accounted w m (after_start w m name)
accounted (Crash m) w = changed_accounted w m after_crash
accounted (Reset m) w = changed_accounted w m (after_reset w)
accounted (Restart m) w = changed_accounted w m (after_restart w)

has_call_by : (w v : World) (l : Landing) → KeepsWriters w v → ((k : Landing) → Contains w.landings k → HasCall w k) → Contains w.landings l ⊎ HasCall w l
    → HasCall v l
has_call_by w v l k each (inl old) = call_kept w v l k (each l old)
has_call_by w v l k each (inr has) = call_kept w v l k has

-- Each landing between has its call too.
pub calls_between : StayDistinct → MachinesMirror → LandingsAreWritten → (p : Program) (h : Header) (now : List Happening) (x : Happening)
    → LawfulRun p h (now ++ x ∷ []) → (l : Landing) → Contains (between (world_at p h now) x.0).landings l → HasCall (between (world_at p h now) x.0) l
calls_between distinct mirror written p h now x run l has =
    let last = last_event p h now x run in
    let w : World = world_at p h now in
    has_call_by w (between w x.0) l (first_keeps distinct mirror p h now x run) (calls_of_landings written p h now last.before) (accounted x.0 w l has)

-- Who wrote what stood there before stays, to the world between ..
pub first_writers : StayDistinct → MachinesMirror → LandingsAreWritten → (p : Program) (h : Header) (now : List Happening) (x : Happening)
    → LawfulRun p h (now ++ x ∷ []) → (path : List ℕ) (offset : ℕ)
    → Every (λ l. writer_of (between (world_at p h now) x.0) l ≡ writer_of (world_at p h now) l) (history_of (world_at p h now) path offset)
first_writers distinct mirror written p h now x run path offset =
    let last = last_event p h now x run in
    let w : World = world_at p h now in
    writers_kept w (between w x.0) path offset (first_keeps distinct mirror p h now x run) (calls_of_landings written p h now last.before)

-- .. and from there to the world after.
pub second_writers : StayDistinct → MachinesMirror → LandingsAreWritten → (p : Program) (h : Header) (now : List Happening) (x : Happening)
    → LawfulRun p h (now ++ x ∷ []) → (path : List ℕ) (offset : ℕ)
    → Every (λ l. writer_of (after_event p h now x) l ≡ writer_of (between (world_at p h now) x.0) l) (history_of (between (world_at p h now) x.0) path offset)
second_writers distinct mirror written p h now x run path offset =
    let w : World = world_at p h now in
    writers_kept (between w x.0) (after_event p h now x) path offset (second_keeps distinct p h now x run)
    (calls_between distinct mirror written p h now x run)

-- The sector stays where only a step is taken.
pub step_sector : StayDistinct → MachinesMirror → LandingsAreWritten → (p : Program) (h : Header) (now : List Happening) (x : Happening)
    → LawfulRun p h (now ++ x ∷ []) → (path : List ℕ) (offset : ℕ) → SameSector (between (world_at p h now) x.0) (after_event p h now x) path offset
step_sector distinct mirror written p h now x run path offset =
    let last = last_event p h now x run in
    let w : World = world_at p h now in
    let u : World = between w x.0 in
    let r : LeavesRest u (take_step (machine_of x.0) (input_of w x.0) last.effects u) = step_rest (machine_of x.0) (input_of w x.0) last.effects u in
    record {
      layout = ap (λ v. v.layout) last.after ∙ r.layout;
      history = history_same u (after_event p h now x) path offset (ap (λ v. v.layout) last.after ∙ r.layout) (ap (λ v. v.header) last.after ∙ r.header)
          (ap (λ v. v.landings) last.after ∙ r.landings);
      writers = second_writers distinct mirror written p h now x run path offset;
    }
