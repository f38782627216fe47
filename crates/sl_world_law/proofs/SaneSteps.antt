-- A machine stays sane where its daemon takes a step that numbers its calls and children on, and whose calls are sound.
use Rattle.sl_world_state.specs.Daemons.{IsNumbered, IsSoundCall}
use Rattle.sl_world_state.specs.SaneWorlds.{IsSaneMachine}
use Rattle.sl_world_law.proofs.ShownCalls.{answered_at}
use Rattle.sl_world_law.proofs.NextNumbers.{calls_next}
use Rattle.sl_world_law.proofs.Sectors.{range_at}
use Rattle.sl_words.proofs.Lists.{contains_cases, contains_first, contains_more, head_is, in_map, kept, kept_inside, tail_is}
use Rattle.sl_words.proofs.Numbers.{number_itself, refl_le}
use Rattle.sl_run.specs.EventChanges.{after_effects, after_step, daemon_number, new_course, next_step, number_of_step, with_entry}
use Rattle.sl_run.specs.Refusals.{sectors_of}
use Rattle.sl_run.specs.Locks.{locks_after}
use Rattle.sl_run.specs.Worlds.{Course, Daemon, Machine, Stamp, World, daemons_on, flights, is_in_flight, is_of_running, is_open, is_write_course, reading_now, sector_size, stamp_now}
use Rattle.sl_world_law.proofs.NextTraces.{answers, numbered_next, open_next}
use Rattle.sl_world_law.proofs.PlainLists.{let_go, one_more_apart, place_of_one, same_apart}
use Rattle.sl_world_law.proofs.SaneCalls.{own_open}
use Rattle.sl_trace.specs.Traces.{children, first_child, is_ok_answer, last_reading, next_call, outstanding}
use Rattle.sl_trace.specs.declared.effects.Call.{Call}
use Rattle.sl_trace.specs.declared.effects.Effects.{Effects}
use Rattle.sl_trace.specs.declared.effects.Entry.{Entry}
use Rattle.sl_trace.specs.declared.input.Answer.{Answer}
use Rattle.sl_trace.specs.declared.input.Input.TheVariants.{Answer as Told, Exit, Line, Number, Spawned, Wake}
use Rattle.sl_trace.specs.declared.input.Input.{Input}
use Rattle.sl_words.proofs.CaseLaws.{false_is_true, some_value}
use Rattle.std.proofs.Common.{ap, ap₂, arith, inl, inr, refl, subst, sym, ◌∙◌}
use Rattle.std.proofs.lemmas.Option.{slice_get-map}
use Rattle.std.specs.List.{range_with_len}
use Rattle.std.specs.Prelude.{AllPairs, Bool, Contains, List, None, Option, Some, cond, false, filter, fold, is_none, length, map, not, option_map, slice_get, true, [], ℕ, ◌&&◌, ◌*◌, ◌+◌, ◌<◌, ◌==◌, ◌∷◌, ◌≡◌, ◌≢◌, ◌≤◌, ◌⊎◌, ◌||◌}

-- ---- the call that is answered

-- The calls of the daemon in this place that have no answer.
abbrev own_calls : ℕ → List Course → List Call
own_calls k cs = map (λ (c : Course). c.call) (filter (λ (c : Course). is_none c.answered && (k == c.daemon)) cs)

-- A call that is as it was, but for its answer.
record WasCall (a : Machine) (c : Course) : Type 0 where
  pub before : Course
  pub there : Contains a.calls before
  pub same : record c { answered = before.answered; done = before.done } ≡ before
  pub unanswered : is_none c.answered ≡ true → is_none before.answered ≡ true

-- The calls once that which the input answers is closed.
record Closes (a : Machine) (i : Input) (cs : List Course) : Type 0 where
  pub was : (c : Course) → Contains cs c → WasCall a c
  pub numbers : map (λ (c : Course). c.call.number) cs ≡ map (λ (c : Course). c.call.number) a.calls
  pub own : (k : ℕ) → own_calls k cs ≡ filter (λ c. not (answers i c)) (own_calls k a.calls)

stay_closed : (a : Machine) (i : Input) → ((c : Call) → answers i c ≡ false) → Closes a i a.calls
stay_closed a i none =
    record {
      was = λ c there. record { before = c; there = there; same = refl; unanswered = λ h. h };
      numbers = refl;
      own = λ k. sym (all_kept (own_calls k a.calls));
    }
  where
    all_kept : (cs : List Call) → filter (λ c. not (answers i c)) cs ≡ cs
    all_kept [] = refl
    all_kept (c ∷ cs) = ap₂ (λ b ds. cond (not b) (c ∷ ds) ds) (none c) (all_kept cs)

closed : (a : Machine) (n : ℕ) (answer : Answer) (now : Stamp) (ok : Bool) → Closes a (Told n answer) (map (answered_at n now ok) a.calls)
closed a n answer now ok =
    record {
      was = was;
      numbers = same_numbers a.calls;
      own = λ k. let_go (λ (c : Course). is_none c.answered && (k == c.daemon)) (λ (c : Course). c.call) (λ (c : Call). c.number == n) (answered_at n now ok) a.calls
          (λ x is. ap (λ b. is_none (by x b).answered && (k == (by x b).daemon)) is) (λ x is. ap (by x) is);
    }
  where
    by : Course → Bool → Course
    by c b = elim b [ true ↦ record c { answered = Some now; done = ok } | false ↦ c ]

    was_by : (x : Course) → Contains a.calls x → (b : Bool) → WasCall a (by x b)
    was_by x there true = record { before = x; there = there; same = refl; unanswered = λ h. absurd (false_is_true h) }
    was_by x there false = record { before = x; there = there; same = refl; unanswered = λ h. h }

    was : (c : Course) → Contains (map (answered_at n now ok) a.calls) c → WasCall a c
    was c there =
        let x = in_map (answered_at n now ok) a.calls c there in subst (WasCall a) x.2 (was_by x.0 x.1 (x.0.call.number == n))

    one_number : (x : Course) (b : Bool) → (by x b).call.number ≡ x.call.number
    one_number x true = refl
    one_number x false = refl

    same_numbers : (cs : List Course) → map (λ (c : Course). c.call.number) (map (answered_at n now ok) cs) ≡ map (λ (c : Course). c.call.number) cs
    same_numbers [] = refl
    same_numbers (c ∷ cs) = ap₂ (λ m ms. m ∷ ms) (one_number c (c.call.number == n)) (same_numbers cs)

-- ---- the calls that are made

abbrev piled : Stamp → ℕ → List Call → List Course → List Course
piled now k xs cs = fold (λ ys c. new_course now k c ∷ ys) cs xs

made_or_before : (now : Stamp) (k : ℕ) (xs : List Call) (cs : List Course) (c : Course) → Contains (piled now k xs cs) c
    → ((x : Call) × Contains xs x × (new_course now k x ≡ c)) ⊎ Contains cs c
made_or_before now k [] cs c there = inr there
made_or_before now k (x ∷ xs) cs c there =
    elim (made_or_before now k xs (new_course now k x ∷ cs) c there) as (λ z. ((y : Call) × Contains (x ∷ xs) y × (new_course now k y ≡ c)) ⊎ Contains cs c) [
      | inl made ↦ inl (made.0, contains_more x xs made.0 made.1, made.2)
      | inr more ↦ elim (contains_cases (new_course now k x) cs c more) as (λ z. ((y : Call) × Contains (x ∷ xs) y × (new_course now k y ≡ c)) ⊎ Contains cs c) [
        | inl same ↦ inl (x, contains_first x xs, same)
        | inr before ↦ inr before
      ]
    ]

-- Calls that are numbered on have numbers of their own.
piled_apart : (now : Stamp) (k n : ℕ) (xs : List Call) (cs : List Course) → map (λ (c : Call). c.number) xs ≡ range_with_len n (length xs)
    → ((c : Course) → Contains cs c → c.call.number < n) → AllPairs (λ c d. c.call.number ≢ d.call.number) cs
    → AllPairs (λ c d. c.call.number ≢ d.call.number) (piled now k xs cs)
piled_apart now k n [] cs numbered below apart = apart
piled_apart now k n (x ∷ xs) cs numbered below apart =
    piled_apart now k (n + 1) xs (new_course now k x ∷ cs) (tail_is x.number n (map (λ (c : Call). c.number) xs) (range_with_len (n + 1) (length xs)) numbered) all_below
    (one_more_apart (λ (c : Course). c.call.number) (new_course now k x) cs
    (λ y there. λ same. let less = below y there in omega (arith, less, first, same)) apart)
  where
    first : x.number ≡ n
    first = head_is x.number n (map (λ (c : Call). c.number) xs) (range_with_len (n + 1) (length xs)) numbered

    all_below : (c : Course) → Contains (new_course now k x ∷ cs) c → c.call.number < n + 1
    all_below c there = elim (contains_cases (new_course now k x) cs c there) [
      | inl same ↦ subst (λ (y : Course). y.call.number < n + 1) same (omega (arith, first))
      | inr before ↦ let less = below c before in omega (arith, less)
    ]

-- None has a number past the last.
below_next : (n : ℕ) (xs : List Call) → map (λ (c : Call). c.number) xs ≡ range_with_len n (length xs) → (x : Call) → Contains xs x → x.number < n + length xs
below_next n xs numbered x there =
    let at = place_of_one xs x there in
    let less = at.1 in
    let is : x.number ≡ n + at.0 = some_value x.number (n + at.0) (sym (slice_get-map (λ (c : Call). c.number) xs at.0 ∙ ap (option_map (λ (c : Call). c.number)) at.2)
    ∙ ap (λ ns. slice_get ns at.0) numbered ∙ range_at n (length xs) at.0 at.1) in
    omega (arith, less, is)

own_piled : (now : Stamp) (k : ℕ) (xs : List Call) (cs : List Course) → own_calls k (piled now k xs cs) ≡ fold (λ ds c. c ∷ ds) (own_calls k cs) xs
own_piled now k [] cs = refl
own_piled now k (x ∷ xs) cs =
    own_piled now k xs (new_course now k x ∷ cs)
    ∙ ap (λ b. fold (λ ds c. c ∷ ds) (map (λ (c : Course). c.call) (cond b (new_course now k x ∷ mine) mine)) xs) (number_itself k)
  where
    mine : List Course
    mine = filter (λ (c : Course). is_none c.answered && (k == c.daemon)) cs

-- ---- the machine

-- The daemon that runs, as it is.
abbrev on : Machine → Daemon → Machine
on a d = record a { daemon = Some d }

abbrev entry_at : Machine → Input → Effects → Entry
entry_at a i fx = record { reading = reading_now a; input = i; effects = fx }

-- The machine after the step, if its calls were these before it.
abbrev stepped_with : Stamp → Input → Effects → Machine → List Course → Machine
stepped_with now i fx a cs =
    let b : Machine = after_effects now fx (record a { calls = cs }) in
    record b { daemon = option_map (with_entry (entry_at a i fx) now) b.daemon; locks = (locks_after (number_of_step a) i fx a.locks).0 }

opened : (n m o w f : Bool) → (n && (o || (w && n && f))) ≡ true → (n ≡ true → m ≡ true) → (m && (o || (w && m && f))) ≡ true
opened true true o w f h then = h
opened true false o w f h then = absurd (false_is_true (then refl))
opened false m o w f h then = absurd (false_is_true h)

none_read : (s : ℕ) → 0 ≡ 0 * s
none_read s = omega arith

stepped_sane : (v : World) (a : Machine) (d : Daemon) (i : Input) (fx : Effects) (cs : List Course) → IsSaneMachine v (on a d) → Closes a i cs
    → IsNumbered d.setting d.trace fx → ((c : Call) → Contains fx.calls c → IsSoundCall (sector_size v) c)
    → IsSaneMachine (next_step v) (stepped_with (stamp_now v a) i fx (on a d) cs)
stepped_sane v a d i fx cs is closes numbered sound =
    record {
      resets = λ r there. (let old = (is.resets r there).0 in omega (arith, old), (is.resets r there).1);
      made = λ c there. elim (made_or_before now d.number fx.calls cs c there) [
        | inl new ↦ subst (λ (x : Course). x.made.step < v.step + 1) new.2 (omega arith)
        | inr old ↦ let w = closes.was c old in
            let before = subst (λ (x : Course). x.made.step < v.step) (sym w.same) (is.made w.before w.there) in
            omega (arith, before)
      ];
      distinct = piled_apart now d.number (next_call d.setting d.trace) fx.calls cs numbered.calls below_first
          (same_apart (λ (c : Course). c.call.number) a.calls cs closes.numbers is.distinct);
      numbers = λ c there. subst (λ n. c.call.number < n) (sym (calls_next d.setting d.trace e)) (elim (made_or_before now d.number fx.calls cs c there) [
        | inl new ↦ subst (λ (x : Course). x.call.number < next_call d.setting d.trace + length fx.calls) new.2
            (below_next (next_call d.setting d.trace) fx.calls numbered.calls new.0 new.1)
        | inr old ↦ let less = below_first c old in omega (arith, less)
      ]);
      daemons = λ c there. elim (made_or_before now d.number fx.calls cs c there) [
        | inl new ↦ subst (λ (x : Course). x.daemon < length (daemons_on (on a d))) new.2 (let last = is.newest d refl in omega (arith, last))
        | inr old ↦ let w = closes.was c old in subst (λ (x : Course). x.daemon < length (daemons_on (on a d))) (sym w.same) (is.daemons w.before w.there)
      ];
      newest = λ x runs. subst (λ (y : Daemon). y.number + 1 ≡ length (daemons_on (on a d))) (some_value (with_entry e now d) x runs) (is.newest d refl);
      used = λ x runs. is.used d refl;
      up = λ x runs. is.up d refl;
      open_calls = λ x runs. subst (λ (y : Daemon). map (λ m. m.call) (outstanding y.trace) ≡ map (λ c. c.call) (filter (is_of_running b) (flights b)))
          (some_value (with_entry e now d) x runs) open_same;
      children_numbered = λ x runs. subst (λ (y : Daemon). map (λ k. k.process) (children y.trace) ≡ range_with_len first_child (length (children y.trace)))
          (some_value (with_entry e now d) x runs) (numbered_next d.trace e (is.children_numbered d refl) numbered.starts);
      time = λ x runs. subst (λ (y : Daemon). last_reading y.setting y.trace ≤ reading_now a) (some_value (with_entry e now d) x runs) (refl_le (reading_now a));
      calls = λ c there. elim (flight_was c there) [
        | inl new ↦ subst (λ (x : Course). IsSoundCall (sector_size v) x.call) new.2 (sound new.0 new.1)
        | inr old ↦ subst (λ (x : Course). IsSoundCall (sector_size v) x.call) (sym old.2) (is.calls old.0 old.1)
      ];
      reads = λ c there. elim (flight_was c there) [
        | inl new ↦ subst (λ (x : Course). (length x.sampled ≡ length x.samples * sector_size v) × (length x.samples ≤ sectors_of x.call.op)) new.2
            (none_read (sector_size v), omega arith)
        | inr old ↦ subst (λ (x : Course). (length x.sampled ≡ length x.samples * sector_size v) × (length x.samples ≤ sectors_of x.call.op)) (sym old.2) (is.reads old.0 old.1)
      ];
      in_time = is.in_time;
    }
  where
    now : Stamp
    now = stamp_now v a

    e : Entry
    e = entry_at (on a d) i fx

    b : Machine
    b = stepped_with now i fx (on a d) cs

    below_first : (c : Course) → Contains cs c → c.call.number < next_call d.setting d.trace
    below_first c there =
        let w = closes.was c there in subst (λ (x : Course). x.call.number < next_call d.setting d.trace) (sym w.same) (is.numbers w.before w.there)

    open_same : map (λ m. m.call) (outstanding (e ∷ d.trace)) ≡ map (λ c. c.call) (filter (is_of_running b) (flights b))
    open_same =
        open_next d.trace e
        ∙ ap (λ ds. fold (λ es c. c ∷ es) (filter (λ c. not (answers i c)) ds) fx.calls) (is.open_calls d refl ∙ ap (map (λ (c : Course). c.call)) (own_open (on a d) a.calls))
        ∙ ap (λ ds. fold (λ es c. c ∷ es) ds fx.calls) (sym (closes.own d.number))
        ∙ sym (own_piled now d.number fx.calls cs)
        ∙ sym (ap (map (λ (c : Course). c.call)) (own_open b (piled now d.number fx.calls cs)))

    flight_was : (c : Course) → Contains (flights b) c
        → ((x : Call) × Contains fx.calls x × (new_course now d.number x ≡ c)) ⊎ ((x : Course) × Contains (flights (on a d)) x × (record c { answered = x.answered; done = x.done } ≡ x))
    flight_was c there =
        let found = kept_inside (is_open b) (piled now d.number fx.calls cs) c there in
        elim (made_or_before now d.number fx.calls cs c found.0) as (λ z.
        ((x : Call) × Contains fx.calls x × (new_course now d.number x ≡ c)) ⊎ ((x : Course) × Contains (flights (on a d)) x × (record c { answered = x.answered; done = x.done } ≡ x))) [
          | inl new ↦ inl new
          | inr old ↦ let w = closes.was c old in
              inr (
                w.before,
                kept (is_open (on a d)) a.calls w.before
                    (subst (λ (x : Course). is_open (on a d) (record x { answered = w.before.answered; done = w.before.done }) ≡ true) w.same
                    (opened (is_none c.answered) (is_none w.before.answered) (d.number == c.daemon) (is_write_course c) (is_in_flight c.fate) found.1 w.unanswered)) w.there,
                w.same,
              )
        ]

with_daemon : (v : World) (a : Machine) (d : Daemon) (i : Input) (fx : Effects) → IsSaneMachine v (on a d) → IsNumbered d.setting d.trace fx
    → ((c : Call) → Contains fx.calls c → IsSoundCall (sector_size v) c) → IsSaneMachine (next_step v) (after_step (stamp_now v a) i fx (on a d))
with_daemon v a d (Told n answer) fx is numbered sound =
    stepped_sane v a d (Told n answer) fx (map (answered_at n (stamp_now v a) (is_ok_answer answer)) a.calls) is (closed a n answer (stamp_now v a) (is_ok_answer answer)) numbered sound
with_daemon v a d (Line text) fx is numbered sound = stepped_sane v a d (Line text) fx a.calls is (stay_closed a (Line text) (λ c. refl)) numbered sound
with_daemon v a d (Number text) fx is numbered sound = stepped_sane v a d (Number text) fx a.calls is (stay_closed a (Number text) (λ c. refl)) numbered sound
with_daemon v a d Wake fx is numbered sound = stepped_sane v a d Wake fx a.calls is (stay_closed a Wake (λ c. refl)) numbered sound
with_daemon v a d (Exit p) fx is numbered sound = stepped_sane v a d (Exit p) fx a.calls is (stay_closed a (Exit p) (λ c. refl)) numbered sound
with_daemon v a d (Spawned p ok) fx is numbered sound = stepped_sane v a d (Spawned p ok) fx a.calls is (stay_closed a (Spawned p ok) (λ c. refl)) numbered sound

-- Whatever the input.
pub step_sane : (v : World) (a : Machine) (d : Daemon) → a.daemon ≡ Some d → (i : Input) (fx : Effects) → IsSaneMachine v a → IsNumbered d.setting d.trace fx
    → ((c : Call) → Contains fx.calls c → IsSoundCall (sector_size v) c) → IsSaneMachine (next_step v) (after_step (stamp_now v a) i fx a)
step_sane v a d runs i fx is numbered sound =
    let same : on a d ≡ a = ap (λ (o : Option Daemon). record a { daemon = o }) (sym runs) in
    subst (λ (b : Machine). IsSaneMachine (next_step v) (after_step (stamp_now v a) i fx b)) same
    (with_daemon v a d i fx (subst (IsSaneMachine v) (sym same) is) numbered sound)

-- What a machine does itself, which makes no calls.
pub own_sane : (v : World) (a : Machine) (now : Stamp) (fx : Effects) → fx.calls ≡ [] → IsSaneMachine v a → IsSaneMachine v (after_effects now fx a)
own_sane v a now fx none is =
    subst (λ xs. IsSaneMachine v (with_calls (fold (λ cs c. new_course now (daemon_number a) c ∷ cs) a.calls xs))) (sym none) (record {
      resets = is.resets;
      made = is.made;
      distinct = is.distinct;
      numbers = is.numbers;
      daemons = is.daemons;
      newest = is.newest;
      used = is.used;
      up = is.up;
      open_calls = is.open_calls;
      children_numbered = is.children_numbered;
      time = is.time;
      calls = is.calls;
      reads = is.reads;
      in_time = is.in_time;
    })
  where
    with_calls : List Course → Machine
    with_calls cs =
        let b : Machine = after_effects now fx a in
        record a { connections = b.connections; calls = cs; holdings = b.holdings; locks = b.locks }

-- ---- the daemons of a machine

pub daemons_now : (a : Machine) (d : Daemon) → a.daemon ≡ Some d → daemons_on a ≡ d ∷ a.ended
daemons_now a d runs = ap (λ (o : Option Daemon). elim o as (λ x. List Daemon) [ None ↦ a.ended | Some x ↦ x ∷ a.ended ]) runs

pub runs_inside : (a : Machine) (d : Daemon) → a.daemon ≡ Some d → Contains (daemons_on a) d
runs_inside a d runs = subst (λ (ds : List Daemon). Contains ds d) (sym (daemons_now a d runs)) (contains_first d a.ended)

-- The one that runs has one entry more.
abbrev pub stepped_daemon : Stamp → Input → Effects → Machine → Daemon → Daemon
stepped_daemon now i fx a d = with_entry (record { reading = reading_now a; input = i; effects = fx }) now d

pub runs_still : (now : Stamp) (i : Input) (fx : Effects) (a : Machine) (d : Daemon) → a.daemon ≡ Some d → (after_step now i fx a).daemon ≡ Some (stepped_daemon now i fx a d)
runs_still now (Told n answer) fx a d runs = ap (option_map (with_entry (entry_at a (Told n answer) fx) now)) runs
runs_still now (Line text) fx a d runs = ap (option_map (with_entry (entry_at a (Line text) fx) now)) runs
runs_still now (Number text) fx a d runs = ap (option_map (with_entry (entry_at a (Number text) fx) now)) runs
runs_still now Wake fx a d runs = ap (option_map (with_entry (entry_at a Wake fx) now)) runs
runs_still now (Exit p) fx a d runs = ap (option_map (with_entry (entry_at a (Exit p) fx) now)) runs
runs_still now (Spawned p ok) fx a d runs = ap (option_map (with_entry (entry_at a (Spawned p ok) fx) now)) runs

ended_still : (now : Stamp) (i : Input) (fx : Effects) (a : Machine) → (after_step now i fx a).ended ≡ a.ended
ended_still now (Told n answer) fx a = refl
ended_still now (Line text) fx a = refl
ended_still now (Number text) fx a = refl
ended_still now Wake fx a = refl
ended_still now (Exit p) fx a = refl
ended_still now (Spawned p ok) fx a = refl

pub daemons_then : (now : Stamp) (i : Input) (fx : Effects) (a : Machine) (d : Daemon) → a.daemon ≡ Some d
    → daemons_on (after_step now i fx a) ≡ stepped_daemon now i fx a d ∷ a.ended
daemons_then now i fx a d runs =
    daemons_now (after_step now i fx a) (stepped_daemon now i fx a d) (runs_still now i fx a d runs)
    ∙ ap (λ ds. stepped_daemon now i fx a d ∷ ds) (ended_still now i fx a)
