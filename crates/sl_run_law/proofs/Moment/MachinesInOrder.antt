-- What a machine keeps is in order: each event adds in front, and at a later step.
use Rattle.sl_area.specs.AreaSizes.{Layout, layout_with}
use Rattle.sl_run_law.proofs.Front.RunsFromFronts.{was_there}
use Rattle.sl_run_law.proofs.Front.JoinedLists.{contains_append}
use Rattle.sl_run_law.proofs.Moment.AddedNow.{steps_by_one}
use Rattle.sl_run_law.proofs.Moment.FirstStamps.{first_machines}
use Rattle.sl_run_law.proofs.Moment.Stamps.{entry_is_stamp}
use Rattle.sl_run_law.specs.Moment.Orders.{CallsFall, EntriesAreInOrder, EntriesAreWaits, Fall, IsInOrder, IsTimed, MachinesAreInOrder, entry_stamp, life_of}
use Rattle.sl_words.proofs.Lists.{contains_cases, contains_first, contains_more, contains_none}
use Rattle.sl_run.specs.EventChanges.{after_crash, after_effects, after_reset, after_restart, after_start, after_step, after_test, change_call, close_answered, daemon_number, fated, first_change, happens, new_course, next_input, next_step, passed, sample_at, sampled_more, take_step, take_steps, with_entry}
use Rattle.sl_run.specs.Inputs.{machine_of}
use Rattle.sl_run.specs.Refusals.{may_happen, sectors_left}
use Rattle.sl_run.specs.Runs.{Happening, IsRun, world_after}
use Rattle.sl_run.specs.Safety.{world_at}
use Rattle.sl_run.specs.Worlds.{Course, Daemon, Dropped, Fate, Landed, Machine, Program, Sampling, Stamp, Torn, World, daemons_on, first_numbers, first_stamp, given_of, machine_at, machine_of_header, new_daemon, next_numbers, reading_now, setting_of, stamp_now, world_with}
use Rattle.sl_run.specs.declared.event.Event.{Event}
use Rattle.sl_run.specs.declared.header.Header.{Header}
use Rattle.sl_run.specs.declared.header.SessionLine.{SessionLine}
use Rattle.sl_run_law.proofs.Beginnings.{begins_new}
use Rattle.sl_run_law.proofs.CourseLists.{changed_if}
use Rattle.sl_run_law.proofs.WorldsGoOn.{first_goes}
use Rattle.sl_run_law.proofs.Guards.{starts}
use Rattle.sl_run_law.proofs.DaemonsGoOn.{event_hosts}
use Rattle.sl_run_law.proofs.MachineWalk.{Asked, each_first, each_step, each_still, each_then}
use Rattle.sl_run_law.specs.DaemonsGoOn.{IsSettled}
use Rattle.sl_run_law.specs.Machines.{EachMachine}
use Rattle.sl_trace.specs.Traces.{Setting, is_ok_answer}
use Rattle.sl_trace.specs.declared.effects.Call.{Call}
use Rattle.sl_trace.specs.declared.effects.Effects.{Effects}
use Rattle.sl_trace.specs.declared.effects.Entry.{Entry}
use Rattle.sl_trace.specs.declared.input.Given.{Given}
use Rattle.sl_trace.specs.declared.input.Input.TheVariants.{Answer as Told, Exit, Line, Number, Spawned, Wake}
use Rattle.sl_trace.specs.declared.input.Input.{Input}
use Rattle.sl_words.proofs.CaseLaws.{none_some, one_value, some_value}
use Rattle.std.proofs.Common.{ap, arith, inl, inr, refl, subst, sym, ◌∙◌}
use Rattle.std.proofs.lemmas.Bool.{eqb-true}
use Rattle.std.specs.Prelude.{Bool, Contains, List, None, Option, Some, false, filter_map, find, flat_map, fold, length, map, option_map, true, [], ℕ, ◌++◌, ◌+◌, ◌<◌, ◌==◌, ◌∷◌, ◌≡◌, ◌≤◌}

-- ---- lists that fall

pub fall_more : (n k : ℕ) (ss : List Stamp) → n ≤ k → Fall n ss → Fall k ss
fall_more n k [] le h = tt
fall_more n k (s ∷ ss) le h = (omega (arith, h.0), h.1)

pub fall_front : (n : ℕ) (ss ts : List Stamp) → Fall n (ss ++ ts) → Fall n ss
fall_front n [] ts h = tt
fall_front n (s ∷ ss) ts h = (h.0, fall_front s.step ss ts h.1)

pub fall_rest : (n : ℕ) (ss ts : List Stamp) → Fall n (ss ++ ts) → Fall n ts
fall_rest n [] ts h = h
fall_rest n (s ∷ ss) ts h = fall_more s.step n ts (omega (arith, h.0)) (fall_rest s.step ss ts h.1)

-- What stands behind came before.
pub fall_step : (n : ℕ) (ss : List Stamp) (s : Stamp) → Fall n ss → Contains ss s → s.step < n
fall_step n [] s h has = absurd (contains_none s has)
fall_step n (t ∷ ss) s h has =
    elim (contains_cases t ss s has) as (λ z. s.step < n) [
      | inl e ↦ subst (λ (x : Stamp). x.step < n) e h.0
      | inr more ↦ omega (arith, h.0, fall_step t.step ss s h.1 more)
    ]

-- ---- entries by their numbers

record IsEntry (ss : List Stamp) (i : ℕ) (s : Stamp) : Type 0 where
  within : i < length ss
  there : Contains ss s

entry_by : (x : Stamp) (ss : List Stamp) (i : ℕ) (s : Stamp) (b : Bool) → (i == length ss) ≡ b
    → elim b as (λ z. Option Stamp) [ true ↦ Some x | false ↦ entry_stamp ss i ] ≡ Some s → (entry_stamp ss i ≡ Some s → IsEntry ss i s) → IsEntry (x ∷ ss) i s
entry_by x ss i s true is at rest =
    let last : i ≡ length ss = eqb-true i (length ss) is in
    record { within = omega (arith, last); there = subst (λ y. Contains (x ∷ ss) y) (some_value x s at) (contains_first x ss) }
entry_by x ss i s false is at rest =
    let r = rest at in
    let lt : i < length ss = r.within in
    record { within = omega (arith, lt); there = contains_more x ss s r.there }

entry_in : (ss : List Stamp) (i : ℕ) (s : Stamp) → entry_stamp ss i ≡ Some s → IsEntry ss i s
entry_in [] i s at = absurd (none_some s at)
entry_in (x ∷ ss) i s at = entry_by x ss i s (i == length ss) refl at (entry_in ss i s)

numbered_by : (x : Stamp) (ss : List Stamp) (i j : ℕ) (s t : Stamp) (a b : Bool) → (i == length ss) ≡ a → (j == length ss) ≡ b → Fall x.step ss → i ≤ j
    → elim a as (λ z. Option Stamp) [ true ↦ Some x | false ↦ entry_stamp ss i ] ≡ Some s
    → elim b as (λ z. Option Stamp) [ true ↦ Some x | false ↦ entry_stamp ss j ] ≡ Some t
    → (entry_stamp ss i ≡ Some s → entry_stamp ss j ≡ Some t → s.step ≤ t.step) → s.step ≤ t.step
numbered_by x ss i j s t true true k l fall le at there rest =
    let same : s.step ≡ t.step = ap (λ (y : Stamp). y.step) (sym (some_value x s at) ∙ some_value x t there) in
    omega (arith, same)
numbered_by x ss i j s t true false k l fall le at there rest =
    let last : i ≡ length ss = eqb-true i (length ss) k in
    let lt : j < length ss = (entry_in ss j t there).within in
    absurd (omega (arith, last, lt, le))
numbered_by x ss i j s t false true k l fall le at there rest =
    let lt : s.step < x.step = fall_step x.step ss s fall (entry_in ss i s at).there in
    let same : x.step ≡ t.step = ap (λ (y : Stamp). y.step) (some_value x t there) in
    omega (arith, lt, same)
numbered_by x ss i j s t false false k l fall le at there rest = rest at there

fall_numbers : (n : ℕ) (ss : List Stamp) (i j : ℕ) (s t : Stamp) → Fall n ss → i ≤ j → entry_stamp ss i ≡ Some s → entry_stamp ss j ≡ Some t → s.step ≤ t.step
fall_numbers n [] i j s t h le at there = absurd (none_some s at)
fall_numbers n (x ∷ ss) i j s t h le at there =
    numbered_by x ss i j s t (i == length ss) (j == length ss) refl refl h.1 le at there (fall_numbers x.step ss i j s t h.1 le)

-- ---- calls

pub calls_more : (n k : ℕ) (cs : List Course) → n ≤ k → CallsFall n cs → CallsFall k cs
calls_more n k [] le h = tt
calls_more n k (c ∷ cs) le h = (omega (arith, h.0), h.1, h.2)

-- A change of a call that was made before step n, at step n.
abbrev TurnsAt : ℕ → (Course → Course) → Type 0
TurnsAt n f = (c : Course) → c.made.step < n → IsTimed c → ((f c).made ≡ c.made) × IsTimed (f c)

one_turns : (n : ℕ) (t : Bool) (f : Course → Course) (c : Course) → TurnsAt n f → c.made.step < n → IsTimed c
    → ((changed_if t f c).made ≡ c.made) × IsTimed (changed_if t f c)
one_turns n true f c turn lt is = turn c lt is
one_turns n false f c turn lt is = (refl, is)

calls_turn : (n k : ℕ) (p : Course → Bool) (f : Course → Course) (cs : List Course) → TurnsAt n f → k ≤ n → CallsFall k cs
    → CallsFall k (map (λ c. changed_if (p c) f c) cs)
calls_turn n k p f [] turn le h = tt
calls_turn n k p f (c ∷ cs) turn le h =
    let lt : c.made.step < n = omega (arith, h.0, le) in
    let one = one_turns n (p c) f c turn lt h.1 in
    let same : c.made.step ≡ (changed_if (p c) f c).made.step = ap (λ (s : Stamp). s.step) (sym one.0) in (
      subst (λ j. j < k) same h.0,
      one.1,
      subst (λ j. CallsFall (j + 1) (map (λ c. changed_if (p c) f c) cs)) same (calls_turn n (c.made.step + 1) p f cs turn (omega (arith, lt)) h.2),
    )

new_timed : (now : Stamp) (n : ℕ) (c : Call) → IsTimed (new_course now n c)
new_timed now n c = record { sampled = λ s h. absurd (contains_none s h); answered = λ s h. absurd (none_some s h) }

calls_made : (now : Stamp) (n : ℕ) (cs : List Course) (calls : List Call) → CallsFall (now.step + 1) cs
    → CallsFall (now.step + 1) (fold (λ xs c. new_course now n c ∷ xs) cs calls)
calls_made now n cs [] h = h
calls_made now n cs (c ∷ calls) h = calls_made now n (new_course now n c ∷ cs) calls (omega arith, new_timed now n c, h)

fated_turns : (n : ℕ) (fate : Fate) → TurnsAt n (fated fate)
fated_turns n fate c lt is = (refl, record { sampled = is.sampled; answered = is.answered })

-- An answer at step n.
told_turns : (now : Stamp) (ok : Bool) → TurnsAt now.step (λ c. record c { answered = Some now; done = ok })
told_turns now ok c lt is = (
  refl,
  record {
    sampled = is.sampled;
    answered = λ s h. subst (λ (x : Stamp). c.made.step < x.step) (some_value now s h) lt;
  },
)

sampled_at : (w : World) (c : Call) (ks : List ℕ) (s : Sampling) → Contains (map (sample_at w c) ks) s → w.step ≡ s.step
sampled_at w c [] s h = absurd (contains_none s h)
sampled_at w c (k ∷ ks) s h =
    elim (contains_cases (sample_at w c k) (map (sample_at w c) ks) s h) as (λ z. w.step ≡ s.step) [
      | inl e ↦ ap (λ (x : Sampling). x.step) e
      | inr more ↦ sampled_at w c ks s more
    ]

sampled_later : (w : World) (c : Call) (ks : List ℕ) (before : List Sampling) (n : ℕ) (s : Sampling) → n < w.step
    → ((x : Sampling) → Contains before x → n < x.step) → Contains (before ++ map (sample_at w c) ks) s → n < s.step
sampled_later w c ks before n s lt old h =
    elim (contains_append before (map (sample_at w c) ks) s h) as (λ z. n < s.step) [
      | inl p ↦ old s p
      | inr q ↦ subst (λ j. n < j) (sampled_at w c ks s q) lt
    ]

sampled_turns : (w : World) (k : ℕ) → TurnsAt w.step (sampled_more w k)
sampled_turns w k c lt is = (
  refl,
  record { sampled = λ s h. sampled_later w c.call _ c.samples c.made.step s lt is.sampled h; answered = is.answered },
)

-- ---- a machine

order_more : (n k : ℕ) (a : Machine) → n ≤ k → IsInOrder n a → IsInOrder k a
order_more n k a le h =
    record { daemons = fall_more n k (flat_map life_of (daemons_on a)) le h.daemons; resets = fall_more n k a.resets le h.resets; calls = calls_more n k a.calls le h.calls }

-- A machine one step later.
abbrev Steps : ℕ → Machine → Machine → Type 0
Steps n a b = IsInOrder n a → IsInOrder (n + 1) b

steps_still : (n m : ℕ) (a : Machine) → Steps n a a
steps_still n m a h = order_more n (n + 1) a (omega arith) h

-- A change of one call.
call_turns : (n k : ℕ) (f : Course → Course) (a : Machine) → TurnsAt n f → Steps n a (change_call k f a)
call_turns n k f a turn h =
    order_more n (n + 1) (change_call k f a) (omega arith)
    (record { daemons = h.daemons; resets = h.resets; calls = calls_turn n n (λ c. c.call.number == k) f a.calls turn (omega arith) h.calls })

starts_now : (n : ℕ) (o : Option Daemon) (ds : List Daemon) (d : Daemon) → o ≡ None → d.stamps ≡ [] → d.begun.step ≡ n
    → Fall n (flat_map life_of (elim o as (λ x. List Daemon) [ None ↦ ds | Some e ↦ e ∷ ds ])) → Fall (n + 1) (flat_map life_of (d ∷ ds))
starts_now n o ds d none empty at h =
    let old : Fall n (flat_map life_of ds) =
    subst (λ x. Fall n (flat_map life_of (elim x as (λ y. List Daemon) [ None ↦ ds | Some e ↦ e ∷ ds ]))) none h in
    subst (λ ss. Fall (n + 1) ((ss ++ d.begun ∷ []) ++ flat_map life_of ds)) (sym empty)
    (omega (arith, at), subst (λ j. Fall j (flat_map life_of ds)) (sym at) old)

started : (w : World) (m : ℕ) (name : List ℕ) (a : Machine) → a.daemon ≡ None → Steps w.step a (after_start w m name a)
started w m name a none h =
    let d : Daemon = new_daemon (length (daemons_on a)) (setting_of w.program w.layout w.header m name (next_numbers a) []) (stamp_now w a) in
    record {
      daemons = starts_now w.step a.daemon a.ended d none refl refl h.daemons;
      resets = fall_more w.step (w.step + 1) a.resets (omega arith) h.resets;
      calls = calls_more w.step (w.step + 1) a.calls (omega arith) h.calls;
    }

reset_now : (w : World) (a : Machine) → Steps w.step a (after_reset w a)
reset_now w a h =
    record {
      daemons = fall_more w.step (w.step + 1) (flat_map life_of (daemons_on a)) (omega arith) h.daemons;
      resets = (omega arith, h.resets);
      calls = calls_more w.step (w.step + 1) a.calls (omega arith) h.calls;
    }

-- A change of nothing that is in order.
leaves : (n : ℕ) (a b : Machine) → daemons_on b ≡ daemons_on a → b.resets ≡ a.resets → b.calls ≡ a.calls → Steps n a b
leaves n a b daemons resets calls h =
    let k = order_more n (n + 1) a (omega arith) h in
    record {
      daemons = subst (λ ds. Fall (n + 1) (flat_map life_of ds)) (sym daemons) k.daemons;
      resets = subst (Fall (n + 1)) (sym resets) k.resets;
      calls = subst (CallsFall (n + 1)) (sym calls) k.calls;
    }

asked : (w : World) (e : Event) → may_happen w e ≡ true → ((m : ℕ) (a : Machine) → machine_at w m ≡ Some a → IsSettled a) → Asked (λ m. Steps w.step) w e
asked w e may settled =
    record {
      pass = λ d growths is m a h. leaves w.step a (passed d growths m a) refl refl refl;
      sample = λ m c k is a h. call_turns w.step c (sampled_more w k) a (sampled_turns w k);
      land = λ m c is a f h g t. call_turns w.step c (fated Landed) a (fated_turns w.step Landed);
      tear = λ m c k bytes is a f h g t. call_turns w.step c (fated Torn) a (fated_turns w.step Torn);
      done_read = λ m c is a f h g t. call_turns w.step c (sampled_more w (sectors_left f)) a (sampled_turns w (sectors_left f));
      done_write = λ m c is a f h g t. call_turns w.step c (fated Landed) a (fated_turns w.step Landed);
      drop_write = λ m c is a h. call_turns w.step c (fated Dropped) a (fated_turns w.step Dropped);
      tested = λ m is a h. leaves w.step a (after_test w a) refl refl refl;
      start = λ m name is a h.
          let p = starts w m name a (subst (λ x. may_happen w x ≡ true) is may) h in
          started w m name a ((settled m a h).unused p.1);
      crash = λ m is a h. leaves w.step a (after_crash a) refl refl refl;
      reset = λ m is a h. reset_now w a;
      restart = λ m is a h. leaves w.step a (after_restart w a) refl refl refl;
    }

-- ---- a daemon's step

closed : (now : Stamp) (i : Input) (a : Machine) → IsInOrder now.step a → IsInOrder now.step (close_answered now i a)
closed now (Line text) a h = h
closed now (Number text) a h = h
closed now (Told n answer) a h =
    record {
      daemons = h.daemons;
      resets = h.resets;
      calls = calls_turn now.step now.step (λ c. c.call.number == n) (λ c. record c { answered = Some now; done = is_ok_answer answer }) a.calls
          (told_turns now (is_ok_answer answer)) (omega arith) h.calls;
    }
closed now Wake a h = h
closed now (Exit p) a h = h
closed now (Spawned p ok) a h = h

made_now : (now : Stamp) (fx : Effects) (a : Machine) → Steps now.step a (after_effects now fx a)
made_now now fx a h =
    let k = order_more now.step (now.step + 1) a (omega arith) h in
    record { daemons = k.daemons; resets = k.resets; calls = calls_made now (daemon_number a) a.calls fx.calls k.calls }

entered_by : (e : Entry) (now : Stamp) (o : Option Daemon) (ds : List Daemon)
    → Fall now.step (flat_map life_of (elim o as (λ x. List Daemon) [ None ↦ ds | Some d ↦ d ∷ ds ]))
    → Fall (now.step + 1) (flat_map life_of (elim (option_map (with_entry e now) o) as (λ x. List Daemon) [ None ↦ ds | Some d ↦ d ∷ ds ]))
entered_by e now None ds h = fall_more now.step (now.step + 1) (flat_map life_of ds) (omega arith) h
entered_by e now (Some d) ds h = (omega arith, h)

steps : (now : Stamp) (i : Input) (fx : Effects) (a : Machine) → Steps now.step a (after_step now i fx a)
steps now i fx a h =
    let b : Machine = close_answered now i a in
    let c : Machine = after_effects now fx b in
    let s : IsInOrder now.step b = closed now i a h in
    let t = made_now now fx b s in
    let e : Entry = record { reading = reading_now a; input = i; effects = fx } in
    record { daemons = entered_by e now c.daemon c.ended s.daemons; resets = t.resets; calls = t.calls }

one_step : (m : ℕ) (o : Option Input) (fx : Effects) (v : World) → EachMachine (λ n. Steps v.step) v (take_step m o fx v)
one_step m o fx v =
    each_step (λ n. Steps v.step) m o fx v (steps_still v.step) (λ none a h. made_now (stamp_now v a) fx a) (λ i is a h. steps (stamp_now v a) i fx a)

-- ---- worlds

record AllInOrder (w : World) : Type 0 where
  each : (m : ℕ) (a : Machine) → machine_at w m ≡ Some a → IsInOrder w.step a

-- From one world to the next, each of whose machines was there.
abbrev Were : World → World → Type 0
Were w v = (m : ℕ) (b : Machine) → machine_at v m ≡ Some b → (a : Machine) × (machine_at w m ≡ Some a)

abbrev Ordered : ℕ → ℕ → ℕ → Machine → Machine → Type 0
Ordered n k m a b = IsInOrder n a → IsInOrder k b

ordered_to : (n j k : ℕ) (w v : World) → j ≡ k → EachMachine (λ m. Ordered n j m) w v → EachMachine (λ m. Ordered n k m) w v
ordered_to n j k w v e h = subst (λ i. EachMachine (λ m. Ordered n i m) w v) e h

ordered_still : (n m : ℕ) (a : Machine) → Ordered n n m a a
ordered_still n m a h = h

all_steps : (w : World) (e : Event) (before fxs : List Effects) (v : World) → EachMachine (λ m. Ordered v.step (take_steps w e before fxs v).step m) v (take_steps w e before fxs v)
all_steps w e before [] v = each_still (λ m. Ordered v.step v.step m) v (ordered_still v.step)
all_steps w e before (fx ∷ fxs) v =
    let u : World = take_step (machine_of e) (next_input w e before) fx v in
    let z : World = take_steps w e (before ++ fx ∷ []) fxs u in
    let one = ordered_to v.step (v.step + 1) u.step v u (sym (steps_by_one (machine_of e) (next_input w e before) fx v).0) (one_step (machine_of e) (next_input w e before) fx v) in
    each_then (λ m. Ordered v.step u.step m) (λ m. Ordered u.step z.step m) (λ m. Ordered v.step z.step m) v u z (λ m a b c f g h. g (f h)) one
    (all_steps w e (before ++ fx ∷ []) fxs u)

event_orders : (w : World) (e : Event) (fxs : List Effects) → may_happen w e ≡ true → ((m : ℕ) (a : Machine) → machine_at w m ≡ Some a → IsSettled a)
    → EachMachine (λ m. Ordered w.step (happens w e fxs).step m) w (happens w e fxs)
event_orders w e fxs may settled =
    let u : World = first_change e w in
    let v : World = happens w e fxs in
    let begun : u.step ≡ w.step + 0 = (first_goes e w).step in
    let same : w.step + 1 ≡ u.step + 1 = omega (arith, begun) in
    let first = ordered_to w.step (w.step + 1) (u.step + 1) w u same (each_first (λ m. Steps w.step) e w (λ none. steps_still w.step) (asked w e may settled)) in
    each_then (λ m. Ordered w.step (u.step + 1) m) (λ m. Ordered (u.step + 1) v.step m) (λ m. Ordered w.step v.step m) w (next_step u) v
    (λ m a b c f g h. g (f h)) first (all_steps w e [] fxs (next_step u))

-- A machine is settled and in order.
record IsFine (n : ℕ) (a : Machine) : Type 0 where
  settled : IsSettled a
  order : IsInOrder n a

fine_next : (w : World) (e : Event) (fxs : List Effects) → may_happen w e ≡ true → ((m : ℕ) (a : Machine) → machine_at w m ≡ Some a → IsFine w.step a)
    → (m : ℕ) (b : Machine) → machine_at (happens w e fxs) m ≡ Some b → IsFine (happens w e fxs).step b
fine_next w e fxs may fine m b at =
    let v : World = happens w e fxs in
    let a = was_there w ((e, fxs) ∷ []) m b at in
    let hosts = event_hosts w e fxs may m a.0 a.1 in
    let orders = event_orders w e fxs may (λ n c there. (fine n c there).settled) m a.0 a.1 in
    let was = fine m a.0 a.1 in
    record {
      settled = subst IsSettled (one_value hosts.0 b (machine_at v m) hosts.1 at) (hosts.2 was.settled).settled;
      order = subst (λ x. IsInOrder v.step x) (one_value orders.0 b (machine_at v m) orders.1 at) (orders.2 was.order);
    }

fine_on : (w : World) (xs : List Happening) → IsRun w xs → ((m : ℕ) (a : Machine) → machine_at w m ≡ Some a → IsFine w.step a)
    → (m : ℕ) (b : Machine) → machine_at (world_after w xs) m ≡ Some b → IsFine (world_after w xs).step b
fine_on w [] run fine m b at = fine m b at
fine_on w (x ∷ xs) run fine m b at = fine_on (happens w x.0 x.1) xs run.2 (fine_next w x.0 x.1 run.0 fine) m b at

-- ---- the first world

first_life : (t : Stamp) (st : SessionLine → Setting) (o : Option SessionLine) → t.step < 1
    → Fall 1 (flat_map life_of (elim (option_map (λ l. new_daemon 0 (st l) t) o) as (λ x. List Daemon) [ None ↦ [] | Some d ↦ d ∷ [] ]))
first_life t st None lt = tt
first_life t st (Some l) lt = (lt, tt)

order_first : (p : Program) (g : Layout) (h : Header) (m : ℕ) → IsInOrder 1 (machine_of_header p g h m)
unfolding machine_of_header
order_first p g h m =
    let given : List Given = filter_map (given_of h m) h.sessions in
    record {
      daemons = first_life (first_stamp h m) (λ l. setting_of p g h m l.name first_numbers given) (find (λ l. l.machine == m) h.sessions) (omega arith);
      resets = tt;
      calls = tt;
    }

fine_first : (p : Program) (h : Header) (m : ℕ) (a : Machine) → machine_at (world_with p h) m ≡ Some a → IsFine 1 a
fine_first p h m a at =
    record {
      settled = (begins_new p h m a at).settled;
      order = first_machines (IsInOrder 1) p h (order_first p (layout_with p.digest h.geometry) h) m a at;
    }

-- ---- the laws

pub machines_ordered : MachinesAreInOrder
machines_ordered p h xs run m a at = (fine_on (world_with p h) xs run.is_run (fine_first p h) m a at).order

life_falls : (n : ℕ) (ds : List Daemon) (d : Daemon) → Fall n (flat_map life_of ds) → Contains ds d → Fall n (life_of d)
life_falls n [] d h has = absurd (contains_none d has)
life_falls n (e ∷ ds) d h has =
    elim (contains_cases e ds d has) as (λ z. Fall n (life_of d)) [
      | inl same ↦ subst (λ x. Fall n (life_of x)) same (fall_front n (life_of e) (flat_map life_of ds) h)
      | inr more ↦ life_falls n ds d (fall_rest n (life_of e) (flat_map life_of ds) h) more
    ]

pub entries_ordered : EntriesAreInOrder
entries_ordered p h xs run m a d at has = life_falls (world_at p h xs).step (daemons_on a) d (machines_ordered p h xs run m a at).daemons has

pub entries_wait : EntriesAreWaits
entries_wait p h xs run m a d at has i j from to here there le =
    record {
      machine = a;
      at = at;
      begins = entry_is_stamp a d from has (entry_in d.stamps i from here).there;
      ends = entry_is_stamp a d to has (entry_in d.stamps j to there).there;
      order = fall_numbers (world_at p h xs).step d.stamps i j from to
          (fall_front (world_at p h xs).step d.stamps (d.begun ∷ []) (entries_ordered p h xs run m a d at has)) le here there;
    }
