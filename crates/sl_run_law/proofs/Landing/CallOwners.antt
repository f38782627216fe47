-- Whose calls are: of daemons that began; and none that was dropped is of the one that runs.
use Rattle.sl_area.specs.AreaSizes.{Layout, layout_with}
use Rattle.sl_run_law.proofs.Course.CoursesAreCalls.{apart as not_the_next}
use Rattle.sl_run_law.specs.Course.CourseLaws.{CallsAreDistinct}
use Rattle.sl_run_law.proofs.Front.RunsFromFronts.{was_there}
use Rattle.sl_run_law.proofs.Landing.CallsMadeBefore.{distinct_at, the_flight}
use Rattle.sl_run_law.proofs.Landing.OneEvent.{world_first, world_keeps, world_then}
use Rattle.sl_run_law.proofs.Landing.InputNeedsDaemon.{input_runs, own_makes_none, stays_running}
use Rattle.sl_run_law.proofs.Landing.CallsOfStep.{IsMade, Stepped, came}
use Rattle.sl_run_law.proofs.Landing.CallsBeforeStep.{NewFate, Turn, Turned}
use Rattle.sl_words.proofs.Lists.{contains_none}
use Rattle.sl_words.proofs.Numbers.{lt_then_le}
use Rattle.sl_run.specs.EventChanges.{after_start, after_step, daemon_number, first_change, take_step, with_entry}
use Rattle.sl_run.specs.Inputs.{input_of, machine_of}
use Rattle.sl_run.specs.Refusals.{may_happen}
use Rattle.sl_run.specs.Runs.{Happening, own_effects_of}
use Rattle.sl_run.specs.Safety.{LawfulRun, world_at}
use Rattle.sl_run.specs.Worlds.{Course, Daemon, Dropped, Fate, In_flight, Landed, Machine, Program, Stamp, Torn, World, daemons_on, is_of_running, machine_at, machine_of_header, stamp_now, world_with, new_daemon, next_numbers, setting_of}
use Rattle.sl_run.specs.declared.event.Event.{Event}
use Rattle.sl_run.specs.declared.header.Header.{Header}
use Rattle.sl_run.specs.declared.header.SessionLine.{SessionLine}
use Rattle.sl_run_law.proofs.Beginnings.{begins_new}
use Rattle.sl_run_law.proofs.Guards.{starts}
use Rattle.sl_run_law.proofs.DaemonsGoOn.{run_hosts}
use Rattle.sl_run_law.proofs.MachineWalk.{Asked, each_first, each_step, index}
use Rattle.sl_run_law.specs.DaemonsGoOn.{IsSettled}
use Rattle.sl_run_law.specs.FatesStay.{AreDistinct, EachDistinct}
use Rattle.sl_run_law.specs.Machines.{EachMachine}
use Rattle.sl_trace.specs.declared.effects.Call.{Call}
use Rattle.sl_trace.specs.declared.effects.Effects.{Effects}
use Rattle.sl_trace.specs.declared.effects.Entry.{Entry}
use Rattle.sl_trace.specs.declared.input.Input.TheVariants.{Answer as Told, Exit, Line, Number, Spawned, Wake}
use Rattle.sl_trace.specs.declared.input.Input.{Input}
use Rattle.sl_words.proofs.CaseLaws.{false_is_true, none_some, not_both, one_value, some_value}
use Rattle.sl_words.specs.Words.{some_is}
use Rattle.std.proofs.Common.{ap, arith, inl, inr, refl, subst, sym, ◌∙◌}
use Rattle.std.proofs.lemmas.Bool.{eq-eqb}
use Rattle.std.specs.List.{range_with_len}
use Rattle.std.specs.Option.{option_map_or}
use Rattle.std.specs.Prelude.{Contains, List, None, Option, Some, false, find, is_some, length, map, option_map, slice_get, suc, true, zero, [], ℕ, ◌++◌, ◌+◌, ◌-◌, ◌<◌, ◌==◌, ◌∷◌, ◌≡◌, ◌≤◌, ◌⊎◌}

-- ---- the daemons of a machine

-- The number of the one that runs.
abbrev pub running : Machine → Option ℕ
running a = option_map (λ d. d.number) a.daemon

-- How many began.
abbrev pub count : Machine → ℕ
count a = length (daemons_on a)

-- The daemons after a change: the same, or none runs, or a new one does.
abbrev pub Heads : Machine → Machine → Type 0
Heads a b =
    ((running b ≡ running a) × (count b ≡ count a))
    ⊎ (((running b ≡ None) × (count b ≡ count a))
    ⊎ ((running b ≡ Some (count a)) × (count b ≡ count a + 1)))

one_longer : (o : Option Daemon) (ds : List Daemon) (d : Daemon) → o ≡ None
    → length (d ∷ ds) ≡ length (elim o as (λ x. List Daemon) [ None ↦ ds | Some x ↦ x ∷ ds ]) + 1
one_longer o ds d h =
    let same : length (elim o as (λ x. List Daemon) [ None ↦ ds | Some x ↦ x ∷ ds ]) ≡ length ds =
    ap (λ p. length (elim p as (λ x. List Daemon) [ None ↦ ds | Some x ↦ x ∷ ds ])) h in
    omega (arith, same)

begun_heads : (w : World) (m : ℕ) (name : List ℕ) (a : Machine) → a.daemon ≡ None → Heads a (after_start w m name a)
begun_heads w m name a none =
    inr (inr (
      refl,
      one_longer a.daemon a.ended
          (new_daemon (length (daemons_on a)) (setting_of w.program w.layout w.header m name (next_numbers a) []) (stamp_now w a)) none,
    ))

abbrev HeadsIfSettled : ℕ → Machine → Machine → Type 0
HeadsIfSettled m a b = IsSettled a → Heads a b

asked : (w : World) (e : Event) → may_happen w e ≡ true → Asked HeadsIfSettled w e
asked w e may =
    record {
      pass = λ d growths is m a h s. inl (refl, refl);
      sample = λ m c k is a h s. inl (refl, refl);
      land = λ m c is a f h g t s. inl (refl, refl);
      tear = λ m c k bytes is a f h g t s. inl (refl, refl);
      done_read = λ m c is a f h g t s. inl (refl, refl);
      done_write = λ m c is a f h g t s. inl (refl, refl);
      drop_write = λ m c is a h s. inl (refl, refl);
      tested = λ m is a h s. inl (refl, refl);
      start = λ m name is a h s.
          begun_heads w m name a (s.unused (starts w m name a (subst (λ x. may_happen w x ≡ true) is may) h).1);
      crash = λ m is a h s. inr (inl (refl, refl));
      reset = λ m is a h s. inr (inl (refl, refl));
      restart = λ m is a h s. inl (refl, refl);
    }

first_heads : (w : World) (e : Event) → may_happen w e ≡ true → EachMachine HeadsIfSettled w (first_change e w)
first_heads w e may = each_first HeadsIfSettled e w (λ none m a s. inl (refl, refl)) (asked w e may)

-- In a step the daemons stay.
abbrev StayHeads : ℕ → Machine → Machine → Type 0
StayHeads m a b = (running b ≡ running a) × (count b ≡ count a)

entered_by : (x : Entry) (now : Stamp) (o : Option Daemon) (ds : List Daemon)
    → (option_map (λ (d : Daemon). d.number) (option_map (with_entry x now) o) ≡ option_map (λ (d : Daemon). d.number) o)
    × (length (elim (option_map (with_entry x now) o) as (λ z. List Daemon) [ None ↦ ds | Some d ↦ d ∷ ds ])
    ≡ length (elim o as (λ z. List Daemon) [ None ↦ ds | Some d ↦ d ∷ ds ]))
entered_by x now None ds = (refl, refl)
entered_by x now (Some d) ds = (refl, refl)

step_stays : (now : Stamp) (i : Input) (fx : Effects) (a : Machine) (m : ℕ) → StayHeads m a (after_step now i fx a)
step_stays now (Line text) fx a m = entered_by _ now a.daemon a.ended
step_stays now (Number text) fx a m = entered_by _ now a.daemon a.ended
step_stays now (Told n answer) fx a m = entered_by _ now a.daemon a.ended
step_stays now Wake fx a m = entered_by _ now a.daemon a.ended
step_stays now (Exit p) fx a m = entered_by _ now a.daemon a.ended
step_stays now (Spawned p ok) fx a m = entered_by _ now a.daemon a.ended

step_heads : (m : ℕ) (o : Option Input) (fx : Effects) (v : World) → EachMachine StayHeads v (take_step m o fx v)
step_heads m o fx v =
    each_step StayHeads m o fx v (λ n a. (refl, refl)) (λ none a h. (refl, refl)) (λ i is a h. step_stays (stamp_now v a) i fx a m)

-- ---- whose calls are

-- The call was dropped while its daemon ran no more.
abbrev pub IsLost : Machine → Course → Type 0
IsLost a c = (k : ℕ) → running a ≡ Some k → k ≡ c.daemon → ⊥

pub record Owns (a : Machine) : Type 0 where
  pub numbered : (k : ℕ) → running a ≡ Some k → k + 1 ≡ count a
  pub below : (c : Course) → Contains a.calls c → c.daemon < count a
  pub dropped : (c : Course) → Contains a.calls c → c.fate ≡ Dropped → IsLost a c

lost_by : (o : Option Daemon) (n k : ℕ) → some_is (λ d. d.number == n) o ≡ false → option_map (λ (d : Daemon). d.number) o ≡ Some k → k ≡ n → ⊥
lost_by None n k h is same = none_some k is
lost_by (Some d) n k h is same =
    let e : d.number ≡ k = some_value d.number k is in
    not_both (d.number == n) (eq-eqb d.number n (e ∙ same)) h

-- What isn't of the running daemon is of no daemon that runs.
not_running : (a : Machine) (c : Course) → is_of_running a c ≡ false → IsLost a c
not_running a c h k is same = lost_by a.daemon c.daemon k h is same

-- ---- before the step

numbered_next : (a b : Machine) → Heads a b → Owns a → (k : ℕ) → running b ≡ Some k → k + 1 ≡ count b
numbered_next a b (inl same) o k is = o.numbered k (sym same.0 ∙ is) ∙ sym same.1
numbered_next a b (inr (inl none)) o k is = absurd (none_some k (sym none.0 ∙ is))
numbered_next a b (inr (inr new)) o k is =
    let e : count a ≡ k = some_value (count a) k (sym new.0 ∙ is) in
    ap (λ n. n + 1) (sym e) ∙ sym new.1

counts_up : (a b : Machine) → Heads a b → count a ≤ count b
counts_up a b (inl same) = omega (arith, same.1)
counts_up a b (inr (inl none)) = omega (arith, none.1)
counts_up a b (inr (inr new)) = omega (arith, new.1)

lost_next : (a b : Machine) (c d : Course) → Heads a b → d.daemon ≡ c.daemon → c.daemon < count a → IsLost a c → IsLost b d
lost_next a b c d (inl same) daemon below lost k is eq = lost k (sym same.0 ∙ is) (eq ∙ daemon)
lost_next a b c d (inr (inl none)) daemon below lost k is eq = none_some k (sym none.0 ∙ is)
lost_next a b c d (inr (inr new)) daemon below lost k is eq =
    not_the_next c.daemon (count a) below (some_value (count a) k (sym new.0 ∙ is) ∙ (eq ∙ daemon))

other_fate : (x y : Fate) (d : Course) (P : Type 0) → (x ≡ y → ⊥) → d.fate ≡ x → d.fate ≡ y → P
other_fate x y d P apart h k = absurd (apart (sym h ∙ k))

landed_isnt_dropped : Landed ≡ Dropped → ⊥
landed_isnt_dropped h = absurd cc

torn_isnt_dropped : Torn ≡ Dropped → ⊥
torn_isnt_dropped h = absurd cc

newly_lost : (w : World) (e : Event) (m : ℕ) (a : Machine) (c d : Course) → AreDistinct a.calls → Contains a.calls c → d.fate ≡ Dropped → NewFate w e m a c d → IsLost a c
newly_lost w e m a c d distinct has drop n =
    elim n.fate as (λ z. IsLost a c) [
      | inl now ↦ other_fate Landed Dropped d (IsLost a c) landed_isnt_dropped now.0 drop
      | inr other ↦ elim other as (λ z. IsLost a c) [
        | inl torn ↦ other_fate Torn Dropped d (IsLost a c) torn_isnt_dropped torn drop
        | inr dropped ↦ not_running a c (ap (λ (x : Course). is_of_running a x) (the_flight a c n.flight distinct has n.flies) ∙ dropped.1)
      ]
    ]

turn_lost : (w : World) (e : Event) (m : ℕ) (a : Machine) (c d : Course) → AreDistinct a.calls → Owns a → Contains a.calls c → Turn w e m a c d → d.fate ≡ Dropped → IsLost a c
turn_lost w e m a c d distinct o has t drop =
    elim t.fate as (λ z. IsLost a c) [
      | inl same ↦ o.dropped c has (sym same ∙ drop)
      | inr new ↦ newly_lost w e m a c d distinct has drop new
    ]

settled_later : (p : Program) (h : Header) (xs : List Happening) → LawfulRun p h xs → (m : ℕ) (b : Machine) → machine_at (world_at p h xs) m ≡ Some b → IsSettled b
settled_later p h xs run m b at =
    let a = was_there (world_with p h) xs m b at in
    let go = run_hosts (world_with p h) xs run.is_run m a.0 a.1 in
    subst IsSettled (one_value go.0 b (machine_at (world_at p h xs) m) go.1 at) (go.2 (begins_new p h m a.0 a.1).settled).settled

first_owns : (w : World) (e : Event) (m : ℕ) (a x : Machine) → AreDistinct a.calls → Heads a x → Turned (Turn w e m a) a x → Owns a → Owns x
first_owns w e m a x distinct heads t o =
    record {
      numbered = numbered_next a x heads o;
      below = λ d has.
          let c = t.back d has in
          lt_then_le d.daemon (count a) (count x) (subst (λ n. n < count a) (sym c.2.daemon) (o.below c.0 c.1)) (counts_up a x heads);
      dropped = λ d has drop.
          let c = t.back d has in
          lost_next a x c.0 d heads c.2.daemon (o.below c.0 c.1) (turn_lost w e m a c.0 d distinct o c.1 c.2 drop);
    }

-- ---- after it

number_by : (o : Option Daemon) → is_some o ≡ true → option_map (λ (d : Daemon). d.number) o ≡ Some (option_map_or (λ (d : Daemon). d.number) o 0)
number_by None h = absurd (false_is_true h)
number_by (Some d) h = refl

one_below : (k n : ℕ) → k + 1 ≡ n → k < n
one_below k n h = omega (arith, h)

new_below : (v : World) (m : ℕ) (fx : Effects) (n : ℕ) (x : Machine) (d : Course) → Owns x → is_some x.daemon ≡ true → IsMade v m fx n x d → d.daemon < count x
new_below v m fx n x d o runs made =
    subst (λ (c : Course). c.daemon < count x) made.is
    (one_below (daemon_number x) (count x) (o.numbered (daemon_number x) (number_by x.daemon runs)))

in_flight_isnt_dropped : In_flight ≡ Dropped → ⊥
in_flight_isnt_dropped h = absurd cc

not_new : (v : World) (m : ℕ) (fx : Effects) (n : ℕ) (x : Machine) (d : Course) → IsMade v m fx n x d → d.fate ≡ Dropped → ⊥
not_new v m fx n x d made drop = in_flight_isnt_dropped (ap (λ (c : Course). c.fate) made.is ∙ drop)

then_owns : (v : World) (m : ℕ) (o : Option Input) (fx : Effects) (n : ℕ) (x b : Machine) → StayHeads n x b → Stepped v m o fx n x b
    → ((d : Course) → IsMade v m fx n x d → is_some x.daemon ≡ true) → Owns x → Owns b
then_owns v m o fx n x b heads s runs owns =
    record {
      numbered = λ k is. owns.numbered k (sym heads.0 ∙ is) ∙ sym heads.1;
      below = λ d has. subst (λ j. d.daemon < j) (sym heads.1) (elim (s.back d has) as (λ z. d.daemon < count x) [
        | inl c ↦ subst (λ j. j < count x) (sym c.2.daemon) (owns.below c.0 c.1)
        | inr made ↦ new_below v m fx n x d owns (runs d made) made
      ]);
      dropped = λ d has drop k is same. elim (s.back d has) as (λ z. ⊥) [
        | inl c ↦ owns.dropped c.0 c.1 (sym c.2.fate ∙ drop) k (sym heads.0 ∙ is) (same ∙ c.2.daemon)
        | inr made ↦ not_new v m fx n x d made drop
      ];
    }

-- ---- events

-- A machine on which a call is made has a daemon.
runs_by : (w : World) (e : Event) (fx : Effects) (a x : Machine) (o : Option Input) (c : Call) → may_happen w e ≡ true → machine_at w (machine_of e) ≡ Some a
    → machine_at (first_change e w) (machine_of e) ≡ Some x → (input_of w e ≡ None → fx ≡ own_effects_of w e) → input_of w e ≡ o → Contains fx.calls c
    → is_some x.daemon ≡ true
runs_by w e fx a x None c may at there own is has =
    absurd (contains_none c (subst (λ cs. Contains cs c) (ap (λ (y : Effects). y.calls) (own is) ∙ own_makes_none w e) has))
runs_by w e fx a x (Some i) c may at there own is has =
    let first = stays_running w e (machine_of e) a at in
    let same : first.0 ≡ x = one_value first.0 x (machine_at (first_change e w) (machine_of e)) first.1 there in
    subst (λ (y : Machine). is_some y.daemon ≡ true) same (ap is_some (first.2 i is) ∙ input_runs w e a i may at is)

made_runs : (w : World) (e : Event) (fx : Effects) (n : ℕ) (a x : Machine) (d : Course) → may_happen w e ≡ true → machine_at w n ≡ Some a
    → machine_at (first_change e w) n ≡ Some x → (input_of w e ≡ None → fx ≡ own_effects_of w e) → IsMade (world_first w e) (machine_of e) fx n x d
    → is_some x.daemon ≡ true
made_runs w e fx n a x d may at there own made =
    runs_by w e fx a x (input_of w e) made.call may (ap (machine_at w) (sym made.here) ∙ at) (ap (machine_at (first_change e w)) (sym made.here) ∙ there) own refl made.has

abbrev pub EachOwns : World → Type 0
EachOwns w = (m : ℕ) (a : Machine) → machine_at w m ≡ Some a → Owns a

abbrev EachSettled : World → Type 0
EachSettled w = (m : ℕ) (a : Machine) → machine_at w m ≡ Some a → IsSettled a

owns_on : (w : World) (e : Event) (fx : Effects) → may_happen w e ≡ true → EachDistinct w → EachSettled w → (input_of w e ≡ None → fx ≡ own_effects_of w e)
    → EachOwns w → EachOwns (world_then w e fx)
owns_on w e fx may distinct settled own so m b at =
    let from = came w e fx m b may at in
    let p = from.passage in
    let a : Machine = from.before in
    let f = first_heads w e may m a from.at in
    let heads : Heads a p.middle =
    subst (Heads a) (one_value f.0 p.middle (machine_at (first_change e w) m) f.1 p.between) (f.2 (settled m a from.at)) in
    let g = step_heads (machine_of e) (input_of w e) fx (world_first w e) m p.middle p.between in
    let stay : StayHeads m p.middle b = subst (StayHeads m p.middle) (one_value g.0 b (machine_at (world_then w e fx) m) g.1 at) g.2 in
    then_owns (world_first w e) (machine_of e) (input_of w e) fx m p.middle b stay p.stepped
    (λ d made. made_runs w e fx m a p.middle d may from.at p.between own made)
    (first_owns w e m a p.middle (distinct m a from.at) heads p.turned (so m a from.at))

-- ---- at first

first_numbered : (o : Option SessionLine) (f : SessionLine → Daemon) → ((s : SessionLine) → (f s).number ≡ 0) → (k : ℕ)
    → option_map (λ (d : Daemon). d.number) (option_map f o) ≡ Some k
    → k + 1 ≡ length (elim (option_map f o) as (λ x. List Daemon) [ None ↦ [] | Some d ↦ d ∷ [] ])
first_numbered None f zero_is k h = absurd (none_some k h)
first_numbered (Some s) f zero_is k h =
    let e : k ≡ 0 = sym (some_value (f s).number k h) ∙ zero_is s in
    ap (λ n. n + 1) e

header_owns : (p : Program) (g : Layout) (h : Header) (m : ℕ) → Owns (machine_of_header p g h m)
unfolding machine_of_header
header_owns p g h m =
    record {
      numbered = first_numbered (find (λ s. s.machine == m) h.sessions) _ (λ s. refl);
      below = λ c has. absurd (contains_none c has);
      dropped = λ c has. absurd (contains_none c has);
    }

all_own : (f : ℕ → Machine) (k n i : ℕ) (a : Machine) → ((m : ℕ) → Owns (f m)) → slice_get (map f (range_with_len k n)) i ≡ Some a → Owns a
all_own f k zero i a each h = absurd (none_some a h)
all_own f k (suc n) zero a each h = subst Owns (some_value (f k) a h) (each k)
all_own f k (suc n) (suc i) a each h = all_own f (k + 1) n i a each h

first_own : (p : Program) (h : Header) → EachOwns (world_with p h)
first_own p h m a at =
    let g : Layout = layout_with p.digest h.geometry in
    all_own (machine_of_header p g h) 1 h.machines (m - 1) a (header_owns p g h) (index (world_with p h) m a at).1

pub run_owns : CallsAreDistinct → (p : Program) (h : Header) (xs : List Happening) → LawfulRun p h xs → EachOwns (world_at p h xs)
run_owns distinct p h xs run =
    world_keeps EachOwns p h (first_own p h)
    (λ now x law l so. owns_on (world_at p h now) x.0 l.effects l.may (distinct_at (world_with p h) now x (distinct p h (now ++ x ∷ []) law))
    (settled_later p h now l.before) l.own so) xs run
