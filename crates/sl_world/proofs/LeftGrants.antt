-- What is granted at an event stands last among what its machine holds then, and the other machines' uses are what they were.
use Rattle.sl_world_state.specs.Changes.{change_flight, completed_in, crashed_machine, dropped_flight, first_kept, landed_flight, landed_in, machine_later, restarted_machine, sampled_flight, started_machine, tested_machine, torn_by, torn_flight, write_at}
use Rattle.sl_world_state.specs.Refusals.{left_in, torn_in}
use Rattle.sl_world_state.specs.Inputs.{input_in}
use Rattle.sl_world_state.specs.KeptWorld.{FlightState, KeptState, MachineState, Place, change_machine_in, flight_of_machine, machine_in}
use Rattle.sl_world_state.specs.ShownWorlds.{Tells, shown}
use Rattle.sl_world_state.specs.Steps.{owned_machine, stepped_kept, stepped_machine, taken_kept}
use Rattle.sl_world_law.proofs.Lookups.{machine_shown}
use Rattle.sl_world_law.proofs.WholeEvents.{events_are_kept}
use Rattle.sl_world.specs.ConflictsLeft.{ConflictsAreLeft}
use Rattle.sl_words.proofs.Lists.{set_here}
use Rattle.sl_report.specs.Reports.{conflicts_after}
use Rattle.sl_run_law.proofs.WorldsGoOn.{event_goes}
use Rattle.sl_run_law.specs.WorldsGoOn.{time_of}
use Rattle.sl_run.specs.Conflicts.{Holding, holding, lingering_holding}
use Rattle.sl_run.specs.Inputs.{input_at, input_of, machine_of}
use Rattle.sl_run.specs.EventChanges.{happens, next_input, own_effects}
use Rattle.sl_run.specs.Runs.{HasSteps, own_effects_of}
use Rattle.sl_run.specs.Worlds.{Lingering, Machine, World, lingers, machine_at}
use Rattle.sl_run.specs.declared.event.Event.TheVariants.{AnswerCall, Crash, Do, DropWrite, ExitOf, GiveAsk, GiveCommand, GiveLvm, Land, Pass, Reset, Restart, Sample, SpawnedOf, StartDaemon, Tear, Test, WakeUp}
use Rattle.sl_run.specs.declared.event.Event.{Event}
use Rattle.sl_run.specs.declared.header.Header.{Header}
use Rattle.sl_trace.specs.Traces.{held_after, is_ended_by, no_effects}
use Rattle.sl_trace.specs.declared.effects.Effects.{Effects}
use Rattle.sl_trace.specs.declared.effects.Grant.{Grant}
use Rattle.sl_trace.specs.declared.input.Input.{Input}
use Rattle.sl_world.proofs.FewerConflicts.{IsOfItsMachine, but_cons, but_from, each_from, mapped_on}
use Rattle.sl_world.specs.ConflictCounts.{conflicts_left, lingering_in}
use Rattle.sl_words.proofs.CaseLaws.{false_is_true, none_some, some_value, true_is_false}
use Rattle.sl_world_law.specs.ToldEvents.{conflicts_in, held_in, holdings_from, lingering_from, others_in, uses_in}
use Rattle.std.proofs.Common.{ap, ap₂, arith, refl, subst, sym, ◌∙◌}
use Rattle.std.proofs.lemmas.Bool.Decides.{nat_tests}
use Rattle.std.proofs.lemmas.List.{length-append, map-set}
use Rattle.std.proofs.lemmas.List.Elements.{filter-append}
use Rattle.std.proofs.lemmas.Option.{slice_get-map}
use Rattle.std.specs.List.{enumerate_from}
use Rattle.std.specs.Option.{option_map_or}
use Rattle.std.specs.Prelude.{Bool, IsSome, List, None, Option, Some, drop, false, filter, if◌then◌else◌, length, map, not, option_and_then, option_map, slice_get, slice_set, suc, take, true, unwrap_or, zero, [], ℕ, ◌++◌, ◌+◌, ◌-◌, ◌<◌, ◌==◌, ◌∷◌, ◌≡◌, ◌≤◌}

-- Whether the event is a reset.
abbrev pub is_reset : Event → Bool
is_reset (Reset m) = true
is_reset e = false

-- ---- what each machine holds, and what lingers there

pub record Part : Type 0 where
  pub held : List Grant
  pub left : List Lingering

abbrev pub part_of : MachineState → Part
part_of s = record { held = s.held; left = s.lingering }

abbrev pub parts : List MachineState → List Part
parts ss = map part_of ss

-- Its holdings, and what lingers of them at a moment.
abbrev pub held_on : ℕ → Part → List Holding
held_on i x = map (holding i) x.held

abbrev pub left_on : ℕ → ℕ → ℕ → Part → List Holding
left_on land moment i x = map (lingering_holding i) (filter (lingers land moment) x.left)

pub held_its : IsOfItsMachine held_on
held_its = mapped_on holding (λ (x : Part). x.held) (λ i g. refl)

pub left_its : (land moment : ℕ) → IsOfItsMachine (left_on land moment)
left_its land moment = mapped_on lingering_holding (λ (x : Part). filter (lingers land moment) x.left) (λ i l. refl)

abbrev pub used_by : ℕ → ℕ → List Part → List Holding
used_by land moment hs = each_from held_on 1 hs ++ each_from (left_on land moment) 1 hs

abbrev pub others_by : ℕ → ℕ → ℕ → List Part → List Holding
others_by land moment m hs = filter (λ (h : Holding). not (h.machine == m)) (used_by land moment hs)

abbrev pub part_by : ℕ → List Part → Option Part
part_by m hs = if m == 0 then None else slice_get hs (m - 1)

abbrev pub held_by : ℕ → List Part → List Grant
held_by m hs = option_map_or (λ (x : Part). x.held) (part_by m hs) []

abbrev pub lingering_by : ℕ → List Part → List Lingering
lingering_by m hs = option_map_or (λ (x : Part). x.left) (part_by m hs) []

abbrev pub left_by : ℕ → ℕ → List Part → ℕ → ℕ → ℕ
left_by land moment hs m n =
    conflicts_after (others_by land moment m hs) m (take (length (held_by m hs) - n) (held_by m hs)) (drop (length (held_by m hs) - n) (held_by m hs))

held_parts : (i : ℕ) (ss : List MachineState) → holdings_from i ss ≡ each_from held_on i (parts ss)
held_parts i [] = refl
held_parts i (s ∷ ss) = ap (λ hs. map (holding i) s.held ++ hs) (held_parts (i + 1) ss)

left_parts : (land moment i : ℕ) (ss : List MachineState) → lingering_from land moment i ss ≡ each_from (left_on land moment) i (parts ss)
left_parts land moment i [] = refl
left_parts land moment i (s ∷ ss) = ap (λ hs. map (lingering_holding i) (filter (lingers land moment) s.lingering) ++ hs) (left_parts land moment (i + 1) ss)

-- All uses.
pub used_parts : (k : KeptState) → uses_in k ≡ used_by k.header.timing.land k.moment (parts k.machines)
used_parts k = ap₂ (λ xs ys. xs ++ ys) (held_parts 1 k.machines) (left_parts k.header.timing.land k.moment 1 k.machines)

pub others_are : (k : KeptState) (m : ℕ) → others_in k m ≡ others_by k.header.timing.land k.moment m (parts k.machines)
others_are k m = ap (filter (λ (h : Holding). not (h.machine == m))) (used_parts k)

part_if : (b : Bool) (ss : List MachineState) (j : ℕ) → option_map part_of (if b then None else slice_get ss j) ≡ (if b then None else slice_get (parts ss) j)
part_if true ss j = refl
part_if false ss j = sym (slice_get-map part_of ss j)

pub part_is : (k : KeptState) (m : ℕ) → option_map part_of (machine_in k m) ≡ part_by m (parts k.machines)
part_is k m = part_if (m == 0) k.machines (m - 1)

pub held_is : (k : KeptState) (m : ℕ) → held_in k m ≡ held_by m (parts k.machines)
held_is k m = by (machine_in k m) ∙ ap (λ (o : Option Part). option_map_or (λ (x : Part). x.held) o []) (part_is k m)
  where
    by : (o : Option MachineState) → option_map_or (λ (s : MachineState). s.held) o [] ≡ option_map_or (λ (x : Part). x.held) (option_map part_of o) []
    by None = refl
    by (Some s) = refl

pub lingering_is : (k : KeptState) (m : ℕ) → lingering_in k m ≡ lingering_by m (parts k.machines)
lingering_is k m = by (machine_in k m) ∙ ap (λ (o : Option Part). option_map_or (λ (x : Part). x.left) o []) (part_is k m)
  where
    by : (o : Option MachineState) → option_map_or (λ (s : MachineState). s.lingering) o [] ≡ option_map_or (λ (x : Part). x.left) (option_map part_of o) []
    by None = refl
    by (Some s) = refl

left_is : (k : KeptState) (m n : ℕ) → conflicts_left k m n ≡ left_by k.header.timing.land k.moment (parts k.machines) m n
left_is k m n = ap₂ (λ hs (gs : List Grant). conflicts_after hs m (take (length gs - n) gs) (drop (length gs - n) gs)) (others_are k m) (held_is k m)

-- ---- a machine changes

pub at_if : {A : Type 0} (b : Bool) (o : Option A) (a : A) → (if b then None else o) ≡ Some a → (b ≡ false) × (o ≡ Some a)
at_if true o a h = absurd cc
at_if false o a h = (refl, h)

set_part : (ss : List MachineState) (j : ℕ) (s v : MachineState) → slice_get ss j ≡ Some s → part_of v ≡ part_of s → parts (slice_set ss j v) ≡ parts ss
set_part [] j s v at same = refl
set_part (x ∷ ss) zero s v at same = ap (λ h. h ∷ parts ss) (same ∙ ap part_of (sym (some_value x s at)))
set_part (x ∷ ss) (suc j) s v at same = ap (λ hs. part_of x ∷ hs) (set_part ss j s v at same)

abbrev pub changed : ℕ → (MachineState → MachineState) → KeptState → Option MachineState → KeptState
changed m f k o = elim o as (λ z. KeptState) [ None ↦ k | Some s ↦ record k { machines = slice_set k.machines (m - 1) (f s) } ]

change_parts : (m : ℕ) (f : MachineState → MachineState) (k : KeptState) → ((s : MachineState) → part_of (f s) ≡ part_of s) → parts (change_machine_in m f k).machines ≡ parts k.machines
change_parts m f k same = go (machine_in k m) refl
  where
    go : (o : Option MachineState) → machine_in k m ≡ o → parts (changed m f k o).machines ≡ parts k.machines
    go None at = refl
    go (Some s) at = set_part k.machines (m - 1) s (f s) (at_if (m == 0) (slice_get k.machines (m - 1)) s at).1 (same s)

later_parts : (d : ℕ) (gs : Option (List ℕ)) (i : ℕ) (ss : List MachineState) → parts (map (machine_later d gs) (enumerate_from i ss)) ≡ parts ss
later_parts d gs i [] = refl
later_parts d gs i (s ∷ ss) = ap (λ hs. part_of s ∷ hs) (later_parts d gs (i + 1) ss)

written_parts : (p : Option Place) (bytes : List ℕ) (k : KeptState) → parts (write_at p bytes k).machines ≡ parts k.machines
written_parts None bytes k = refl
written_parts (Some p) bytes k = refl

abbrev landed_with : ℕ → ℕ → KeptState → Option FlightState → KeptState
landed_with m c k o =
    elim o as (λ z. KeptState) [ None ↦ k | Some f ↦ change_machine_in m (change_flight c landed_flight) (write_at f.place (unwrap_or f.write []) k) ]

landed_by : (m c : ℕ) (k : KeptState) (o : Option FlightState) → parts (landed_with m c k o).machines ≡ parts k.machines
landed_by m c k None = refl
landed_by m c k (Some f) =
    change_parts m (change_flight c landed_flight) (write_at f.place (unwrap_or f.write []) k) (λ s. refl) ∙ written_parts f.place (unwrap_or f.write []) k

landed_parts : (m c : ℕ) (k : KeptState) → parts (landed_in m c k).machines ≡ parts k.machines
landed_parts m c k = landed_by m c k (flight_of_machine k m c)

torn_parts : (m c n : ℕ) (bytes : List ℕ) (k : KeptState) → parts (torn_by m c n bytes k).machines ≡ parts k.machines
torn_parts m c n bytes k = go (flight_of_machine k m c)
  where
    go : (o : Option FlightState) → parts (elim o as (λ z. KeptState) [
      | None ↦ k
      | Some f ↦ change_machine_in m (change_flight c torn_flight) (write_at f.place (torn_in k f n bytes) k)
    ]).machines ≡ parts k.machines
    go None = refl
    go (Some f) = change_parts m (change_flight c torn_flight) (write_at f.place (torn_in k f n bytes) k) (λ s. refl) ∙ written_parts f.place (torn_in k f n bytes) k

completed_parts : (m c : ℕ) (k : KeptState) → parts (completed_in m c k).machines ≡ parts k.machines
completed_parts m c k = go (flight_of_machine k m c)
  where
    flown : (b : Bool) → parts (elim b as (λ z. KeptState) [ true ↦ landed_in m c k | false ↦ k ]).machines ≡ parts k.machines
    flown true = landed_parts m c k
    flown false = refl

    written : (f : FlightState) (o : Option (List ℕ)) → parts (elim o as (λ z. KeptState) [
      | None ↦ change_machine_in m (change_flight c (sampled_flight k (left_in f))) k
      | Some whole ↦ elim f.flying as (λ z. KeptState) [ true ↦ landed_in m c k | false ↦ k ]
    ]).machines ≡ parts k.machines
    written f None = change_parts m (change_flight c (sampled_flight k (left_in f))) k (λ s. refl)
    written f (Some whole) = flown f.flying

    go : (o : Option FlightState) → parts (elim o as (λ z. KeptState) [
      | None ↦ k
      | Some f ↦ elim f.write as (λ z. KeptState) [
        | None ↦ change_machine_in m (change_flight c (sampled_flight k (left_in f))) k
        | Some whole ↦ elim f.flying as (λ z. KeptState) [ true ↦ landed_in m c k | false ↦ k ]
      ]
    ]).machines ≡ parts k.machines
    go None = refl
    go (Some f) = written f f.write

-- Before its effects an event leaves all that is held, but a reset.
pub first_parts : (e : Event) (k : KeptState) → is_reset e ≡ false → parts (first_kept e k).machines ≡ parts k.machines
unfolding first_kept
first_parts (Pass d gs) k stays = later_parts d gs 1 k.machines
first_parts (Sample m c n) k stays = change_parts m (change_flight c (sampled_flight k n)) k (λ s. refl)
first_parts (Land m c) k stays = landed_parts m c k
first_parts (Tear m c n bytes) k stays = torn_parts m c n bytes k
first_parts (Do m c) k stays = completed_parts m c k
first_parts (DropWrite m c) k stays = change_parts m (change_flight c dropped_flight) k (λ s. refl)
first_parts (Test m) k stays = change_parts m (tested_machine k.moment) k (λ s. refl)
first_parts (StartDaemon m name) k stays = change_parts m (started_machine k.header) k (λ s. refl)
first_parts (Crash m) k stays = change_parts m crashed_machine k (λ s. refl)
first_parts (Reset m) k stays = absurd (true_is_false stays)
first_parts (Restart m) k stays = change_parts m (restarted_machine k.moment) k (λ s. refl)
first_parts (WakeUp m) k stays = refl
first_parts (GiveCommand m text) k stays = refl
first_parts (GiveLvm m line) k stays = refl
first_parts (GiveAsk m) k stays = refl
first_parts (AnswerCall m c ok) k stays = refl
first_parts (ExitOf m p) k stays = refl
first_parts (SpawnedOf m p ok) k stays = refl

-- A step, or what the machine does itself.
abbrev pub stepped_part : Effects → Part → Part
stepped_part fx x = record x { held = held_after fx x.held }

pub taken_parts : (m : ℕ) (o : Option Input) (fx : Effects) (k : KeptState) (s : MachineState) → machine_in k m ≡ Some s
    → parts (taken_kept m o fx k).machines ≡ slice_set (parts k.machines) (m - 1) (stepped_part fx (part_of s))
taken_parts m None fx k s at =
    ap (λ (x : Option MachineState). parts (changed m (owned_machine fx) k x).machines) at ∙ map-set part_of k.machines (m - 1) (owned_machine fx s)
taken_parts m (Some i) fx k s at =
    ap (λ (x : Option MachineState). parts (changed m (stepped_machine k.header i fx) k x).machines) at
    ∙ map-set part_of k.machines (m - 1) (stepped_machine k.header i fx s)

-- ---- what stands where

kept_at : (o : Option MachineState) (h : Part) → option_map part_of o ≡ Some h → (s : MachineState) × (o ≡ Some s) × (part_of s ≡ h)
kept_at None h is = absurd cc
kept_at (Some s) h is = (s, refl, some_value (part_of s) h is)

pub if_open : {A : Type 0} (b : Bool) (o : Option A) (a : A) → b ≡ false → o ≡ Some a → (if b then None else o) ≡ Some a
if_open true o a stays at = absurd cc
if_open false o a stays at = at

pub part_there : (k v : KeptState) (m : ℕ) (s : MachineState) → parts v.machines ≡ parts k.machines → machine_in k m ≡ Some s
    → (x : MachineState) × (machine_in v m ≡ Some x) × (part_of x ≡ part_of s)
part_there k v m s same at =
    let here = at_if (m == 0) (slice_get k.machines (m - 1)) s at in
    let found = kept_at (slice_get v.machines (m - 1)) (part_of s)
    (sym (slice_get-map part_of v.machines (m - 1)) ∙ ap (λ hs. slice_get hs (m - 1)) same ∙ slice_get-map part_of k.machines (m - 1) ∙ ap (option_map part_of) here.1) in
    (found.0, if_open (m == 0) (slice_get v.machines (m - 1)) found.0 here.0 found.1, found.2)

pub stepped_parts : (e : Event) (fx : Effects) (k : KeptState) (s : MachineState) → is_reset e ≡ false → machine_in k (machine_of e) ≡ Some s
    → parts (stepped_kept e fx k).machines ≡ slice_set (parts k.machines) (machine_of e - 1) (stepped_part fx (part_of s))
stepped_parts e fx k s stays at =
    let same = first_parts e k stays in
    let x = part_there k (first_kept e k) (machine_of e) s same at in
    taken_parts (machine_of e) (input_in k e) fx (first_kept e k) x.0 x.1 ∙ ap₂ (λ hs h. slice_set hs (machine_of e - 1) (stepped_part fx h)) same x.2

-- ---- the others

gone_from : {A : Type 0} (on : ℕ → A → List Holding) → IsOfItsMachine on → (i j m : ℕ) (hs : List A) (h : A) → i + j ≡ m → but_from on i m (slice_set hs j h) ≡ but_from on i m hs
gone_from on its i j m [] h is = refl
gone_from on its i zero m (x ∷ hs) h is =
    let here : (i == m) ≡ true = grind (arith, nat_tests, is) in
    but_cons on i m h hs ∙ ap (λ ks. ks ++ but_from on (i + 1) m hs) (its.own_go i m h here ∙ sym (its.own_go i m x here)) ∙ sym (but_cons on i m x hs)
gone_from on its i (suc j) m (x ∷ hs) h is =
    but_cons on i m x (slice_set hs j h) ∙ ap (λ ks. filter (λ (y : Holding). not (y.machine == m)) (on i x) ++ ks) (gone_from on its (i + 1) j m hs h (omega (arith, is)))
    ∙ sym (but_cons on i m x hs)

pub others_set : (land moment j m : ℕ) (hs : List Part) (h : Part) → 1 + j ≡ m → others_by land moment m (slice_set hs j h) ≡ others_by land moment m hs
others_set land moment j m hs h is =
    filter-append (λ (x : Holding). not (x.machine == m)) (each_from held_on 1 (slice_set hs j h)) (each_from (left_on land moment) 1 (slice_set hs j h))
    ∙ ap₂ (λ xs ys. xs ++ ys) (gone_from held_on held_its 1 j m hs h is) (gone_from (left_on land moment) (left_its land moment) 1 j m hs h is)
    ∙ sym (filter-append (λ (x : Holding). not (x.machine == m)) (each_from held_on 1 hs) (each_from (left_on land moment) 1 hs))

-- ---- the last that was granted

cut : (xs ys : List Grant) → length (xs ++ ys) - length ys ≡ length xs
cut xs ys = omega (arith, length-append xs ys)

pub front_of : (xs ys : List Grant) → take (length (xs ++ ys) - length ys) (xs ++ ys) ≡ xs
front_of xs ys = ap (λ n. take n (xs ++ ys)) (cut xs ys) ∙ take_front xs ys
  where
    take_front : (ks bs : List Grant) → take (length ks) (ks ++ bs) ≡ ks
    take_front [] bs = refl
    take_front (a ∷ ks) bs = ap (λ l. a ∷ l) (take_front ks bs)

back_of : (xs ys : List Grant) → drop (length (xs ++ ys) - length ys) (xs ++ ys) ≡ ys
back_of xs ys = ap (λ n. drop n (xs ++ ys)) (cut xs ys) ∙ drop_front xs ys
  where
    drop_front : (ks bs : List Grant) → drop (length ks) (ks ++ bs) ≡ bs
    drop_front [] bs = refl
    drop_front (a ∷ ks) bs = drop_front ks bs

pub number_there : (m : ℕ) → (m == 0) ≡ false → 1 + (m - 1) ≡ m
number_there zero stays = absurd cc
number_there (suc m) stays = omega arith

left_after : (land moment : ℕ) (hs : List Part) (m : ℕ) (h : Part) (fx : Effects) → (m == 0) ≡ false → slice_get hs (m - 1) ≡ Some h
    → conflicts_after (others_by land moment m hs) m (filter (λ g. not (is_ended_by fx.ends g)) h.held) fx.grants
    ≡ left_by land moment (slice_set hs (m - 1) (stepped_part fx h)) m (length fx.grants)
left_after land moment hs m h fx stays at =
    let kept : List Grant = filter (λ g. not (is_ended_by fx.ends g)) h.held in
    let now : List Part = slice_set hs (m - 1) (stepped_part fx h) in
    let holds : held_by m now ≡ kept ++ fx.grants
    = ap (λ (o : Option Part). option_map_or (λ (x : Part). x.held) o [])
    (if_open (m == 0) (slice_get now (m - 1)) (stepped_part fx h) stays (set_here hs (m - 1) (stepped_part fx h) h at)) in
    ap₂ (λ ks bs. conflicts_after (others_by land moment m hs) m ks bs) (sym (front_of kept fx.grants)) (sym (back_of kept fx.grants))
    ∙ ap₂ (λ os (gs : List Grant). conflicts_after os m (take (length gs - length fx.grants) gs) (drop (length gs - length fx.grants) gs))
    (sym (others_set land moment (m - 1) m hs (stepped_part fx h) (number_there m stays))) (sym holds)

-- ---- events

drop_all : (xs : List Grant) → drop (length xs) xs ≡ []
drop_all [] = refl
drop_all (x ∷ xs) = drop_all xs

drop_whole : (xs : List Grant) → drop (length xs - 0) xs ≡ []
drop_whole xs = let n : length xs - 0 ≡ length xs = omega arith in ap (λ k. drop k xs) n ∙ drop_all xs

conflicts_one : (k : KeptState) (e : Event) (fx : Effects)
    → conflicts_in k e fx ≡ conflicts_after (others_in k (machine_of e)) (machine_of e) (filter (λ g. not (is_ended_by fx.ends g)) (held_in k (machine_of e))) fx.grants
conflicts_one k e fx = omega arith

-- Where nothing is granted.
none_left : (k after : KeptState) (e : Event) (fx : Effects) → fx.grants ≡ [] → conflicts_in k e fx ≡ conflicts_left after (machine_of e) (length fx.grants)
none_left k after e fx none =
    conflicts_one k e fx
    ∙ ap (conflicts_after (others_in k (machine_of e)) (machine_of e) (filter (λ g. not (is_ended_by fx.ends g)) (held_in k (machine_of e)))) none
    ∙ sym (ap (λ (gs : List Grant). conflicts_left after (machine_of e) (length gs)) none
    ∙ ap (λ gs. conflicts_after (others_in after (machine_of e)) (machine_of e) (take (length (held_in after (machine_of e)) - 0) (held_in after (machine_of e))) gs) (drop_whole (held_in after (machine_of e))))

-- Nothing is granted where no machine is, and by a reset.
alone_grants : (w : World) (e : Event) (fx : Effects) → input_of w e ≡ None → HasSteps w e (fx ∷ []) → fx ≡ own_effects_of w e
alone_grants w e fx none steps = go (input_of w e) none steps
  where
    go : (o : Option Input) → o ≡ None
        → elim o as (λ z. Type 0) [
          | Some i ↦ (1 ≤ length (fx ∷ [])) × (next_input w e (fx ∷ []) ≡ None) × ((j : ℕ) → j < length (fx ∷ []) → IsSome (next_input w e (take j (fx ∷ []))))
          | None ↦ (fx ∷ []) ≡ own_effects_of w e ∷ []
        ] → fx ≡ own_effects_of w e
    go None is has = ap (λ (fxs : List Effects). elim fxs as (λ z. Effects) [ [] ↦ fx | x ∷ xs ↦ x ]) has
    go (Some i) is has = absurd cc

pub by_reset : (w : World) (m : ℕ) (fx : Effects) → HasSteps w (Reset m) (fx ∷ []) → fx.grants ≡ []
by_reset w m fx steps = ap (λ (x : Effects). x.grants) (alone_grants w (Reset m) fx (nothing (machine_at w m)) steps) ∙ ends (machine_at w m)
  where
    nothing : (o : Option Machine) → option_and_then (input_at w (Reset m)) o ≡ None
    nothing None = refl
    nothing (Some a) = refl

    ends : (o : Option Machine) → (option_map_or (own_effects w (Reset m)) o no_effects).grants ≡ []
    ends None = refl
    ends (Some a) = refl

pub nowhere : (w : World) (e : Event) (fx : Effects) → machine_at w (machine_of e) ≡ None → HasSteps w e (fx ∷ []) → fx.grants ≡ []
nowhere w e fx none steps =
    ap (λ (x : Effects). x.grants) (alone_grants w e fx (ap (option_and_then (input_at w e)) none) steps ∙ ap (λ o. option_map_or (own_effects w e) o no_effects) none)

pub is_one_reset : (e : Event) → is_reset e ≡ true → (m : ℕ) × (e ≡ Reset m)
is_one_reset (Reset m) resets = (m, refl)
is_one_reset e resets = absurd (false_is_true resets)

no_more : (n : ℕ) → n + 0 ≡ n
no_more n = omega arith

-- No time passes in an event of a machine that is there.
pub no_time : (k : KeptState) (e : Event) (s : MachineState) → machine_in k (machine_of e) ≡ Some s → time_of e ≡ 0
no_time k (Pass d gs) s at = absurd (none_some s at)
no_time k e s at = refl

-- When what is kept is that after the event.
pub when_after : (k : KeptState) (w : World) → Tells k w → (e : Event) (fx : Effects) (after : KeptState) → Tells after (happens w e (fx ∷ []))
    → (after.header.timing.land ≡ k.header.timing.land) × (after.moment ≡ k.moment + time_of e)
when_after k w t e fx after told =
    let goes = event_goes w e (fx ∷ []) in
    (ap (λ (h : Header). h.timing.land) (sym told.header ∙ goes.header ∙ t.header), sym told.moment ∙ goes.moment ∙ ap (λ n. n + time_of e) t.moment)

pub conflicts_are_left : ConflictsAreLeft
conflicts_are_left commands k w t sane e may fx steps after told = by_reset_or (is_reset e) refl
  where
    by_machine : is_reset e ≡ false → (o : Option Machine) → machine_at w (machine_of e) ≡ o → conflicts_in k e fx ≡ conflicts_left after (machine_of e) (length fx.grants)
    by_machine stays None at = none_left k after e fx (nowhere w e fx at steps)
    by_machine stays (Some a) at =
        let m : ℕ = machine_of e in
        let s : MachineState = shown w.header a in
        let there : machine_in k m ≡ Some s = machine_shown k w t m ∙ ap (option_map (shown w.header)) at in
        let here = at_if (m == 0) (slice_get k.machines (m - 1)) s there in
        let place : slice_get (parts k.machines) (m - 1) ≡ Some (part_of s) = slice_get-map part_of k.machines (m - 1) ∙ ap (option_map part_of) here.1 in
        let next : after.machines ≡ (stepped_kept e fx k).machines = sym told.machines ∙ (events_are_kept commands k w t sane e may fx steps).machines in
        let when = when_after k w t e fx after told in
        let still : after.moment ≡ k.moment = when.1 ∙ ap (λ n. k.moment + n) (no_time k e s there) ∙ no_more k.moment in
        conflicts_one k e fx
        ∙ ap₂ (λ os hs. conflicts_after os m (filter (λ g. not (is_ended_by fx.ends g)) hs) fx.grants) (others_are k m) (ap (λ o. option_map_or (λ (y : MachineState). y.held) o []) there)
        ∙ left_after k.header.timing.land k.moment (parts k.machines) m (part_of s) fx here.0 place
        ∙ sym (left_is after m (length fx.grants) ∙ ap₂ (λ land n. left_by land n (parts after.machines) m (length fx.grants)) when.0 still
        ∙ ap (λ hs. left_by k.header.timing.land k.moment hs m (length fx.grants)) (ap parts next ∙ stepped_parts e fx k s stays there))

    by_reset_or : (b : Bool) → is_reset e ≡ b → conflicts_in k e fx ≡ conflicts_left after (machine_of e) (length fx.grants)
    by_reset_or false stays = by_machine stays (machine_at w (machine_of e)) refl
    by_reset_or true resets =
        let r = is_one_reset e resets in
        none_left k after e fx (by_reset w r.0 fx (subst (λ (x : Event). HasSteps w x (fx ∷ [])) r.1 steps))
