-- Reads that sample, writes that take effect or never will, calls that are done.
use Rattle.sl_area.specs.AreaSizes.{Layout, layout_of, sector_with}
use Rattle.sl_world_state.specs.Changes.{change_flight, completed_in, dropped_flight, first_kept, landed_flight, landed_in, sampled_flight, torn_by, torn_flight, write_at}
use Rattle.sl_world_state.specs.KeptWorld.{FlightState, KeptState, change_machine_in, flight_in, flight_of_machine}
use Rattle.sl_world_state.specs.Refusals.{left_in, torn_in}
use Rattle.sl_world_state.specs.SaneWorlds.{IsSane}
use Rattle.sl_world_state.specs.ShownWorlds.{Tells, flight_of_course, place_in, shown, write_in}
use Rattle.sl_world_law.proofs.AllowedEvents.{allowed, flight_found, machine_found, open_test}
use Rattle.sl_world_law.proofs.ChangedCalls.{Changes, drops, lands_torn, lands_whole, shows_changed}
use Rattle.sl_world_law.proofs.MachineChanges.{tells_change}
use Rattle.sl_world_law.proofs.GivenInputs.{rest_here}
use Rattle.sl_world_law.proofs.Landings.{tells_landed}
use Rattle.sl_world_law.proofs.Lookups.{flight_inside, flight_shown, machine_place, machine_shown}
use Rattle.sl_world_law.proofs.RefusalCases.{torn_here}
use Rattle.sl_world_law.proofs.Sectors.{one_index, placed_is}
use Rattle.sl_world_law.proofs.TestLists.{Tests}
use Rattle.sl_world_law.specs.Flights.{FlightsAreKept}
use Rattle.sl_words.proofs.Lists.{find_fails, find_inside, got_index, there_is}
use Rattle.sl_words.proofs.Numbers.{refl_le}
use Rattle.sl_run.specs.EventChanges.{add_landing, change_call, complete, fated, first_change, flight_at, land_torn, land_whole, sample_at, sampled_more, write_bytes}
use Rattle.sl_run.specs.Refusals.{event_tests, is_placed, is_read_course, on_flight, sectors_left, sectors_of}
use Rattle.sl_run.specs.Premises.{spells_something, torn_bytes}
use Rattle.sl_run.specs.Worlds.{Course, Dropped, Fate, Landed, Machine, Torn, World, change_machine, flight_of, is_in_flight, is_of_running, is_open, is_torn_fate, is_write_course, machine_at}
use Rattle.sl_run.specs.declared.event.Event.TheVariants.{Do, Land, Sample, Tear}
use Rattle.sl_run.specs.declared.event.Refusal.TheVariants.{MissingDaemon, MissingFlight, MissingLanding, MissingPlace, MissingSample, PremiseTorn}
use Rattle.sl_run.specs.declared.header.Header.{Header}
use Rattle.sl_text.specs.Forms.{Form}
use Rattle.sl_trace.specs.Traces.{is_write, record_of}
use Rattle.sl_trace.specs.declared.command.Command.{Command}
use Rattle.sl_trace.specs.declared.effects.Op.TheVariants.{ReadSectors, WriteRecord}
use Rattle.sl_trace.specs.declared.effects.Op.{Op}
use Rattle.sl_words.proofs.CaseLaws.{false_is_true, one_value, true_is_false}
use Rattle.sl_words.proofs.WordLaws.{and_true}
use Rattle.std.proofs.Common.{ap, ap₂, arith, refl, subst, sym, ◌∙◌}
use Rattle.std.proofs.lemmas.Bool.Decides.{Decides-eqb, nat_tests}
use Rattle.std.proofs.lemmas.Bool.{and_from}
use Rattle.std.proofs.lemmas.List.FromFn.{length-map-range_with_len}
use Rattle.std.proofs.lemmas.List.{length-append}
use Rattle.std.specs.List.{range_with_len}
use Rattle.std.specs.Option.{option_map_or}
use Rattle.std.specs.Prelude.{AllPairs, Bool, Contains, List, None, Option, Some, false, is_none, length, map, nat_lt, not, option_and_then, option_map, slice_get, true, unwrap_or, [], ℕ, ◌&&◌, ◌+◌, ◌-◌, ◌==◌, ◌∷◌, ◌≡◌, ◌≢◌, ◌≤◌}

-- ---- the call of a number

element_at : {A : Type 0} (xs : List A) (x : A) → Contains xs x → (i : ℕ) × (slice_get xs i ≡ Some x)
element_at xs x inside =
    let at = there_is xs inside.0 inside.1 in (inside.0, at.1 ∙ ap Some (sym (got_index xs inside.0 at.0 x at.1) ∙ inside.2))

-- A call that is in flight is the one of its number.
pub the_flight : (a : Machine) (c : ℕ) (x : Course) → AllPairs (λ y z. y.call.number ≢ z.call.number) a.calls → Contains a.calls x → (x.call.number == c) ≡ true
    → is_open a x ≡ true → flight_of a c ≡ Some x
the_flight a c x apart inside num still = go (flight_of a c) refl
  where
    test : Course → Bool
    test y = y.call.number == c && is_open a y

    go : (o : Option Course) → flight_of a c ≡ o → flight_of a c ≡ Some x
    go None at = absurd (true_is_false (sym (and_from (x.call.number == c) (is_open a x) num still) ∙ find_fails test a.calls x at inside))
    go (Some y) at =
        let found = find_inside test a.calls y at in
        let i = element_at a.calls x inside in
        let j = element_at a.calls y found.0 in
        let same_number : x.call.number ≡ y.call.number =
        (Decides-eqb x.call.number c).0 num ∙ sym ((Decides-eqb y.call.number c).0 (and_true (y.call.number == c) (is_open a y) found.1).0) in
        let one = one_index (λ (z : Course). z.call.number) a.calls i.0 j.0 x y apart i.1 j.1 same_number in
        at ∙ sym j.1 ∙ ap (slice_get a.calls) (sym one) ∙ i.1

-- ---- where an event finds its call

flight_at_is : (w : World) (m c : ℕ) (a : Machine) (x : Course) → machine_at w m ≡ Some a → flight_of a c ≡ Some x → flight_at w m c ≡ Some x
flight_at_is w m c a x at there = ap (option_and_then (λ b. flight_of b c)) at ∙ there

flight_in_is : (k : KeptState) (w : World) → Tells k w → (m c : ℕ) (a : Machine) (x : Course) → machine_at w m ≡ Some a → flight_of a c ≡ Some x
    → flight_of_machine k m c ≡ Some (flight_of_course w.header a x)
flight_in_is k w t m c a x at there =
    ap (option_and_then (λ s. flight_in s c)) (machine_shown k w t m ∙ ap (option_map (shown w.header)) at) ∙ flight_shown w.header a c
    ∙ ap (option_map (flight_of_course w.header a)) there

one_sector : (op : Op) → is_write op ≡ true → sectors_of op ≡ 1
one_sector (ReadSectors n) h = absurd (false_is_true h)
one_sector (WriteRecord r) h = refl

not_false : (b : Bool) → not b ≡ false → b ≡ true
not_false true h = refl
not_false false h = absurd (true_is_false h)

-- ---- a write takes effect

map_or : {A B : Type 0} (f : A → B) (o : Option A) (d : B) → option_map_or f o d ≡ unwrap_or (option_map f o) d
map_or f None d = refl
map_or f (Some a) d = refl

whole_bytes : (k : KeptState) (w : World) → Tells k w → (x : Course) → write_bytes w x.call ≡ unwrap_or (write_in w.header x.call.op) []
whole_bytes k w t x =
    map_or (sector_with w.layout) (record_of x.call.op) []
    ∙ ap (λ (g : Layout). unwrap_or (option_map (sector_with g) (record_of x.call.op)) []) (t.layout ∙ ap (λ (h : Header). layout_of h.geometry) (sym t.header))

takes_effect : {commands : Header → List (Form Command)} → (k : KeptState) (w : World) → Tells k w → IsSane commands w → (m : ℕ) (a : Machine) → machine_at w m ≡ Some a
    → (c : ℕ) (x : Course) → flight_of a c ≡ Some x → is_write_course x ≡ true → not (is_placed w x.call) ≡ false → (fate : Fate) (q : FlightState → FlightState)
    → ((b : Machine) → Changes w.header b c (fated fate) q b.calls) → (whole : Bool) (bytes here : List ℕ) → bytes ≡ here
    → Tells (change_machine_in m (change_flight c q) (write_at (place_in w.header x.call) here k)) (change_machine m (change_call c (fated fate)) (add_landing m x.call whole bytes w))
takes_effect k w t is m a at c x there writes placed fate q alike whole bytes here same =
    tells_change (write_at (place_in w.header x.call) here k) (add_landing m x.call whole bytes w) landed m (change_call c (fated fate)) (change_flight c q)
    (λ b found. shows_changed w.header b c (fated fate) q (alike b)) (λ b name found. refl)
  where
    landed : Tells (write_at (place_in w.header x.call) here k) (add_landing m x.call whole bytes w)
    landed =
        subst (λ z. Tells (write_at (place_in w.header x.call) z k) (add_landing m x.call whole bytes w)) same
        (tells_landed k w t is m x.call whole bytes (sym (placed_is k w t x.call) ∙ not_false (is_placed w x.call) placed)
        ((is.sane (m - 1) a (machine_place w m a at)).calls x (flight_inside a c x there)).whole (one_sector x.call.op writes))

lands_here : {commands : Header → List (Form Command)} → (k : KeptState) (w : World) → Tells k w → IsSane commands w → (m : ℕ) (a : Machine) → machine_at w m ≡ Some a
    → (c : ℕ) (x : Course) → flight_of a c ≡ Some x → is_write_course x ≡ true → not (is_placed w x.call) ≡ false → Tells (landed_in m c k) (land_whole m c w)
lands_here k w t is m a at c x there writes placed =
    subst (λ v. Tells v (land_whole m c w))
    (sym (ap (λ (o : Option FlightState). elim o as (λ z. KeptState) [
      | None ↦ k
      | Some f ↦ change_machine_in m (change_flight c landed_flight) (write_at f.place (unwrap_or f.write []) k)
    ]) (flight_in_is k w t m c a x at there)))
    (subst (λ v. Tells (change_machine_in m (change_flight c landed_flight) (write_at (place_in w.header x.call) (unwrap_or (write_in w.header x.call.op) []) k)) v)
    (sym (ap (λ o. option_map_or (λ (f : Course). change_machine m (change_call c (fated Landed)) (add_landing m f.call true (write_bytes w f.call) w)) o w)
    (flight_at_is w m c a x at there)))
    (takes_effect k w t is m a at c x there writes placed Landed landed_flight (λ b. lands_whole w.header b c) true (write_bytes w x.call)
    (unwrap_or (write_in w.header x.call.op) []) (whole_bytes k w t x)))

tears_here : {commands : Header → List (Form Command)} → (k : KeptState) (w : World) → Tells k w → IsSane commands w → (m : ℕ) (a : Machine) → machine_at w m ≡ Some a
    → (c : ℕ) (x : Course) → flight_of a c ≡ Some x → is_write_course x ≡ true → not (is_placed w x.call) ≡ false → (n : ℕ) (bytes : List ℕ)
    → Tells (torn_by m c n bytes k) (land_torn m c n bytes w)
tears_here k w t is m a at c x there writes placed n bytes =
    subst (λ v. Tells v (land_torn m c n bytes w))
    (sym (ap (λ (o : Option FlightState). elim o as (λ z. KeptState) [
      | None ↦ k
      | Some f ↦ change_machine_in m (change_flight c torn_flight) (write_at f.place (torn_in k f n bytes) k)
    ]) (flight_in_is k w t m c a x at there)))
    (subst (λ v. Tells (change_machine_in m (change_flight c torn_flight) (write_at (place_in w.header x.call) (torn_in k (flight_of_course w.header a x) n bytes) k)) v)
    (sym (ap (λ o. option_map_or (λ (f : Course). change_machine m (change_call c (fated Torn)) (add_landing m f.call false (torn_bytes w f.call n bytes) w)) o w)
    (flight_at_is w m c a x at there)))
    (takes_effect k w t is m a at c x there writes placed Torn torn_flight (λ b. lands_torn w.header b c) false (torn_bytes w x.call n bytes)
    (torn_in k (flight_of_course w.header a x) n bytes) (torn_here k w t is m a at c x there writes placed n bytes)))

-- ---- a read samples

sampling : {commands : Header → List (Form Command)} → (k : KeptState) (w : World) → Tells k w → IsSane commands w → (m : ℕ) (a : Machine) → machine_at w m ≡ Some a
    → (c : ℕ) (x : Course) → flight_of a c ≡ Some x → not (is_placed w x.call) ≡ false → (n : ℕ) → n ≤ sectors_left x
    → Changes w.header a c (sampled_more w n) (sampled_flight k n) a.calls
sampling k w t is m a at c x there placed n few =
    record { answered = λ y. refl; same = same; gone = λ y over. over }
  where
    same : (y : Course) → Contains a.calls y → (y.call.number == c) ≡ true → is_open a y ≡ true
        → flight_of_course w.header a (sampled_more w n y) ≡ sampled_flight k n (flight_of_course w.header a y)
    same y inside num still =
        let found = the_flight a c y (is.sane (m - 1) a (machine_place w m a at)).distinct inside num still in
        let one : x ≡ y = one_value x y (flight_of a c) there found in
        ap₂ (λ bytes samples. record (flight_of_course w.header a y) { sampled = bytes; samples = samples })
        (rest_here k w t is m a at c y found (subst (λ z. not (is_placed w z.call) ≡ false) one placed) n (subst (λ z. n ≤ sectors_left z) one few))
        (length-append y.samples (map (sample_at w y.call) (range_with_len (length y.samples) n))
        ∙ ap (λ j. length y.samples + j) (length-map-range_with_len (sample_at w y.call) (length y.samples) n))

samples_here : {commands : Header → List (Form Command)} → (k : KeptState) (w : World) → Tells k w → IsSane commands w → (m : ℕ) (a : Machine) → machine_at w m ≡ Some a
    → (c : ℕ) (x : Course) → flight_of a c ≡ Some x → not (is_placed w x.call) ≡ false → (n : ℕ) → n ≤ sectors_left x
    → Tells (change_machine_in m (change_flight c (sampled_flight k n)) k) (change_machine m (change_call c (sampled_more w n)) w)
samples_here k w t is m a at c x there placed n few =
    tells_change k w t m (change_call c (sampled_more w n)) (change_flight c (sampled_flight k n)) here (λ b name found. refl)
  where
    here : (b : Machine) → machine_at w m ≡ Some b → shown w.header (change_call c (sampled_more w n) b) ≡ change_flight c (sampled_flight k n) (shown w.header b)
    here b found =
        subst (λ z. shown w.header (change_call c (sampled_more w n) z) ≡ change_flight c (sampled_flight k n) (shown w.header z)) (one_value a b (machine_at w m) at found)
        (shows_changed w.header a c (sampled_more w n) (sampled_flight k n) (sampling k w t is m a at c x there placed n few))

-- ---- a call is done

does_here : {commands : Header → List (Form Command)} → (k : KeptState) (w : World) → Tells k w → IsSane commands w → (m : ℕ) (a : Machine) → machine_at w m ≡ Some a
    → (c : ℕ) (x : Course) → flight_of a c ≡ Some x → not (is_placed w x.call) ≡ false → Tells (completed_in m c k) (complete m c w)
does_here k w t is m a at c x there placed =
    subst (λ v. Tells v (complete m c w)) (sym (ap kept_by (flight_in_is k w t m c a x at there)))
    (subst (λ v. Tells (kept_as x.call.op) v) (sym (ap world_by (flight_at_is w m c a x at there))) (go x.call.op refl))
  where
    kept_by : Option FlightState → KeptState
    kept_by o =
        elim o [
          | None ↦ k
          | Some f ↦ elim f.write [
            | None ↦ change_machine_in m (change_flight c (sampled_flight k (left_in f))) k
            | Some whole ↦ elim f.flying [ true ↦ landed_in m c k | false ↦ k ]
          ]
        ]

    world_by : Option Course → World
    world_by o =
        elim o [
          | None ↦ w
          | Some f ↦ elim (is_write_course f) [
            | false ↦ change_machine m (change_call c (sampled_more w (sectors_left f))) w
            | true ↦ elim (is_in_flight f.fate) [ true ↦ land_whole m c w | false ↦ w ]
          ]
        ]

    landed_kept : Bool → KeptState
    landed_kept b = elim b [ true ↦ landed_in m c k | false ↦ k ]

    landed_world : Bool → World
    landed_world b = elim b [ true ↦ land_whole m c w | false ↦ w ]

    kept_as : Op → KeptState
    kept_as op =
        elim (write_in w.header op) [
          | None ↦ change_machine_in m (change_flight c (sampled_flight k (sectors_left x))) k
          | Some whole ↦ elim (is_in_flight x.fate) [ true ↦ landed_in m c k | false ↦ k ]
        ]

    world_as : Op → World
    world_as op =
        elim (is_write op) [
          | false ↦ change_machine m (change_call c (sampled_more w (sectors_left x))) w
          | true ↦ elim (is_in_flight x.fate) [ true ↦ land_whole m c w | false ↦ w ]
        ]

    by_flight : is_write_course x ≡ true → (b : Bool) → is_in_flight x.fate ≡ b → Tells (landed_kept (is_in_flight x.fate)) (landed_world (is_in_flight x.fate))
    by_flight writes true flies =
        subst (λ b. Tells (landed_kept b) (landed_world b)) (sym flies) (lands_here k w t is m a at c x there writes placed)
    by_flight writes false flies = subst (λ b. Tells (landed_kept b) (landed_world b)) (sym flies) t

    go : (op : Op) → x.call.op ≡ op → Tells (kept_as x.call.op) (world_as x.call.op)
    go (ReadSectors j) is_op =
        subst (λ op. Tells (kept_as op) (world_as op)) (sym is_op) (samples_here k w t is m a at c x there placed (sectors_left x) (refl_le (sectors_left x)))
    go (WriteRecord r) is_op =
        subst (λ op. Tells (kept_as op) (world_as op)) (sym is_op) (by_flight (ap is_write is_op) (is_in_flight x.fate) refl)

-- ---- the events

pub flights_are_kept : FlightsAreKept
unfolding first_kept first_change event_tests
flights_are_kept =
    record {
      samples = λ m c n commands k w t is may.
          let inner : Course → Tests = λ f. (not (is_placed w f.call), MissingPlace) ∷ (nat_lt (sectors_left f) n, MissingSample) ∷ [] in
          let f = machine_found w m (λ b. (is_none b.daemon, MissingDaemon) ∷ on_flight b c is_read_course inner) (allowed w (Sample m c n) may) in
          let x = flight_found f.0 c is_read_course inner (open_test (is_none f.0.daemon) MissingDaemon (on_flight f.0 c is_read_course inner) f.2).1 in
          let tests = open_test (not (is_placed w x.0.call)) MissingPlace ((nat_lt (sectors_left x.0) n, MissingSample) ∷ []) x.3 in
          let enough = (open_test (nat_lt (sectors_left x.0) n) MissingSample [] tests.1).0 in
          samples_here k w t is m f.0 f.1 c x.0 x.1 tests.0 n (grind (arith, nat_tests, enough));
      lands = λ m c commands k w t is may.
          let inner : Course → Tests = λ f. (not (is_placed w f.call), MissingPlace) ∷ (not (is_in_flight f.fate), MissingFlight) ∷ [] in
          let f = machine_found w m (λ b. on_flight b c is_write_course inner) (allowed w (Land m c) may) in
          let x = flight_found f.0 c is_write_course inner f.2 in
          let tests = open_test (not (is_placed w x.0.call)) MissingPlace ((not (is_in_flight x.0.fate), MissingFlight) ∷ []) x.3 in
          lands_here k w t is m f.0 f.1 c x.0 x.1 x.2 tests.0;
      tears = λ m c n bytes commands k w t is may.
          let inner : Course → Tests = λ f.
          (not (is_placed w f.call), MissingPlace) ∷ (not (is_in_flight f.fate), MissingFlight) ∷ (spells_something w (torn_bytes w f.call n bytes), PremiseTorn) ∷ [] in
          let f = machine_found w m (λ b. on_flight b c is_write_course inner) (allowed w (Tear m c n bytes) may) in
          let x = flight_found f.0 c is_write_course inner f.2 in
          let tests = open_test (not (is_placed w x.0.call)) MissingPlace
          ((not (is_in_flight x.0.fate), MissingFlight) ∷ (spells_something w (torn_bytes w x.0.call n bytes), PremiseTorn) ∷ []) x.3 in
          tears_here k w t is m f.0 f.1 c x.0 x.1 x.2 tests.0 n bytes;
      does = λ m c commands k w t is may.
          let inner : Machine → Course → Tests = λ b f. (not (is_placed w f.call), MissingPlace) ∷ (is_torn_fate f.fate, MissingLanding) ∷ [] in
          let f = machine_found w m (λ b. (is_none b.daemon, MissingDaemon) ∷ on_flight b c (is_of_running b) (inner b)) (allowed w (Do m c) may) in
          let x = flight_found f.0 c (is_of_running f.0) (inner f.0) (open_test (is_none f.0.daemon) MissingDaemon (on_flight f.0 c (is_of_running f.0) (inner f.0)) f.2).1 in
          let tests = open_test (not (is_placed w x.0.call)) MissingPlace ((is_torn_fate x.0.fate, MissingLanding) ∷ []) x.3 in
          does_here k w t is m f.0 f.1 c x.0 x.1 tests.0;
      drops = λ m c commands k w t is may.
          tells_change k w t m (change_call c (fated Dropped)) (change_flight c dropped_flight)
          (λ b at. shows_changed w.header b c (fated Dropped) dropped_flight (drops w.header b c)) (λ b name at. refl);
    }
