-- A place stays where no write is in flight to it.
use Rattle.sl_area.specs.AreaSizes.{Layout}
use Rattle.sl_headline.specs.Quiet.Area.PlacesStay.{NoneInFlight, PlacesStay}
use Rattle.sl_run.specs.EventChanges.{add_landing, after_crash, after_effects, after_reset, after_restart, after_start, after_step, after_test, change_call, fated, first_change, flight_at, happens, land_whole, next_input, next_step, sampled_more, take_step, take_steps, write_bytes}
use Rattle.sl_run.specs.Refusals.{event_tests, is_placed, may_happen, on_flight, sectors_left}
use Rattle.sl_run.specs.Premises.{spells_something, torn_bytes}
use Rattle.sl_run.specs.Inputs.{machine_of}
use Rattle.sl_run.specs.Worlds.{Course, Dropped, Landed, Landing, Machine, Torn, World, change_machine, content, flight_of, initial_bytes, is_in_flight, is_write_course, machine_at, stamp_now}
use Rattle.sl_run.specs.declared.event.Event.TheVariants.{AnswerCall, Crash, Do, DropWrite, ExitOf, GiveAsk, GiveCommand, GiveLvm, Land, Pass, Reset, Restart, Sample, SpawnedOf, StartDaemon, Tear, Test, WakeUp}
use Rattle.sl_run.specs.declared.event.Event.{Event}
use Rattle.sl_run.specs.declared.event.Refusal.TheVariants.{MissingCall, MissingFlight, MissingPlace, PremiseTorn}
use Rattle.sl_run.specs.declared.event.Refusal.{Refusal}
use Rattle.sl_run.specs.declared.header.Header.{Header}
use Rattle.sl_run_law.proofs.Guards.{NoneHolds, on_this, passes}
use Rattle.sl_trace.specs.Traces.{same_place}
use Rattle.sl_trace.specs.declared.effects.Call.{Call}
use Rattle.sl_trace.specs.declared.effects.Effects.{Effects}
use Rattle.sl_trace.specs.declared.input.Input.{Input}
use Rattle.sl_words.proofs.CaseLaws.{is_false, none_some, one_value, true_is_false}
use Rattle.std.proofs.Common.{ap, refl, subst, ◌∙◌}
use Rattle.std.specs.Option.{option_map_or}
use Rattle.std.specs.Prelude.{Bool, List, None, Option, Some, [], false, find, if◌then◌else◌, not, option_and_then, true, ℕ, slice_set, ◌++◌, ◌-◌, ◌∷◌, ◌≡◌}

-- What a disk with these landings holds.
abbrev held_by : Layout → Header → List Landing → List ℕ → ℕ → List ℕ
held_by g h ls path offset =
    elim (find (λ l. same_place l.path l.offset path offset) ls) as (λ o. List ℕ) [ Some l ↦ l.bytes | None ↦ initial_bytes g h path offset ]

-- The same disk.
record SameDisk (w v : World) : Type 0 where
  layout : v.layout ≡ w.layout
  header : v.header ≡ w.header
  landings : v.landings ≡ w.landings

same_content : (w v : World) (path : List ℕ) (offset : ℕ) → SameDisk w v → content v path offset ≡ content w path offset
same_content w v path offset s =
    ap (λ g. held_by g v.header v.landings path offset) s.layout ∙ ap (λ h. held_by w.layout h v.landings path offset) s.header
    ∙ ap (λ ls. held_by w.layout w.header ls path offset) s.landings

changed_by : (m : ℕ) (f : Machine → Machine) (w : World) (o : Option Machine)
    → SameDisk w (elim o as (λ x. World) [ None ↦ w | Some a ↦ record w { machines = slice_set w.machines (m - 1) (f a) } ])
changed_by m f w None = record { layout = refl; header = refl; landings = refl }
changed_by m f w (Some a) = record { layout = refl; header = refl; landings = refl }

changed : (m : ℕ) (f : Machine → Machine) (w : World) → SameDisk w (change_machine m f w)
changed m f w = changed_by m f w (machine_at w m)

further : (w v u : World) → SameDisk w v → SameDisk v u → SameDisk w u
further w v u a b = record { layout = b.layout ∙ a.layout; header = b.header ∙ a.header; landings = b.landings ∙ a.landings }

stepped : (w : World) → SameDisk w (next_step w)
stepped w = record { layout = refl; header = refl; landings = refl }

took : (m : ℕ) (o : Option Input) (fx : Effects) (v : World) → SameDisk v (take_step m o fx v)
took m None fx v =
    let c : World = change_machine m (λ a. after_effects (stamp_now v a) fx a) v in further v c (next_step c) (changed m (λ a. after_effects (stamp_now v a) fx a) v) (stepped c)
took m (Some i) fx v =
    let c : World = change_machine m (λ a. after_step (stamp_now v a) i fx a) v in further v c (next_step c) (changed m (λ a. after_step (stamp_now v a) i fx a) v) (stepped c)

took_all : (w : World) (e : Event) (done fxs : List Effects) (v : World) → SameDisk v (take_steps w e done fxs v)
took_all w e done [] v = record { layout = refl; header = refl; landings = refl }
took_all w e done (fx ∷ fxs) v =
    let u : World = take_step (machine_of e) (next_input w e done) fx v in
    further v u (take_steps w e (done ++ fx ∷ []) fxs u) (took (machine_of e) (next_input w e done) fx v) (took_all w e (done ++ fx ∷ []) fxs u)

-- ---- a landing elsewhere

elsewhere : (m : ℕ) (c : Call) (whole : Bool) (bytes : List ℕ) (w : World) (path : List ℕ) (offset : ℕ) → same_place c.path c.offset path offset ≡ false
    → content (add_landing m c whole bytes w) path offset ≡ content w path offset
elsewhere m c whole bytes w path offset h =
    ap (λ b. elim (if b then Some (record { path = c.path; offset = c.offset; bytes = bytes; whole = whole; writer = Some (m, c.number); step = w.step; moment = w.moment }) else find (λ l. same_place l.path l.offset path offset) w.landings) as (λ o. List ℕ)
    [ Some l ↦ l.bytes | None ↦ initial_bytes w.layout w.header path offset ]) h

-- Where the call in flight, if it is one, is elsewhere.
abbrev Elsewhere : Option Course → List ℕ → ℕ → Type 0
Elsewhere o path offset = (f : Course) → o ≡ Some f → same_place f.call.path f.call.offset path offset ≡ false

whole_by : (m n : ℕ) (w : World) (path : List ℕ) (offset : ℕ) (o : Option Course) → Elsewhere o path offset
    → content (option_map_or (λ (f : Course). change_machine m (change_call n (fated Landed)) (add_landing m f.call true (write_bytes w f.call) w)) o w) path offset ≡ content w path offset
whole_by m n w path offset None h = refl
whole_by m n w path offset (Some f) h =
    let v : World = add_landing m f.call true (write_bytes w f.call) w in
    same_content v (change_machine m (change_call n (fated Landed)) v) path offset (changed m (change_call n (fated Landed)) v)
    ∙ elsewhere m f.call true (write_bytes w f.call) w path offset (h f refl)

torn_by : (m n k : ℕ) (bytes : List ℕ) (w : World) (path : List ℕ) (offset : ℕ) (o : Option Course) → Elsewhere o path offset
    → content (option_map_or (λ (f : Course). change_machine m (change_call n (fated Torn)) (add_landing m f.call false (torn_bytes w f.call k bytes) w)) o w) path offset ≡ content w path offset
torn_by m n k bytes w path offset None h = refl
torn_by m n k bytes w path offset (Some f) h =
    let v : World = add_landing m f.call false (torn_bytes w f.call k bytes) w in
    same_content v (change_machine m (change_call n (fated Torn)) v) path offset (changed m (change_call n (fated Torn)) v)
    ∙ elsewhere m f.call false (torn_bytes w f.call k bytes) w path offset (h f refl)

-- ---- what is in flight

is_kind : (t : Bool) (ts : List (Bool × Refusal)) → NoneHolds (elim t as (λ x. List (Bool × Refusal)) [ false ↦ (true, MissingCall) ∷ [] | true ↦ ts ]) → t ≡ true
is_kind false ts h = absurd (true_is_false h.0)
is_kind true ts h = refl

on_kind : (a : Machine) (c : ℕ) (p : Course → Bool) (g : Course → List (Bool × Refusal)) (f : Course) → flight_of a c ≡ Some f → NoneHolds (on_flight a c p g) → p f ≡ true
on_kind a c p g f h n =
    is_kind (p f) (g f) (subst (λ o. NoneHolds (elim o as (λ x. List (Bool × Refusal)) [
      | None ↦ (true, MissingCall) ∷ []
      | Some x ↦ elim (p x) as (λ y. List (Bool × Refusal)) [ false ↦ (true, MissingCall) ∷ [] | true ↦ g x ]
    ])) h n)

record Flies (w : World) (m n : ℕ) (f : Course) : Type 0 where
  machine : Machine
  at : machine_at w m ≡ Some machine
  flight : flight_of machine n ≡ Some f

flies_by : (w : World) (m n : ℕ) (f : Course) (o : Option Machine) → machine_at w m ≡ o → option_and_then (λ a. flight_of a n) o ≡ Some f → Flies w m n f
flies_by w m n f None is h = absurd (none_some f h)
flies_by w m n f (Some a) is h = record { machine = a; at = is; flight = h }

flies : (w : World) (m n : ℕ) (f : Course) → flight_at w m n ≡ Some f → Flies w m n f
flies w m n f h = flies_by w m n f (machine_at w m) refl h

apart : (w : World) (path : List ℕ) (offset : ℕ) → NoneInFlight w path offset → (m n : ℕ) (f : Course) → Flies w m n f → is_write_course f ≡ true
    → same_place f.call.path f.call.offset path offset ≡ false
apart w path offset none m n f x writes = is_false (same_place f.call.path f.call.offset path offset) (λ same. none m n x.machine f x.at x.flight writes same)

lands_apart : (w : World) (path : List ℕ) (offset : ℕ) → NoneInFlight w path offset → (m n : ℕ) → may_happen w (Land m n) ≡ true → Elsewhere (flight_at w m n) path offset
unfolding event_tests
lands_apart w path offset none m n may f is =
    let x = flies w m n f is in
    let g : Course → List (Bool × Refusal) = λ x. (not (is_placed w x.call), MissingPlace) ∷ (not (is_in_flight x.fate), MissingFlight) ∷ [] in
    apart w path offset none m n f x
    (on_kind x.machine n is_write_course g f x.flight (on_this w m (λ b. on_flight b n is_write_course g) x.machine x.at (passes w (Land m n) may)))

tears_apart : (w : World) (path : List ℕ) (offset : ℕ) → NoneInFlight w path offset → (m n k : ℕ) (bytes : List ℕ) → may_happen w (Tear m n k bytes) ≡ true → Elsewhere (flight_at w m n) path offset
unfolding event_tests
tears_apart w path offset none m n k bytes may f is =
    let x = flies w m n f is in
    let g : Course → List (Bool × Refusal) =
    λ x. (not (is_placed w x.call), MissingPlace) ∷ (not (is_in_flight x.fate), MissingFlight) ∷ (spells_something w (torn_bytes w x.call k bytes), PremiseTorn) ∷ [] in
    apart w path offset none m n f x
    (on_kind x.machine n is_write_course g f x.flight (on_this w m (λ b. on_flight b n is_write_course g) x.machine x.at (passes w (Tear m n k bytes) may)))

done_by : (w : World) (path : List ℕ) (offset : ℕ) → NoneInFlight w path offset → (m n : ℕ) (f : Course) → flight_at w m n ≡ Some f → (b c : Bool) → is_write_course f ≡ b
    → content (elim b as (λ x. World) [
      | false ↦ change_machine m (change_call n (sampled_more w (sectors_left f))) w
      | true ↦ elim c as (λ x. World) [ true ↦ land_whole m n w | false ↦ w ]
    ]) path offset ≡ content w path offset
done_by w path offset none m n f is false c writes =
    same_content w (change_machine m (change_call n (sampled_more w (sectors_left f))) w) path offset (changed m (change_call n (sampled_more w (sectors_left f))) w)
done_by w path offset none m n f is true false writes = refl
done_by w path offset none m n f is true true writes =
    whole_by m n w path offset (flight_at w m n)
    (λ x at. apart w path offset none m n x (flies w m n x at) (ap (λ y. is_write_course y) (one_value x f (flight_at w m n) at is) ∙ writes))

completes_by : (w : World) (path : List ℕ) (offset : ℕ) → NoneInFlight w path offset → (m n : ℕ) (o : Option Course) → flight_at w m n ≡ o
    → content (elim o as (λ x. World) [
      | None ↦ w
      | Some f ↦ elim (is_write_course f) as (λ x. World) [
        | false ↦ change_machine m (change_call n (sampled_more w (sectors_left f))) w
        | true ↦ elim (is_in_flight f.fate) as (λ x. World) [ true ↦ land_whole m n w | false ↦ w ]
      ]
    ]) path offset ≡ content w path offset
completes_by w path offset none m n None is = refl
completes_by w path offset none m n (Some f) is = done_by w path offset none m n f is (is_write_course f) (is_in_flight f.fate) refl

-- ---- all events

first_stays : (w : World) (e : Event) (path : List ℕ) (offset : ℕ) → may_happen w e ≡ true → NoneInFlight w path offset → content (first_change e w) path offset ≡ content w path offset
unfolding first_change
first_stays w (Pass d growths) path offset may none = refl
first_stays w (Sample m c k) path offset may none = same_content w (change_machine m (change_call c (sampled_more w k)) w) path offset (changed m (change_call c (sampled_more w k)) w)
first_stays w (Land m c) path offset may none = whole_by m c w path offset (flight_at w m c) (lands_apart w path offset none m c may)
first_stays w (Tear m c k bytes) path offset may none = torn_by m c k bytes w path offset (flight_at w m c) (tears_apart w path offset none m c k bytes may)
first_stays w (Do m c) path offset may none = completes_by w path offset none m c (flight_at w m c) refl
first_stays w (DropWrite m c) path offset may none = same_content w (change_machine m (change_call c (fated Dropped)) w) path offset (changed m (change_call c (fated Dropped)) w)
first_stays w (Test m) path offset may none = same_content w (change_machine m (after_test w) w) path offset (changed m (after_test w) w)
first_stays w (StartDaemon m name) path offset may none = same_content w (change_machine m (after_start w m name) w) path offset (changed m (after_start w m name) w)
first_stays w (Crash m) path offset may none = same_content w (change_machine m after_crash w) path offset (changed m after_crash w)
first_stays w (Reset m) path offset may none = same_content w (change_machine m (after_reset w) w) path offset (changed m (after_reset w) w)
first_stays w (Restart m) path offset may none = same_content w (change_machine m (after_restart w) w) path offset (changed m (after_restart w) w)
first_stays w (WakeUp m) path offset may none = refl
first_stays w (GiveCommand m text) path offset may none = refl
first_stays w (GiveLvm m text) path offset may none = refl
first_stays w (GiveAsk m) path offset may none = refl
first_stays w (AnswerCall m c ok) path offset may none = refl
first_stays w (ExitOf m p) path offset may none = refl
first_stays w (SpawnedOf m p ok) path offset may none = refl

pub places_stay : PlacesStay
places_stay w e fxs path offset may none =
    let v : World = first_change e w in
    same_content v (happens w e fxs) path offset (further v (next_step v) (happens w e fxs) (stepped v) (took_all w e [] fxs (next_step v)))
    ∙ first_stays w e path offset may none
