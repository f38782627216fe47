-- What an event changes first leaves the daemons that run as they are, or ends or begins one.
use Rattle.sl_world_state.specs.Daemons.{Stood}
use Rattle.sl_world_law.proofs.Lookups.{machine_place}
use Rattle.sl_words.proofs.Lists.{contains_cases}
use Rattle.sl_run.specs.EventChanges.{add_landing, after_crash, after_effects, after_reset, after_restart, after_start, after_test, change_call, complete, fated, first_change, flight_at, land_torn, land_whole, next_step, sampled_more, take_step, write_bytes}
use Rattle.sl_run.specs.Refusals.{sectors_left}
use Rattle.sl_run.specs.Premises.{torn_bytes}
use Rattle.sl_run.specs.Worlds.{Course, Daemon, Dropped, Fate, Landed, Machine, Torn, World, change_machine, daemons_on, is_in_flight, is_write_course, machine_at, new_daemon, next_numbers, setting_of, stamp_now}
use Rattle.sl_run.specs.declared.event.Event.TheVariants.{Crash, Do, DropWrite, Land, Pass, Reset, Restart, Sample, StartDaemon, Tear, Test}
use Rattle.sl_run.specs.declared.event.Event.{Event}
use Rattle.sl_trace.specs.Traces.{Setting, Trace}
use Rattle.sl_trace.specs.declared.effects.Call.{Call}
use Rattle.sl_trace.specs.declared.effects.Effects.{Effects}
use Rattle.sl_words.proofs.CaseLaws.{true_is_false}
use Rattle.sl_world_law.proofs.DaemonsStand.{Hosted, changed_hosted, next_hosted, passed_hosted, same_hosted}
use Rattle.sl_world_law.specs.WorldsStand.{begins_or_ends}
use Rattle.std.proofs.Common.{ap, inl, inr, refl, subst, sym}
use Rattle.std.specs.Option.{option_map_or}
use Rattle.std.specs.Prelude.{Bool, Contains, List, None, Option, Some, false, length, slice_set, true, [], ℕ, ◌-◌, ◌∷◌, ◌≡◌}

landed_hosted : {D : Type 0} (stands : D → Setting → Trace → Type 0) (hosts : List (Option D)) (w : World) → Hosted stands hosts w → (m c : ℕ) (call : Call) (whole : Bool)
    (bytes : List ℕ) (fate : Fate) → Hosted stands hosts (change_machine m (change_call c (fated fate)) (add_landing m call whole bytes w))
landed_hosted stands hosts w h m c call whole bytes fate =
    same_hosted stands hosts (add_landing m call whole bytes w) (record { counted = h.counted; runs = h.runs; stood = h.stood }) m (change_call c (fated fate))
    (λ a. record { daemon = refl; ended = refl })

whole_hosted : {D : Type 0} (stands : D → Setting → Trace → Type 0) (hosts : List (Option D)) (w : World) → Hosted stands hosts w → (m c : ℕ)
    → Hosted stands hosts (land_whole m c w)
whole_hosted stands hosts w h m c = go (flight_at w m c)
  where
    go : (o : Option Course) → Hosted stands hosts (option_map_or (λ (f : Course). change_machine m (change_call c (fated Landed)) (add_landing m f.call true (write_bytes w f.call) w)) o w)
    go None = h
    go (Some f) = landed_hosted stands hosts w h m c f.call true (write_bytes w f.call) Landed

torn_hosted : {D : Type 0} (stands : D → Setting → Trace → Type 0) (hosts : List (Option D)) (w : World) → Hosted stands hosts w → (m c n : ℕ) (bytes : List ℕ)
    → Hosted stands hosts (land_torn m c n bytes w)
torn_hosted stands hosts w h m c n bytes = go (flight_at w m c)
  where
    go : (o : Option Course) → Hosted stands hosts (option_map_or (λ (f : Course). change_machine m (change_call c (fated Torn)) (add_landing m f.call false (torn_bytes w f.call n bytes) w)) o w)
    go None = h
    go (Some f) = landed_hosted stands hosts w h m c f.call false (torn_bytes w f.call n bytes) Torn

done_hosted : {D : Type 0} (stands : D → Setting → Trace → Type 0) (hosts : List (Option D)) (w : World) → Hosted stands hosts w → (m c : ℕ) → Hosted stands hosts (complete m c w)
done_hosted stands hosts w h m c = go (flight_at w m c)
  where
    flies : (b : Bool) → Hosted stands hosts (elim b as (λ z. World) [ true ↦ land_whole m c w | false ↦ w ])
    flies true = whole_hosted stands hosts w h m c
    flies false = h

    writes : (f : Course) (b : Bool) → Hosted stands hosts (elim b as (λ z. World) [
      | false ↦ change_machine m (change_call c (sampled_more w (sectors_left f))) w
      | true ↦ elim (is_in_flight f.fate) as (λ z. World) [ true ↦ land_whole m c w | false ↦ w ]
    ])
    writes f false = same_hosted stands hosts w h m (change_call c (sampled_more w (sectors_left f))) (λ a. record { daemon = refl; ended = refl })
    writes f true = flies (is_in_flight f.fate)

    go : (o : Option Course) → Hosted stands hosts (elim o as (λ z. World) [
      | None ↦ w
      | Some f ↦ elim (is_write_course f) as (λ z. World) [
        | false ↦ change_machine m (change_call c (sampled_more w (sectors_left f))) w
        | true ↦ elim (is_in_flight f.fate) as (λ z. World) [ true ↦ land_whole m c w | false ↦ w ]
      ]
    ])
    go None = h
    go (Some f) = writes f (is_write_course f)

-- An event that begins and ends no daemon.
pub first_hosted : {D : Type 0} (stands : D → Setting → Trace → Type 0) (hosts : List (Option D)) (w : World) → Hosted stands hosts w → (e : Event) → begins_or_ends e ≡ false
    → Hosted stands hosts (next_step (first_change e w))
unfolding first_change
first_hosted stands hosts w h (Pass d gs) others = next_hosted stands hosts _ (passed_hosted stands hosts w h d gs)
first_hosted stands hosts w h (Sample m c k) others =
    next_hosted stands hosts _ (same_hosted stands hosts w h m (change_call c (sampled_more w k)) (λ a. record { daemon = refl; ended = refl }))
first_hosted stands hosts w h (Land m c) others = next_hosted stands hosts _ (whole_hosted stands hosts w h m c)
first_hosted stands hosts w h (Tear m c n bytes) others = next_hosted stands hosts _ (torn_hosted stands hosts w h m c n bytes)
first_hosted stands hosts w h (Do m c) others = next_hosted stands hosts _ (done_hosted stands hosts w h m c)
first_hosted stands hosts w h (DropWrite m c) others =
    next_hosted stands hosts _ (same_hosted stands hosts w h m (change_call c (fated Dropped)) (λ a. record { daemon = refl; ended = refl }))
first_hosted stands hosts w h (Test m) others = next_hosted stands hosts _ (same_hosted stands hosts w h m (after_test w) (λ a. record { daemon = refl; ended = refl }))
first_hosted stands hosts w h (Restart m) others = next_hosted stands hosts _ (same_hosted stands hosts w h m (after_restart w) (λ a. record { daemon = refl; ended = refl }))
first_hosted stands hosts w h (StartDaemon m name) others = absurd (true_is_false others)
first_hosted stands hosts w h (Crash m) others = absurd (true_is_false others)
first_hosted stands hosts w h (Reset m) others = absurd (true_is_false others)
first_hosted stands hosts w h e others = next_hosted stands hosts w h

-- What a machine does itself.
pub own_hosted : {D : Type 0} (stands : D → Setting → Trace → Type 0) (hosts : List (Option D)) (v : World) → Hosted stands hosts v → (m : ℕ) (fx : Effects)
    → Hosted stands hosts (take_step m None fx v)
own_hosted stands hosts v h m fx =
    next_hosted stands hosts _ (same_hosted stands hosts v h m (λ a. after_effects (stamp_now v a) fx a) (λ a. record { daemon = refl; ended = refl }))

-- ---- ends

stood_here : {D : Type 0} (stands : D → Setting → Trace → Type 0) (hosts : List (Option D)) (w : World) → Hosted stands hosts w → (m : ℕ) (a : Machine) → machine_at w m ≡ Some a
    → (d : Daemon) → Contains (daemons_on a) d → Stood stands d.setting d.trace
stood_here stands hosts w h m a at d inside = h.stood (m - 1) a d (machine_place w m a at) inside

pub crashed_hosted : {D : Type 0} (stands : D → Setting → Trace → Type 0) (hosts : List (Option D)) (w : World) → Hosted stands hosts w → (m : ℕ) (a : Machine)
    → machine_at w m ≡ Some a → Hosted stands (slice_set hosts (m - 1) None) (next_step (first_change (Crash m) w))
unfolding first_change
crashed_hosted stands hosts w h m a at =
    next_hosted stands _ _ (changed_hosted stands hosts w h m a at after_crash None tt (λ d inside. stood_here stands hosts w h m a at d inside))

pub reset_hosted : {D : Type 0} (stands : D → Setting → Trace → Type 0) (hosts : List (Option D)) (w : World) → Hosted stands hosts w → (m : ℕ) (a : Machine)
    → machine_at w m ≡ Some a → Hosted stands (slice_set hosts (m - 1) None) (next_step (first_change (Reset m) w))
unfolding first_change
reset_hosted stands hosts w h m a at =
    next_hosted stands _ _ (changed_hosted stands hosts w h m a at (after_reset w) None tt (λ d inside. stood_here stands hosts w h m a at d inside))

-- ---- beginnings

abbrev pub new_setting : World → ℕ → List ℕ → Machine → Setting
new_setting w m name a = setting_of w.program w.layout w.header m name (next_numbers a) []

pub started_hosted : {D : Type 0} (stands : D → Setting → Trace → Type 0) (hosts : List (Option D)) (w : World) → Hosted stands hosts w → (m : ℕ) (name : List ℕ) (a : Machine)
    → machine_at w m ≡ Some a → a.daemon ≡ None → (host : D) → stands host (new_setting w m name a) [] → Stood stands (new_setting w m name a) []
    → Hosted stands (slice_set hosts (m - 1) (Some host)) (next_step (first_change (StartDaemon m name) w))
unfolding first_change
started_hosted stands hosts w h m name a at none host begun stood =
    next_hosted stands _ _ (changed_hosted stands hosts w h m a at (after_start w m name) (Some host) begun each)
  where
    new : Daemon
    new = new_daemon (length (daemons_on a)) (new_setting w m name a) (stamp_now w a)

    each : (d : Daemon) → Contains (new ∷ a.ended) d → Stood stands d.setting d.trace
    each d inside = elim (contains_cases new a.ended d inside) [
      | inl same ↦ subst (λ (x : Daemon). Stood stands x.setting x.trace) same stood
      | inr older ↦ stood_here stands hosts w h m a at d
          (subst (λ (ds : List Daemon). Contains ds d) (sym (ap (λ (o : Option Daemon). elim o as (λ x. List Daemon) [ None ↦ a.ended | Some x ↦ x ∷ a.ended ]) none)) older)
    ]
