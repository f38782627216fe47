-- What lands in an event lands now.
use Rattle.sl_run_law.proofs.Moment.AddedNow.{Between, moved, steps_by_one}
use Rattle.sl_words.proofs.Lists.{contains_cases}
use Rattle.sl_run.specs.EventChanges.{add_landing, after_crash, after_reset, after_restart, after_start, after_test, change_call, fated, first_change, flight_at, happens, land_whole, next_input, next_step, sampled_more, take_step, take_steps, write_bytes}
use Rattle.sl_run.specs.Inputs.{machine_of}
use Rattle.sl_run.specs.Refusals.{sectors_left}
use Rattle.sl_run.specs.Premises.{torn_bytes}
use Rattle.sl_run.specs.Worlds.{Course, Dropped, Landed, Landing, Machine, Torn, World, change_machine, is_in_flight, is_write_course}
use Rattle.sl_run.specs.declared.event.Event.TheVariants.{AnswerCall, Crash, Do, DropWrite, ExitOf, GiveAsk, GiveCommand, GiveLvm, Land, Pass, Reset, Restart, Sample, SpawnedOf, StartDaemon, Tear, Test, WakeUp}
use Rattle.sl_run.specs.declared.event.Event.{Event}
use Rattle.sl_run_law.proofs.WorldsGoOn.{event_goes}
use Rattle.sl_run_law.specs.WorldsGoOn.{time_of}
use Rattle.sl_trace.specs.declared.effects.Call.{Call}
use Rattle.sl_trace.specs.declared.effects.Effects.{Effects}
use Rattle.std.proofs.Common.{arith, inl, inr, refl, subst, ◌∙◌}
use Rattle.std.specs.Option.{option_map_or}
use Rattle.std.specs.Prelude.{Bool, Contains, List, None, Option, Some, false, length, true, [], ℕ, ◌++◌, ◌+◌, ◌∷◌, ◌≡◌, ◌⊎◌}

-- Each landing is an old one, or new.
abbrev pub Lands : (ℕ → ℕ → Type 0) → World → World → Type 0
Lands N w v = (l : Landing) → Contains v.landings l → Contains w.landings l ⊎ N l.step l.moment

nothing_lands : (N : ℕ → ℕ → Type 0) (w : World) → Lands N w w
nothing_lands N w l h = inl h

-- A change of one machine, after a landing or not.
moves_none : (N : ℕ → ℕ → Type 0) (m : ℕ) (f : Machine → Machine) (w v : World) → Lands N w v → Lands N w (change_machine m f v)
moves_none N m f w v h l k = h l (subst (λ ls. Contains ls l) (moved m f v).2 k)

turns : (N : ℕ → ℕ → Type 0) (m : ℕ) (f : Machine → Machine) (w : World) → Lands N w (change_machine m f w)
turns N m f w = moves_none N m f w w (nothing_lands N w)

lands_now : (N : ℕ → ℕ → Type 0) (m : ℕ) (c : Call) (whole : Bool) (bytes : List ℕ) (w : World) → N w.step w.moment → Lands N w (add_landing m c whole bytes w)
lands_now N m c whole bytes w now l h =
    elim (contains_cases _ w.landings l h) as (λ z. Contains w.landings l ⊎ N l.step l.moment) [
      | inl e ↦ inr (subst (λ (x : Landing). N x.step x.moment) e now)
      | inr more ↦ inl more
    ]

whole_by : (N : ℕ → ℕ → Type 0) (m c : ℕ) (w : World) (o : Option Course) → N w.step w.moment
    → Lands N w (option_map_or (λ (f : Course). change_machine m (change_call c (fated Landed)) (add_landing m f.call true (write_bytes w f.call) w)) o w)
whole_by N m c w None now = nothing_lands N w
whole_by N m c w (Some f) now =
    moves_none N m (change_call c (fated Landed)) w (add_landing m f.call true (write_bytes w f.call) w) (lands_now N m f.call true (write_bytes w f.call) w now)

torn_by : (N : ℕ → ℕ → Type 0) (m c k : ℕ) (bytes : List ℕ) (w : World) (o : Option Course) → N w.step w.moment
    → Lands N w (option_map_or (λ (f : Course). change_machine m (change_call c (fated Torn)) (add_landing m f.call false (torn_bytes w f.call k bytes) w)) o w)
torn_by N m c k bytes w None now = nothing_lands N w
torn_by N m c k bytes w (Some f) now =
    moves_none N m (change_call c (fated Torn)) w (add_landing m f.call false (torn_bytes w f.call k bytes) w)
    (lands_now N m f.call false (torn_bytes w f.call k bytes) w now)

if_lands : (N : ℕ → ℕ → Type 0) (m c : ℕ) (w : World) (b : Bool) → N w.step w.moment
    → Lands N w (elim b as (λ x. World) [ true ↦ land_whole m c w | false ↦ w ])
if_lands N m c w true now = whole_by N m c w (flight_at w m c) now
if_lands N m c w false now = nothing_lands N w

completed_by : (N : ℕ → ℕ → Type 0) (m c : ℕ) (w : World) (f : Course) (b : Bool) → N w.step w.moment
    → Lands N w (elim b as (λ x. World) [
      | false ↦ change_machine m (change_call c (sampled_more w (sectors_left f))) w
      | true ↦ elim (is_in_flight f.fate) as (λ x. World) [ true ↦ land_whole m c w | false ↦ w ]
    ])
completed_by N m c w f false now = turns N m (change_call c (sampled_more w (sectors_left f))) w
completed_by N m c w f true now = if_lands N m c w (is_in_flight f.fate) now

completes_by : (N : ℕ → ℕ → Type 0) (m c : ℕ) (w : World) (o : Option Course) → N w.step w.moment
    → Lands N w (elim o as (λ x. World) [
      | None ↦ w
      | Some f ↦ elim (is_write_course f) as (λ x. World) [
        | false ↦ change_machine m (change_call c (sampled_more w (sectors_left f))) w
        | true ↦ elim (is_in_flight f.fate) as (λ x. World) [ true ↦ land_whole m c w | false ↦ w ]
      ]
    ])
completes_by N m c w None now = nothing_lands N w
completes_by N m c w (Some f) now = completed_by N m c w f (is_write_course f) now

first_lands : (N : ℕ → ℕ → Type 0) (e : Event) (w : World) → (time_of e ≡ 0 → N w.step w.moment) → Lands N w (first_change e w)
unfolding first_change
first_lands N (Pass d growths) w now = λ l h. inl h
first_lands N (WakeUp m) w now = nothing_lands N w
first_lands N (GiveCommand m text) w now = nothing_lands N w
first_lands N (GiveLvm m line) w now = nothing_lands N w
first_lands N (GiveAsk m) w now = nothing_lands N w
first_lands N (Sample m c k) w now = turns N m (change_call c (sampled_more w k)) w
first_lands N (Land m c) w now = whole_by N m c w (flight_at w m c) (now refl)
first_lands N (Tear m c k bytes) w now = torn_by N m c k bytes w (flight_at w m c) (now refl)
first_lands N (AnswerCall m c ok) w now = nothing_lands N w
first_lands N (Do m c) w now = completes_by N m c w (flight_at w m c) (now refl)
first_lands N (DropWrite m c) w now = turns N m (change_call c (fated Dropped)) w
first_lands N (Test m) w now = turns N m (after_test w) w
first_lands N (ExitOf m p) w now = nothing_lands N w
first_lands N (SpawnedOf m p ok) w now = nothing_lands N w
first_lands N (StartDaemon m name) w now = turns N m (after_start w m name) w
first_lands N (Crash m) w now = turns N m after_crash w
first_lands N (Reset m) w now = turns N m (after_reset w) w
first_lands N (Restart m) w now = turns N m (after_restart w) w

-- Nothing lands in a daemon's steps.
steps_land : (w : World) (e : Event) (before fxs : List Effects) (v : World) → (take_steps w e before fxs v).landings ≡ v.landings
steps_land w e before [] v = refl
steps_land w e before (fx ∷ fxs) v =
    let u : World = take_step (machine_of e) (next_input w e before) fx v in
    steps_land w e (before ++ fx ∷ []) fxs u ∙ (steps_by_one (machine_of e) (next_input w e before) fx v).2

-- What lands in an event lands at a step of it, and at the moment after it.
pub event_lands : (w : World) (e : Event) (fxs : List Effects) → let v : World = happens w e fxs in
    Lands (Between w.step v.step v.moment) w v
event_lands w e fxs l h =
    let v : World = happens w e fxs in
    let all = event_goes w e fxs in
    let later : v.step ≡ w.step + (1 + length fxs) = all.step in
    let at : v.moment ≡ w.moment + time_of e = all.moment in
    first_lands (Between w.step v.step v.moment) e w (λ none. (omega arith, omega (arith, later), omega (arith, at, none))) l
    (subst (λ ls. Contains ls l) (steps_land w e [] fxs (next_step (first_change e w))) h)
