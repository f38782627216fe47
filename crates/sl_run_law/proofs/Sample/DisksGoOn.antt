-- What each event leaves of the disks: at most one landing comes, now.
use Rattle.sl_run_law.proofs.Course.Daemons.{every_each}
use Rattle.sl_words.proofs.Numbers.{at_least_first, refl_le, trans_le}
use Rattle.sl_run.specs.EventChanges.{add_landing, after_crash, after_effects, after_pass, after_reset, after_restart, after_start, after_step, after_test, change_call, fated, first_change, flight_at, land_whole, next_step, sampled_more, take_step, write_bytes}
use Rattle.sl_run.specs.Refusals.{sectors_left}
use Rattle.sl_run.specs.Premises.{torn_bytes}
use Rattle.sl_run.specs.Worlds.{Course, Dropped, Landed, Landing, Machine, Torn, World, change_machine, is_in_flight, is_write_course, machine_at, stamp_now}
use Rattle.sl_run.specs.declared.event.Event.TheVariants.{AnswerCall, Crash, Do, DropWrite, ExitOf, GiveAsk, GiveCommand, GiveLvm, Land, Pass, Reset, Restart, Sample, SpawnedOf, StartDaemon, Tear, Test, WakeUp}
use Rattle.sl_run.specs.declared.event.Event.{Event}
use Rattle.sl_run_law.specs.FatesStay.{Every}
use Rattle.sl_run_law.proofs.Sample.LandingNumbers.{every_front}
use Rattle.sl_run_law.proofs.Sample.ReadsSampleMore.{HasLandings}
use Rattle.sl_run_law.proofs.Sample.SamplesSee.{IsBetween, Onward}
use Rattle.sl_trace.specs.declared.effects.Call.{Call}
use Rattle.sl_trace.specs.declared.effects.Effects.{Effects}
use Rattle.sl_trace.specs.declared.input.Input.{Input}
use Rattle.std.proofs.Common.{ap, arith, refl, subst, sym, ◌∙◌}
use Rattle.std.proofs.lemmas.List.{append_assoc}
use Rattle.std.specs.Option.{option_map_or}
use Rattle.std.specs.Prelude.{Bool, List, None, Option, Some, false, slice_set, true, [], ℕ, ◌++◌, ◌+◌, ◌-◌, ◌<◌, ◌∷◌, ◌≡◌, ◌≤◌}

-- ---- one change after another

-- A world with the same disks, later or not.
pub no_landing : (w v : World) → v.header ≡ w.header → v.layout ≡ w.layout → w.step ≤ v.step → w.moment ≤ v.moment → v.landings ≡ w.landings → Onward w v
no_landing w v header layout step moment landings =
    record { header = header; layout = layout; step = step; moment = moment; newer = []; landings = landings; each = tt }

pub onward_still : (w : World) → Onward w w
onward_still w = no_landing w w refl refl (refl_le w.step) (refl_le w.moment) refl

between_longer : (w v u : World) (l : Landing) → Onward v u → IsBetween w v l → IsBetween w u l
between_longer w v u l o b = record { after = b.after; before = (trans_le l.step v.step u.step b.before.0 o.step, trans_le l.moment v.moment u.moment b.before.1 o.moment) }

between_sooner : (w v u : World) (l : Landing) → Onward w v → IsBetween v u l → IsBetween w u l
between_sooner w v u l o b = record { after = (trans_le w.step v.step l.step o.step b.after.0, trans_le w.moment v.moment l.moment o.moment b.after.1); before = b.before }

pub onward_again : (w v u : World) → Onward w v → Onward v u → Onward w u
onward_again w v u g h =
    record {
      header = h.header ∙ g.header;
      layout = h.layout ∙ g.layout;
      step = trans_le w.step v.step u.step g.step h.step;
      moment = trans_le w.moment v.moment u.moment g.moment h.moment;
      newer = h.newer ++ g.newer;
      landings = h.landings ∙ ap (λ ls. h.newer ++ ls) g.landings ∙ sym (append_assoc h.newer g.newer w.landings);
      each = every_front (IsBetween w u) h.newer g.newer
          (every_each (IsBetween v u) (IsBetween w u) h.newer (λ l b. between_sooner w v u l g b) h.each)
          (every_each (IsBetween w v) (IsBetween w u) g.newer (λ l b. between_longer w v u l h b) g.each);
    }

changed_by : (m : ℕ) (f : Machine → Machine) (w : World) (o : Option Machine)
    → Onward w (elim o as (λ x. World) [ None ↦ w | Some a ↦ record w { machines = slice_set w.machines (m - 1) (f a) } ])
changed_by m f w None = onward_still w
changed_by m f w (Some a) = no_landing w (record w { machines = slice_set w.machines (m - 1) (f a) }) refl refl (refl_le w.step) (refl_le w.moment) refl

pub onward_changed : (m : ℕ) (f : Machine → Machine) (w : World) → Onward w (change_machine m f w)
onward_changed m f w = changed_by m f w (machine_at w m)

pub onward_stepped : (w : World) → Onward w (next_step w)
onward_stepped w = no_landing w (next_step w) refl refl (at_least_first w.step 1) (refl_le w.moment) refl

landed : (m : ℕ) (c : Call) (whole : Bool) (bytes : List ℕ) (w : World) → Onward w (add_landing m c whole bytes w)
landed m c whole bytes w =
    record {
      header = refl;
      layout = refl;
      step = refl_le w.step;
      moment = refl_le w.moment;
      newer = record { path = c.path; offset = c.offset; bytes = bytes; whole = whole; writer = Some (m, c.number); step = w.step; moment = w.moment } ∷ [];
      landings = refl;
      each = (record { after = (refl_le w.step, refl_le w.moment); before = (refl_le w.step, refl_le w.moment) }, tt);
    }

-- ---- before the daemon

time_passes : (d : ℕ) (growths : Option (List ℕ)) (w : World) → Onward w (after_pass d growths w)
time_passes d growths w = no_landing w (after_pass d growths w) refl refl (refl_le w.step) (at_least_first w.moment d) refl

lands_so : (m : ℕ) (c : Call) (whole : Bool) (bytes : List ℕ) (f : Machine → Machine) (w : World) → Onward w (change_machine m f (add_landing m c whole bytes w))
lands_so m c whole bytes f w =
    let v : World = add_landing m c whole bytes w in
    onward_again w v (change_machine m f v) (landed m c whole bytes w) (onward_changed m f v)

whole_by : (m c : ℕ) (w : World) (o : Option Course)
    → Onward w (option_map_or (λ (f : Course). change_machine m (change_call c (fated Landed)) (add_landing m f.call true (write_bytes w f.call) w)) o w)
whole_by m c w None = onward_still w
whole_by m c w (Some f) = lands_so m f.call true (write_bytes w f.call) (change_call c (fated Landed)) w

lands : (m c : ℕ) (w : World) → Onward w (land_whole m c w)
lands m c w = whole_by m c w (flight_at w m c)

torn_by : (m c k : ℕ) (bytes : List ℕ) (w : World) (o : Option Course)
    → Onward w (option_map_or (λ (f : Course). change_machine m (change_call c (fated Torn)) (add_landing m f.call false (torn_bytes w f.call k bytes) w)) o w)
torn_by m c k bytes w None = onward_still w
torn_by m c k bytes w (Some f) = lands_so m f.call false (torn_bytes w f.call k bytes) (change_call c (fated Torn)) w

if_lands : (m c : ℕ) (w : World) (b : Bool) → Onward w (elim b as (λ x. World) [ true ↦ land_whole m c w | false ↦ w ])
if_lands m c w true = lands m c w
if_lands m c w false = onward_still w

completed_by : (m c : ℕ) (w : World) (f : Course) (b : Bool)
    → Onward w (elim b as (λ x. World) [
      | false ↦ change_machine m (change_call c (sampled_more w (sectors_left f))) w
      | true ↦ elim (is_in_flight f.fate) as (λ x. World) [ true ↦ land_whole m c w | false ↦ w ]
    ])
completed_by m c w f false = onward_changed m (change_call c (sampled_more w (sectors_left f))) w
completed_by m c w f true = if_lands m c w (is_in_flight f.fate)

completes_by : (m c : ℕ) (w : World) (o : Option Course)
    → Onward w (elim o as (λ x. World) [
      | None ↦ w
      | Some f ↦ elim (is_write_course f) as (λ x. World) [
        | false ↦ change_machine m (change_call c (sampled_more w (sectors_left f))) w
        | true ↦ elim (is_in_flight f.fate) as (λ x. World) [ true ↦ land_whole m c w | false ↦ w ]
      ]
    ])
completes_by m c w None = onward_still w
completes_by m c w (Some f) = completed_by m c w f (is_write_course f)

-- An event goes on, up to the daemon's step.
pub first_onward : (e : Event) (w : World) → Onward w (first_change e w)
unfolding first_change
first_onward (Pass d growths) w = time_passes d growths w
first_onward (WakeUp m) w = onward_still w
first_onward (GiveCommand m text) w = onward_still w
first_onward (GiveLvm m line) w = onward_still w
first_onward (GiveAsk m) w = onward_still w
first_onward (Sample m c k) w = onward_changed m (change_call c (sampled_more w k)) w
first_onward (Land m c) w = lands m c w
first_onward (Tear m c k bytes) w = torn_by m c k bytes w (flight_at w m c)
first_onward (AnswerCall m c ok) w = onward_still w
first_onward (Do m c) w = completes_by m c w (flight_at w m c)
first_onward (DropWrite m c) w = onward_changed m (change_call c (fated Dropped)) w
first_onward (Test m) w = onward_changed m (after_test w) w
first_onward (ExitOf m p) w = onward_still w
first_onward (SpawnedOf m p ok) w = onward_still w
first_onward (StartDaemon m name) w = onward_changed m (after_start w m name) w
first_onward (Crash m) w = onward_changed m after_crash w
first_onward (Reset m) w = onward_changed m (after_reset w) w
first_onward (Restart m) w = onward_changed m (after_restart w) w

-- ---- what has landed

old_past : (w v : World) (l : Landing) → Onward w v → (l.step < w.step) × (l.moment ≤ w.moment) → (l.step < v.step + 1) × (l.moment ≤ v.moment)
old_past w v l o h = (omega (arith, h.0, o.step), omega (arith, h.1, o.moment))

new_past : (w v : World) (l : Landing) → IsBetween w v l → (l.step < v.step + 1) × (l.moment ≤ v.moment)
new_past w v l b = (omega (arith, b.before.0), b.before.1)

later_begun : (a b : ℕ) → 0 < a → a ≤ b → 0 < b + 1
later_begun a b h k = omega (arith, h, k)

-- Once its step is over, all that landed in it is past.
pub landings_over : (w v : World) → Onward w v → HasLandings w → HasLandings (next_step v)
landings_over w v o h =
    let P : Landing → Type 0 = λ l. (l.step < v.step + 1) × (l.moment ≤ v.moment) in
    record {
      begun = later_begun w.step v.step h.begun o.step;
      landed = subst (Every P) (sym o.landings) (every_front P o.newer w.landings
          (every_each (IsBetween w v) P o.newer (λ l b. new_past w v l b) o.each)
          (every_each (λ l. (l.step < w.step) × (l.moment ≤ w.moment)) P w.landings (λ l b. old_past w v l o b) h.landed));
    }

-- ---- the daemon's step

-- The world after a step.
pub record StepOver (v u : World) : Type 0 where
  pub onward : Onward v u
  pub later : v.step < u.step
  pub landings : HasLandings v → HasLandings u

over : (v u : World) → Onward v u → StepOver v (next_step u)
over v u o = record { onward = onward_again v u (next_step u) o (onward_stepped u); later = omega (arith, o.step); landings = landings_over v u o }

pub step_over : (m : ℕ) (o : Option Input) (fx : Effects) (v : World) → StepOver v (take_step m o fx v)
step_over m None fx v =
    let f : Machine → Machine = λ a. after_effects (stamp_now v a) fx a in
    over v (change_machine m f v) (onward_changed m f v)
step_over m (Some i) fx v =
    let f : Machine → Machine = λ a. after_step (stamp_now v a) i fx a in
    over v (change_machine m f v) (onward_changed m f v)
