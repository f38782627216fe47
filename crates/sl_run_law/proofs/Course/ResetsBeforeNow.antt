-- Each reset of a machine came before now.
use Rattle.sl_area.specs.AreaSizes.{layout_with}
use Rattle.sl_run_law.proofs.Course.Daemons.{every_each}
use Rattle.sl_run_law.proofs.Course.MachinesKeep.{Goes_on, OfMachines, machines_keep}
use Rattle.sl_run_law.proofs.Course.DaemonsOfWorld.{last_step}
use Rattle.sl_run_law.proofs.Course.MachineTurns.{Alone, Began, Called, Came_up, Clocked, Crashed, Elsewhere, Stays, Stepped, Tested, Took, Turned, Went_down}
use Rattle.sl_words.proofs.Numbers.{trans_lt}
use Rattle.sl_run.specs.EventChanges.{after_step, first_change, next_step}
use Rattle.sl_run.specs.Runs.{Happening}
use Rattle.sl_run.specs.Safety.{LawfulRun, world_at}
use Rattle.sl_run.specs.Worlds.{Machine, Program, Stamp, World, machine_of_header, resets_after, stamp_now, world_with}
use Rattle.sl_run.specs.declared.event.Event.{Event}
use Rattle.sl_run.specs.declared.header.Header.{Header}
use Rattle.sl_run_law.specs.FatesStay.{Every}
use Rattle.sl_trace.specs.declared.effects.Effects.{Effects}
use Rattle.sl_trace.specs.declared.input.Input.TheVariants.{Answer as Told, Exit, Line, Number, Spawned, Wake}
use Rattle.sl_trace.specs.declared.input.Input.{Input}
use Rattle.sl_words.specs.Words.{is_empty}
use Rattle.std.proofs.Common.{ap, arith, refl, subst, sym, ◌∙◌}
use Rattle.std.proofs.lemmas.Bool.{lt-ltb}
use Rattle.std.proofs.lemmas.Bool.Decides.{nat_tests}
use Rattle.std.specs.Prelude.{List, false, filter, if◌then◌else◌, nat_lt, [], ℕ, ◌++◌, ◌<◌, ◌∷◌, ◌≡◌}

-- What is kept.
abbrev pub ResetsBefore : World → Machine → Type 0
ResetsBefore w a = Every (λ r. r.step < w.step) a.resets

turned_resets : (w : World) (e : Event) (m : ℕ) (a b : Machine) (Q : Stamp → Type 0) → Q (stamp_now w a) → Turned w e m a b → Every Q a.resets → Every Q b.resets
turned_resets w e m a b Q new (Stays is) h = subst (λ (x : Machine). Every Q x.resets) (sym is) h
turned_resets w e m a b Q new (Clocked n is) h = subst (λ (x : Machine). Every Q x.resets) (sym is) h
turned_resets w e m a b Q new (Called n f g flight keeps is) h = subst (λ (x : Machine). Every Q x.resets) (sym is) h
turned_resets w e m a b Q new (Tested t is) h = subst (λ (x : Machine). Every Q x.resets) (sym is) h
turned_resets w e m a b Q new (Began name event up used fresh is) h = subst (λ (x : Machine). Every Q x.resets) (sym is) h
turned_resets w e m a b Q new (Crashed event is) h = subst (λ (x : Machine). Every Q x.resets) (sym is) h
turned_resets w e m a b Q new (Went_down event up is) h = subst (λ (x : Machine). Every Q x.resets) (sym is) (new, h)
turned_resets w e m a b Q new (Came_up event down is) h = subst (λ (x : Machine). Every Q x.resets) (sym is) h

pub step_resets : (now : Stamp) (i : Input) (fx : Effects) (a : Machine) → (after_step now i fx a).resets ≡ a.resets
step_resets now (Line text) fx a = refl
step_resets now (Number text) fx a = refl
step_resets now (Told n answer) fx a = refl
step_resets now Wake fx a = refl
step_resets now (Exit p) fx a = refl
step_resets now (Spawned p ok) fx a = refl

stepped_resets : (w : World) (e : Event) (fx : Effects) (m : ℕ) (b c : Machine) → Stepped w e fx m b c → c.resets ≡ b.resets
stepped_resets w e fx m b c (Elsewhere is) = ap (λ (x : Machine). x.resets) is
stepped_resets w e fx m b c (Alone none same is) = ap (λ (x : Machine). x.resets) is
stepped_resets w e fx m b c (Took i has same is) = ap (λ (x : Machine). x.resets) is ∙ step_resets (stamp_now (next_step (first_change e w)) b) i fx b

keeps : (p : Program) (h : Header) (now : List Happening) (x : Happening) (m : ℕ) (a c : Machine) → Goes_on p h now x m a c → ResetsBefore (world_at p h now) a
    → ResetsBefore (world_at p h (now ++ x ∷ [])) c
keeps p h now x m a c g was =
    let w : World = world_at p h now in
    let v : World = world_at p h (now ++ x ∷ []) in
    let less : w.step < v.step = last_step p h now x in
    subst (Every (λ (r : Stamp). r.step < v.step)) (sym (stepped_resets w x.0 g.effects m g.becomes.middle c g.becomes.stepped))
    (turned_resets w x.0 m a g.becomes.middle (λ r. r.step < v.step) less g.becomes.turned
    (every_each (λ r. r.step < w.step) (λ r. r.step < v.step) a.resets (λ r k. trans_lt r.step w.step v.step k less) was))

first : (p : Program) (h : Header) (m : ℕ) → ResetsBefore (world_with p h) (machine_of_header p (layout_with p.digest h.geometry) h m)
unfolding machine_of_header
first p h m = tt

pub resets_before : (p : Program) (h : Header) (xs : List Happening) → LawfulRun p h xs → OfMachines (λ w m. ResetsBefore w) (world_at p h xs)
resets_before p h xs run = machines_keep p h (λ w m. ResetsBefore w) (first p h) (keeps p h) xs run

-- ---- resets after a step

not_after : (s r : ℕ) → r < s → nat_lt s r ≡ false
not_after s r h = grind (arith, nat_tests)

none_by : (s : ℕ) (rs : List Stamp) → Every (λ r. r.step < s) rs → filter (λ (r : Stamp). nat_lt s r.step) rs ≡ []
none_by s [] h = refl
none_by s (r ∷ rs) h =
    ap (λ t. if t then r ∷ filter (λ (x : Stamp). nat_lt s x.step) rs else filter (λ (x : Stamp). nat_lt s x.step) rs) (not_after s r.step h.0) ∙ none_by s rs h.1

-- None came after now.
pub none_after : (w : World) (a : Machine) → ResetsBefore w a → resets_after a w.step ≡ []
none_after w a h = none_by w.step a.resets h

-- One that comes now came after all before.
pub one_after : (r : Stamp) (rs : List Stamp) (s : ℕ) → s < r.step → is_empty (filter (λ (x : Stamp). nat_lt s x.step) (r ∷ rs)) ≡ false
one_after r rs s h =
    ap (λ t. is_empty (if t then r ∷ filter (λ (x : Stamp). nat_lt s x.step) rs else filter (λ (x : Stamp). nat_lt s x.step) rs)) (lt-ltb s r.step h)
