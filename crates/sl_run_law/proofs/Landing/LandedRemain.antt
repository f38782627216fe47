-- A write that has landed has its landing.
use Rattle.sl_run_law.proofs.Front.JoinedLists.{contains_right}
use Rattle.sl_run_law.proofs.Landing.OneEvent.{event_goes_on, step_landings, world_first, world_keeps, world_then}
use Rattle.sl_run_law.proofs.Landing.CallsOfStep.{IsMade, came}
use Rattle.sl_run_law.proofs.Landing.CallsBeforeStep.{NewFate, Turn}
use Rattle.sl_run_law.specs.Landing.Landings.{HasLanded, LandedWritesAreThere}
use Rattle.sl_words.proofs.Lists.{contains_first, contains_none}
use Rattle.sl_run.specs.EventChanges.{first_change}
use Rattle.sl_run.specs.Inputs.{input_of, machine_of}
use Rattle.sl_run.specs.Refusals.{may_happen}
use Rattle.sl_run.specs.Safety.{world_at}
use Rattle.sl_run.specs.Worlds.{Course, Dropped, Fate, Landing, Machine, Torn, World, is_landed, machine_at}
use Rattle.sl_run.specs.declared.event.Event.{Event}
use Rattle.sl_run_law.proofs.Beginnings.{begins_new}
use Rattle.sl_trace.specs.declared.effects.Call.{Call}
use Rattle.sl_trace.specs.declared.effects.Effects.{Effects}
use Rattle.sl_words.proofs.CaseLaws.{false_is_true}
use Rattle.std.proofs.Common.{ap, inl, inr, subst, sym, ◌∙◌}
use Rattle.std.specs.Prelude.{Contains, List, Some, true, ℕ, ◌∷◌, ◌≡◌}

abbrev LandedAreThere : World → Type 0
LandedAreThere w = (m : ℕ) (a : Machine) (c : Course) → machine_at w m ≡ Some a → Contains a.calls c → is_landed c.fate ≡ true → HasLanded w m c

-- What landed before the event is there after it.
pub landing_stays : (w : World) (e : Event) (fx : Effects) (l : Landing) → Contains w.landings l → Contains (world_then w e fx).landings l
landing_stays w e fx l h =
    let g = (event_goes_on w e fx).landings in
    subst (λ ls. Contains ls l) (sym g.same) (contains_right g.newer w.landings l h)

-- So what landed first does too.
pub first_stays : (w : World) (e : Event) (fx : Effects) (l : Landing) (ls : List Landing) → (first_change e w).landings ≡ l ∷ ls
    → Contains (world_then w e fx).landings l
first_stays w e fx l ls same =
    subst (λ xs. Contains xs l) (sym (step_landings (machine_of e) (input_of w e) fx (world_first w e) ∙ same)) (contains_first l ls)

same_call : (w : World) (m : ℕ) (c d : Course) → d.call ≡ c.call → HasLanded w m c → HasLanded w m d
same_call w m c d same h = (h.0, h.1, h.2 ∙ ap (λ (x : Call). Some (m, x.number)) (sym same), h.3)

not_landed : (x : Fate) (d : Course) → d.fate ≡ x → is_landed d.fate ≡ true → is_landed x ≡ true
not_landed x d same h = ap is_landed (sym same) ∙ h

new_fate : (w : World) (e : Event) (fx : Effects) (m : ℕ) (a : Machine) (c d : Course) → is_landed d.fate ≡ true → NewFate w e m a c d
    → HasLanded (world_then w e fx) m c
new_fate w e fx m a c d h n =
    elim n.fate as (λ z. HasLanded (world_then w e fx) m c) [
      | inl now ↦ let l = now.1 in (l.landing, first_stays w e fx l.landing w.landings l.same, l.writer, l.whole)
      | inr other ↦ elim other as (λ z. HasLanded (world_then w e fx) m c) [
        | inl torn ↦ absurd (false_is_true (not_landed Torn d torn h))
        | inr dropped ↦ absurd (false_is_true (not_landed Dropped d dropped.0 h))
      ]
    ]

turned : (w : World) (e : Event) (fx : Effects) (m : ℕ) (a : Machine) (c d : Course) → LandedAreThere w → machine_at w m ≡ Some a → Contains a.calls c
    → Turn w e m a c d → is_landed d.fate ≡ true → HasLanded (world_then w e fx) m d
turned w e fx m a c d so at has t h =
    same_call (world_then w e fx) m c d t.call (elim t.fate as (λ z. HasLanded (world_then w e fx) m c) [
      | inl same ↦ let l = so m a c at has (ap is_landed (sym same) ∙ h) in (l.0, landing_stays w e fx l.0 l.1, l.2, l.3)
      | inr new ↦ new_fate w e fx m a c d h new
    ])

not_made : (v : World) (m : ℕ) (fx : Effects) (n : ℕ) (a : Machine) (d : Course) → IsMade v m fx n a d → is_landed d.fate ≡ true → ⊥
not_made v m fx n a d made h = false_is_true (ap (λ (c : Course). is_landed c.fate) made.is ∙ h)

remain : (w : World) (e : Event) (fx : Effects) → may_happen w e ≡ true → LandedAreThere w → LandedAreThere (world_then w e fx)
remain w e fx may so m b d at has h =
    let from = came w e fx m b may at in
    let p = from.passage in
    elim (p.stepped.back d has) as (λ z. HasLanded (world_then w e fx) m d) [
      | inl s ↦
          let t = p.turned.back s.0 s.1 in
          same_call (world_then w e fx) m s.0 d s.2.call
          (turned w e fx m from.before t.0 s.0 so from.at t.1 t.2 (ap is_landed (sym s.2.fate) ∙ h))
      | inr made ↦ absurd (not_made (world_first w e) (machine_of e) fx m p.middle d made h)
    ]

pub landed_are_there : LandedWritesAreThere
landed_are_there p h xs run =
    world_keeps LandedAreThere p h
    (λ m a c at has landed. absurd (contains_none c (subst (λ cs. Contains cs c) (begins_new p h m a at).calls has)))
    (λ now x law l so. remain (world_at p h now) x.0 l.effects l.may so) xs run
