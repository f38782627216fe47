-- Each call was made before now, and of distinct calls only those in flight get a fate.
use Rattle.sl_run_law.proofs.Landing.CallLists.{one_call}
use Rattle.sl_run_law.proofs.Landing.OneEvent.{IsLater, event_goes_on, event_later, world_first, world_keeps, world_then}
use Rattle.sl_run_law.proofs.Landing.CallsOfStep.{IsMade, came}
use Rattle.sl_run_law.proofs.Landing.CallsBeforeStep.{Turn}
use Rattle.sl_words.proofs.Lists.{contains_none, find_inside}
use Rattle.sl_run.specs.EventChanges.{happens}
use Rattle.sl_run.specs.Inputs.{machine_of}
use Rattle.sl_run.specs.Refusals.{may_happen}
use Rattle.sl_run.specs.Runs.{Happening, world_after}
use Rattle.sl_run.specs.Safety.{LawfulRun, world_at}
use Rattle.sl_run.specs.Worlds.{Course, Machine, Program, World, flight_of, is_in_flight, is_open, machine_at}
use Rattle.sl_run.specs.declared.event.Event.{Event}
use Rattle.sl_run.specs.declared.header.Header.{Header}
use Rattle.sl_run_law.proofs.Beginnings.{begins_new}
use Rattle.sl_run_law.proofs.WorldsGoOn.{first_goes}
use Rattle.sl_run_law.specs.FatesStay.{AreDistinct, DistinctAlong, EachDistinct}
use Rattle.sl_trace.specs.declared.effects.Effects.{Effects}
use Rattle.sl_words.proofs.CaseLaws.{not_both}
use Rattle.sl_words.proofs.WordLaws.{and_true}
use Rattle.std.proofs.Common.{ap, arith, inl, inr, subst, sym, ◌∙◌}
use Rattle.std.specs.Prelude.{Contains, List, Some, false, true, [], ℕ, ◌&&◌, ◌++◌, ◌<◌, ◌==◌, ◌∷◌, ◌≡◌, ◌≤◌}

-- ---- before now

abbrev pub IsBefore : World → Course → Type 0
IsBefore w c = (c.made.step < w.step) × (c.made.moment ≤ w.moment)

abbrev pub AreBefore : World → Type 0
AreBefore w = (m : ℕ) (a : Machine) (c : Course) → machine_at w m ≡ Some a → Contains a.calls c → IsBefore w c

-- The daemon's step goes on from the event's first change.
pub step_later : (w : World) (e : Event) (fx : Effects) → IsLater (world_first w e) (world_then w e fx)
step_later w e fx =
    let g = event_goes_on w e fx in
    let f = first_goes e w in
    record { step = omega (arith, g.step, f.step); moment = omega (arith, g.moment, f.moment); layout = g.layout ∙ sym f.layout }

still_before : (w u : World) (c d : Course) → IsLater w u → d.made ≡ c.made → IsBefore w c → IsBefore u d
still_before w u c d later same b = subst (λ s. (s.step < u.step) × (s.moment ≤ u.moment)) (sym same) (omega (arith, b.0, later.step), omega (arith, b.1, later.moment))

made_before : (v u : World) (m : ℕ) (fx : Effects) (n : ℕ) (a : Machine) (d : Course) → IsLater v u → IsMade v m fx n a d → IsBefore u d
made_before v u m fx n a d later made = subst (IsBefore u) made.is (later.step, later.moment)

before_on : (w : World) (e : Event) (fx : Effects) → may_happen w e ≡ true → AreBefore w → AreBefore (world_then w e fx)
before_on w e fx may so m b d at has =
    let from = came w e fx m b may at in
    let p = from.passage in
    elim (p.stepped.back d has) as (λ z. IsBefore (world_then w e fx) d) [
      | inl s ↦
          let t = p.turned.back s.0 s.1 in
          still_before w (world_then w e fx) t.0 d (event_later w e fx) (s.2.made ∙ t.2.made) (so m from.before t.0 from.at t.1)
      | inr made ↦ made_before (world_first w e) (world_then w e fx) (machine_of e) fx m p.middle d (step_later w e fx) made
    ]

pub run_made_before : (p : Program) (h : Header) (xs : List Happening) → LawfulRun p h xs → AreBefore (world_at p h xs)
run_made_before p h xs run =
    world_keeps AreBefore p h
    (λ m a c at has. absurd (contains_none c (subst (λ cs. Contains cs c) (begins_new p h m a at).calls has)))
    (λ now x law l so. before_on (world_at p h now) x.0 l.effects l.may so) xs run

-- ---- distinct calls

pub distinct_at : (w : World) (now : List Happening) (x : Happening) → DistinctAlong w (now ++ x ∷ []) → EachDistinct (world_after w now)
distinct_at w [] x along = along.0
distinct_at w (y ∷ now) x along = distinct_at (happens w y.0 y.1) now x along.1

-- The call in flight is the one that has its number.
pub the_flight : (a : Machine) (c f : Course) → AreDistinct a.calls → Contains a.calls c → flight_of a c.call.number ≡ Some f → c ≡ f
the_flight a c f d has flies =
    let p = find_inside (λ x. x.call.number == c.call.number && is_open a x) a.calls f flies in
    sym (one_call a.calls f c d p.0 has (and_true (f.call.number == c.call.number) (is_open a f) p.1).0)

-- What has a fate keeps it.
pub fate_kept : (w : World) (e : Event) (m : ℕ) (a : Machine) (c d : Course) → AreDistinct a.calls → Contains a.calls c → is_in_flight c.fate ≡ false
    → Turn w e m a c d → d.fate ≡ c.fate
fate_kept w e m a c d distinct has settled t =
    elim t.fate as (λ z. d.fate ≡ c.fate) [
      | inl same ↦ same
      | inr new ↦ absurd (not_both (is_in_flight c.fate)
          (ap (λ (x : Course). is_in_flight x.fate) (the_flight a c new.flight distinct has new.flies) ∙ new.waits) settled)
    ]
