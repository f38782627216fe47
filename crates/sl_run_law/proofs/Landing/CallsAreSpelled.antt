-- Each call of a machine that writes, writes a record: the law of its daemon's trace says so of the entry that makes it.
use Rattle.sl_run_law.proofs.Course.CallsAreDistinct.{running_has}
use Rattle.sl_run_law.proofs.Front.JoinedLists.{in_flat}
use Rattle.sl_run_law.proofs.Landing.OneEvent.{world_first, world_keeps, world_then}
use Rattle.sl_run_law.proofs.Landing.InputNeedsDaemon.{HasEntry, has_entry, own_makes_none}
use Rattle.sl_run_law.proofs.Landing.CallsOfStep.{IsMade, came}
use Rattle.sl_run.specs.Lawful.{Orderly}
use Rattle.sl_words.proofs.Lists.{contains_none, got_inside}
use Rattle.sl_run.specs.Inputs.{input_of, machine_of}
use Rattle.sl_run.specs.Refusals.{may_happen}
use Rattle.sl_run.specs.EventChanges.{with_entry}
use Rattle.sl_run.specs.Runs.{EachDaemon, Happening, own_effects_of}
use Rattle.sl_run.specs.Safety.{LawfulRun, world_at}
use Rattle.sl_run.specs.Worlds.{Course, Daemon, Machine, Program, World, daemons_on, machine_at}
use Rattle.sl_run.specs.declared.event.Event.{Event}
use Rattle.sl_run.specs.declared.header.Header.{Header}
use Rattle.sl_run_law.proofs.Beginnings.{begins_new}
use Rattle.sl_run_law.proofs.MachineWalk.{index}
use Rattle.sl_sector.specs.Records.{IsRecord}
use Rattle.sl_sector.specs.declared.sector.Rec.{Rec}
use Rattle.sl_trace.specs.Traces.{record_of}
use Rattle.sl_trace.specs.declared.effects.Call.{Call}
use Rattle.sl_trace.specs.declared.effects.Effects.{Effects}
use Rattle.sl_trace.specs.declared.input.Input.{Input}
use Rattle.std.proofs.Common.{ap, inl, inr, refl, subst, sym, ◌∙◌}
use Rattle.std.specs.Prelude.{Contains, List, None, Option, Some, true, ℕ, ◌-◌, ◌≡◌}

-- What the call writes is a record.
abbrev pub IsSpelled : Call → Type 0
IsSpelled c = (r : Rec) → record_of c.op ≡ Some r → IsRecord r

abbrev pub CallsAreSpelled : World → Type 0
CallsAreSpelled w = (m : ℕ) (a : Machine) (c : Course) → machine_at w m ≡ Some a → Contains a.calls c → IsSpelled c.call

-- ---- new calls

lawful_at : (u : World) (m : ℕ) (a : Machine) (d : Daemon) → EachDaemon Orderly u → machine_at u m ≡ Some a → a.daemon ≡ Some d → Orderly d.setting d.trace
lawful_at u m a d each at runs =
    each d (in_flat daemons_on u.machines a d (got_inside u.machines (m - 1) a (index u m a at).1) (running_has a d runs))

by_entry : (w : World) (e : Event) (fx : Effects) (i : Input) (h : HasEntry w e fx i) → EachDaemon Orderly (world_then w e fx)
    → (c : Call) → Contains fx.calls c → IsSpelled c
by_entry w e fx i h each c has r writes =
    let law = lawful_at (world_then w e fx) (machine_of e) h.machine (with_entry h.entry h.now h.daemon) each h.at h.runs in
    law.calls.0.spelled c r (subst (λ (x : Effects). Contains x.calls c) (sym h.effects) has) writes

new_spelled : (w : World) (e : Event) (fx : Effects) (a : Machine) (o : Option Input) → may_happen w e ≡ true → machine_at w (machine_of e) ≡ Some a
    → input_of w e ≡ o → (input_of w e ≡ None → fx ≡ own_effects_of w e) → EachDaemon Orderly (world_then w e fx) → (c : Call) → Contains fx.calls c → IsSpelled c
new_spelled w e fx a None may at is own each c has =
    absurd (contains_none c (subst (λ cs. Contains cs c) (ap (λ (x : Effects). x.calls) (own is) ∙ own_makes_none w e) has))
new_spelled w e fx a (Some i) may at is own each c has = by_entry w e fx i (has_entry w e fx i a may at is) each c has

-- ---- all calls

made_spelled : (w v : World) (e : Event) (fx : Effects) (n : ℕ) (a x : Machine) (d : Course) → may_happen w e ≡ true → machine_at w n ≡ Some a
    → (input_of w e ≡ None → fx ≡ own_effects_of w e) → EachDaemon Orderly (world_then w e fx) → IsMade v (machine_of e) fx n x d → IsSpelled d.call
made_spelled w v e fx n a x d may at own each made =
    subst (λ (y : Course). IsSpelled y.call) made.is
    (new_spelled w e fx a (input_of w e) may (ap (λ k. machine_at w k) (sym made.here) ∙ at) refl own each made.call made.has)

spelled_on : (w : World) (e : Event) (fx : Effects) → may_happen w e ≡ true → (input_of w e ≡ None → fx ≡ own_effects_of w e) → EachDaemon Orderly (world_then w e fx)
    → CallsAreSpelled w → CallsAreSpelled (world_then w e fx)
spelled_on w e fx may own each so m b d at has =
    let from = came w e fx m b may at in
    let p = from.passage in
    elim (p.stepped.back d has) as (λ z. IsSpelled d.call) [
      | inl s ↦
          let t = p.turned.back s.0 s.1 in
          subst IsSpelled (sym (s.2.call ∙ t.2.call)) (so m from.before t.0 from.at t.1)
      | inr made ↦ made_spelled w (world_first w e) e fx m from.before p.middle d may from.at own each made
    ]

pub run_spells : (p : Program) (h : Header) (xs : List Happening) → LawfulRun p h xs → CallsAreSpelled (world_at p h xs)
run_spells p h xs run =
    world_keeps CallsAreSpelled p h
    (λ m a c at has. absurd (contains_none c (subst (λ cs. Contains cs c) (begins_new p h m a at).calls has)))
    (λ now x law l so. spelled_on (world_at p h now) x.0 l.effects l.may l.own (subst (EachDaemon Orderly) l.after law.lawful) so) xs run
