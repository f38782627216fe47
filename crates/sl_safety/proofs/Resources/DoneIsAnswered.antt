-- A call that is done has its answer; and steps of calls begin above 0.
use Rattle.sl_run_law.proofs.Front.RunsFromFronts.{IsLast}
use Rattle.sl_run_law.proofs.Landing.OneEvent.{world_first, world_keeps, world_then}
use Rattle.sl_run_law.proofs.Landing.CallsOfStep.{IsMade, Step, came}
use Rattle.sl_run_law.proofs.Landing.CallsBeforeStep.{Turn}
use Rattle.sl_run_law.proofs.Moment.MachinesInOrder.{entries_ordered}
use Rattle.sl_words.proofs.Lists.{contains_first, contains_none}
use Rattle.sl_words.proofs.Numbers.{above_zero}
use Rattle.sl_safety.proofs.Resources.Calls.{IsOwned}
use Rattle.sl_safety.proofs.Resources.StepsNameEntries.{fall_apart}
use Rattle.sl_safety.specs.Resources.SentCalls.{Sent, step_of}
use Rattle.sl_run.specs.Inputs.{input_of, machine_of}
use Rattle.sl_run.specs.Runs.{Happening}
use Rattle.sl_run.specs.Safety.{LawfulRun, world_at}
use Rattle.sl_run.specs.Worlds.{Course, Daemon, Machine, Program, Stamp, World, machine_at, stamp_now}
use Rattle.sl_run.specs.declared.event.Event.{Event}
use Rattle.sl_run.specs.declared.header.Header.{Header}
use Rattle.sl_run_law.proofs.Beginnings.{begins_new}
use Rattle.sl_trace.specs.declared.effects.Effects.{Effects}
use Rattle.sl_run_law.proofs.Watchdog.Stamps.{stamp_there}
use Rattle.sl_words.proofs.CaseLaws.{false_is_true}
use Rattle.std.proofs.Common.{ap, inl, inr, subst, sym, ◌∙◌}
use Rattle.std.specs.Prelude.{Contains, List, Some, [], true, ℕ, ◌<◌, ◌∷◌, ◌≡◌}

abbrev IsClosed : Course → Type 0
IsClosed c = (s : Stamp) × (c.answered ≡ Some s)

abbrev DoneAreClosed : World → Type 0
DoneAreClosed w = (m : ℕ) (a : Machine) (c : Course) → machine_at w m ≡ Some a → Contains a.calls c → c.done ≡ true → IsClosed c

closed_by : (v w : World) (e : Event) (m : ℕ) (a b : Machine) (c x d : Course) → Turn w e m a c x → Step v (machine_of e) (input_of w e) m b x d → (c.done ≡ true → IsClosed c)
    → d.done ≡ true → IsClosed d
closed_by v w e m a b c x d turn step so done =
    elim step.answer as (λ z. IsClosed d) [
      | inl same ↦ let was = so (sym turn.done ∙ sym same.1 ∙ done) in (was.0, same.0 ∙ turn.answered ∙ was.1)
      | inr now ↦ (stamp_now v b, now.answered)
    ]

not_done : (v : World) (m : ℕ) (fx : Effects) (n : ℕ) (a : Machine) (d : Course) → IsMade v m fx n a d → d.done ≡ true → IsClosed d
not_done v m fx n a d made done = absurd (false_is_true (ap (λ (c : Course). c.done) made.is ∙ done))

closed_next : (p : Program) (h : Header) (now : List Happening) (x : Happening) (l : IsLast p h now x) → DoneAreClosed (world_at p h now)
    → DoneAreClosed (world_then (world_at p h now) x.0 l.effects)
closed_next p h now x l so m b d at has done =
    let w : World = world_at p h now in
    let from = came w x.0 l.effects m b l.may at in
    let q = from.passage in
    elim (q.stepped.back d has) as (λ z. IsClosed d) [
      | inl s ↦
          let t = q.turned.back s.0 s.1 in
          closed_by (world_first w x.0) w x.0 m from.before q.middle t.0 s.0 d t.2 s.2 (λ was. so m from.before t.0 from.at t.1 was) done
      | inr made ↦ not_done (world_first w x.0) (machine_of x.0) l.effects m q.middle d made done
    ]

-- What is done was answered.
pub done_closed : (p : Program) (h : Header) (xs : List Happening) → LawfulRun p h xs → DoneAreClosed (world_at p h xs)
done_closed p h xs run =
    world_keeps DoneAreClosed p h (λ m a c at has done. absurd (contains_none c (subst (λ cs. Contains cs c) (begins_new p h m a at).calls has)))
    (λ now x law l so. closed_next p h now x l so) xs run

-- A call was made at a step above 0.
pub made_since : (p : Program) (h : Header) (xs : List Happening) → LawfulRun p h xs → (x : Sent) → IsOwned (world_at p h xs) x → 0 < step_of x
made_since p h xs run x o =
    let d : Daemon = o.trace.daemon in
    above_zero d.begun.step (step_of x)
    (fall_apart (world_at p h xs).step d.stamps (d.begun ∷ []) x.course.made d.begun (entries_ordered p h xs run x.machine o.there.machine d o.there.at o.trace.has)
    (stamp_there d.stamps o.trace.submitted_as.at x.course.made o.trace.is.made) (contains_first d.begun []))
