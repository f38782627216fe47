-- Where a call of a world comes from: it was there at an earlier front, with the same answer and fate or none, or was made since.
use Rattle.sl_run_law.proofs.Course.CallsAreDistinct.{each_distinct}
use Rattle.sl_run_law.proofs.Front.RunsFromFronts.{fronts_are_lawful, last_event, run_after}
use Rattle.sl_run_law.proofs.Landing.CallsMadeBefore.{fate_kept}
use Rattle.sl_run_law.proofs.Landing.OneEvent.{first_later, world_first, world_then}
use Rattle.sl_run_law.proofs.Landing.CallsOfStep.{Step, came}
use Rattle.sl_run.specs.Inputs.{input_of, machine_of}
use Rattle.sl_run.specs.Refusals.{may_happen}
use Rattle.sl_run.specs.Runs.{Happening}
use Rattle.sl_run.specs.Safety.{LawfulRun, world_at}
use Rattle.sl_run.specs.Worlds.{Course, Machine, Program, World, is_in_flight, machine_at, world_with}
use Rattle.sl_run.specs.declared.event.Event.{Event}
use Rattle.sl_run.specs.declared.header.Header.{Header}
use Rattle.sl_run_law.specs.FatesStay.{AreDistinct}
use Rattle.sl_safety.proofs.Sessions.FollowingJoins.{nothing_more}
use Rattle.sl_safety.proofs.Sessions.OrderedFronts.{steps_grow}
use Rattle.sl_trace.specs.declared.effects.Effects.{Effects}
use Rattle.sl_words.proofs.CaseLaws.{no_value}
use Rattle.std.proofs.Common.{ap, arith, inl, inr, refl, subst, sym, ◌∙◌}
use Rattle.std.specs.Prelude.{Contains, List, None, Some, [], false, true, ℕ, ◌++◌, ◌<◌, ◌∷◌, ◌≡◌, ◌≤◌, ◌⊎◌}

pub record WasThere (w : World) (m : ℕ) (c : Course) : Type 0 where
  pub machine : Machine
  pub at : machine_at w m ≡ Some machine
  pub course : Course
  pub has : Contains machine.calls course
  pub call : c.call ≡ course.call
  pub daemon : c.daemon ≡ course.daemon
  pub made : c.made ≡ course.made
  pub opened : c.answered ≡ None → course.answered ≡ None
  pub settled : is_in_flight course.fate ≡ false → c.fate ≡ course.fate

abbrev pub Comes : World → World → Type 0
Comes u w = (m : ℕ) (a : Machine) (c : Course) → machine_at w m ≡ Some a → Contains a.calls c → WasThere u m c ⊎ (u.step < c.made.step)

-- ---- over an event

opened_by : (v : World) (m : ℕ) (n : ℕ) (a : Machine) (c d : Course) (e : World) (x : Event) → Step v m (input_of e x) n a c d → d.answered ≡ None → c.answered ≡ None
opened_by v m n a c d e x s none =
    elim s.answer as (λ z. c.answered ≡ None) [
      | inl same ↦ sym same.0 ∙ none
      | inr told ↦ absurd (no_value _ d.answered told.answered none)
    ]

event_comes : (w : World) (e : Event) (fx : Effects) → ((m : ℕ) (a : Machine) → machine_at w m ≡ Some a → AreDistinct a.calls) → may_happen w e ≡ true → Comes w (world_then w e fx)
event_comes w e fx distinct may m b d at has =
    let from = came w e fx m b may at in
    let p = from.passage in
    elim (p.stepped.back d has) as (λ z. WasThere w m d ⊎ (w.step < d.made.step)) [
      | inl s ↦
          let t = p.turned.back s.0 s.1 in
          inl (record {
            machine = from.before;
            at = from.at;
            course = t.0;
            has = t.1;
            call = s.2.call ∙ t.2.call;
            daemon = s.2.daemon ∙ t.2.daemon;
            made = s.2.made ∙ t.2.made;
            opened = λ none. sym t.2.answered ∙ opened_by (world_first w e) (machine_of e) m p.middle s.0 d w e s.2 none;
            settled = λ done. s.2.fate ∙ fate_kept w e m from.before t.0 s.0 (distinct m from.before from.at) t.1 done t.2;
          })
      | inr made ↦ inr (subst (λ (c : Course). w.step < c.made.step) made.is (first_later w e).step)
    ]

-- ---- over a run

farther : (a b c : ℕ) → a ≤ b → b < c → a < c
farther a b c h k = omega (arith, h, k)

comes_then : (u v w : World) → u.step ≤ v.step → Comes u v → Comes v w → Comes u w
comes_then u v w le one two m a c at has =
    elim (two m a c at has) as (λ z. WasThere u m c ⊎ (u.step < c.made.step)) [
      | inr late ↦ inr (farther u.step v.step c.made.step le late)
      | inl b ↦ elim (one m b.machine b.course b.at b.has) as (λ z. WasThere u m c ⊎ (u.step < c.made.step)) [
        | inr late ↦ inr (subst (λ s. u.step < s.step) (sym b.made) late)
        | inl d ↦ inl (record {
          machine = d.machine;
          at = d.at;
          course = d.course;
          has = d.has;
          call = b.call ∙ d.call;
          daemon = b.daemon ∙ d.daemon;
          made = b.made ∙ d.made;
          opened = λ none. d.opened (b.opened none);
          settled = λ done.
              let mid = d.settled done in
              b.settled (ap (λ f. is_in_flight f) mid ∙ done) ∙ mid;
        })
      ]
    ]

comes_itself : (w : World) → Comes w w
comes_itself w m a c at has =
    inl (record { machine = a; at = at; course = c; has = has; call = refl; daemon = refl; made = refl; opened = λ none. none; settled = λ done. refl })

one_more : (now : List Happening) (x : Happening) (rest : List Happening) → (now ++ x ∷ []) ++ rest ≡ now ++ x ∷ rest
one_more [] x rest = refl
one_more (y ∷ now) x rest = ap (λ xs. y ∷ xs) (one_more now x rest)

on_more : (a b c : ℕ) → a ≤ b → b ≤ c → a ≤ c
on_more a b c h k = omega (arith, h, k)

comes_on : (p : Program) (h : Header) (now xs rest : List Happening) → LawfulRun p h (xs ++ rest) → (world_at p h now).step ≤ (world_at p h xs).step
    → Comes (world_at p h now) (world_at p h xs) → Comes (world_at p h now) (world_at p h (xs ++ rest))
comes_on p h now xs [] run le was = subst (λ ys. Comes (world_at p h now) (world_at p h ys)) (sym (nothing_more xs)) was
comes_on p h now xs (x ∷ rest) run le was =
    let more : LawfulRun p h ((xs ++ x ∷ []) ++ rest) = subst (λ ys. LawfulRun p h ys) (sym (one_more xs x rest)) run in
    let next : LawfulRun p h (xs ++ x ∷ []) = fronts_are_lawful p h (xs ++ x ∷ []) rest more in
    let last = last_event p h xs x next in
    let step : (world_at p h xs).step ≤ (world_at p h (xs ++ x ∷ [])).step =
    subst (λ (v : World). (world_at p h xs).step ≤ v.step) (sym (run_after (world_with p h) xs (x ∷ []))) (steps_grow (world_at p h xs) (x ∷ [])) in
    let one : Comes (world_at p h xs) (world_at p h (xs ++ x ∷ [])) =
    subst (λ v. Comes (world_at p h xs) v) (sym last.after)
    (event_comes (world_at p h xs) x.0 last.effects (λ m a at. each_distinct p h xs last.before m a at) last.may) in
    subst (λ ys. Comes (world_at p h now) (world_at p h ys)) (one_more xs x rest)
    (comes_on p h now (xs ++ x ∷ []) rest more (on_more (world_at p h now).step (world_at p h xs).step (world_at p h (xs ++ x ∷ [])).step le step)
    (comes_then (world_at p h now) (world_at p h xs) (world_at p h (xs ++ x ∷ [])) le was one))

same_most : (n : ℕ) → n ≤ n
same_most n = omega arith

pub calls_come : (p : Program) (h : Header) (now rest : List Happening) → LawfulRun p h (now ++ rest) → Comes (world_at p h now) (world_at p h (now ++ rest))
calls_come p h now rest run = comes_on p h now now rest run (same_most (world_at p h now).step) (comes_itself (world_at p h now))
