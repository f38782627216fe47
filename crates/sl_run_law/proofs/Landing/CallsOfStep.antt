-- What a daemon's step makes of its machine's calls: one may be answered, and new ones come. And the event as a whole.
use Rattle.sl_run_law.proofs.Landing.CallLists.{made_calls, old_or_made, stays_made}
use Rattle.sl_run_law.proofs.Landing.OneEvent.{event_goes_on, world_first, world_then}
use Rattle.sl_run_law.proofs.Landing.CallsBeforeStep.{Turn, Turned, first_turns, turned_call, turned_same}
use Rattle.sl_words.proofs.Lists.{there_is}
use Rattle.sl_words.proofs.Options.{else_some}
use Rattle.sl_run.specs.EventChanges.{after_effects, after_step, close_answered, daemon_number, new_course, take_step}
use Rattle.sl_run.specs.Inputs.{input_of, machine_of}
use Rattle.sl_run.specs.Refusals.{may_happen}
use Rattle.sl_run.specs.Worlds.{Course, Machine, Stamp, World, machine_at, stamp_now}
use Rattle.sl_run.specs.declared.event.Event.{Event}
use Rattle.sl_run_law.proofs.MachineWalk.{each_step, index, number_within}
use Rattle.sl_run_law.specs.Machines.{EachMachine}
use Rattle.sl_trace.specs.Traces.{is_ok_answer}
use Rattle.sl_trace.specs.declared.effects.Call.{Call}
use Rattle.sl_trace.specs.declared.effects.Effects.{Effects}
use Rattle.sl_trace.specs.declared.input.Answer.{Answer}
use Rattle.sl_trace.specs.declared.input.Input.TheVariants.{Answer as Told, Exit, Line, Number, Spawned, Wake}
use Rattle.sl_trace.specs.declared.input.Input.{Input}
use Rattle.sl_words.proofs.CaseLaws.{one_value}
use Rattle.std.proofs.Common.{ap, arith, inl, inr, refl, subst, sym}
use Rattle.std.proofs.lemmas.Bool.Decides.{Decides-eqb}
use Rattle.std.specs.Prelude.{Contains, Option, Some, length, slice_get, true, ℕ, ◌-◌, ◌<◌, ◌==◌, ◌≡◌, ◌⊎◌}

-- ---- the step

-- The step of machine m, with this input, answers the call on machine n.
pub record IsAnswered (v : World) (m : ℕ) (o : Option Input) (n : ℕ) (a : Machine) (c d : Course) : Type 0 where
  pub answer : Answer
  pub input : o ≡ Some (Told c.call.number answer)
  pub here : n ≡ m
  pub answered : d.answered ≡ Some (stamp_now v a)
  pub done : d.done ≡ is_ok_answer answer

-- What a call becomes in the step.
pub record Step (v : World) (m : ℕ) (o : Option Input) (n : ℕ) (a : Machine) (c d : Course) : Type 0 where
  pub call : d.call ≡ c.call
  pub daemon : d.daemon ≡ c.daemon
  pub made : d.made ≡ c.made
  pub fate : d.fate ≡ c.fate
  pub answer : ((d.answered ≡ c.answered) × (d.done ≡ c.done)) ⊎ IsAnswered v m o n a c d

-- The step makes this call.
pub record IsMade (v : World) (m : ℕ) (fx : Effects) (n : ℕ) (a : Machine) (d : Course) : Type 0 where
  pub call : Call
  pub has : Contains fx.calls call
  pub here : n ≡ m
  pub is : new_course (stamp_now v a) (daemon_number a) call ≡ d

-- The calls before and after the step.
pub record Stepped (v : World) (m : ℕ) (o : Option Input) (fx : Effects) (n : ℕ) (a b : Machine) : Type 0 where
  pub forth : (c : Course) → Contains a.calls c → (d : Course) × Contains b.calls d × Step v m o n a c d
  pub back : (d : Course) → Contains b.calls d → ((c : Course) × Contains a.calls c × Step v m o n a c d) ⊎ IsMade v m fx n a d

step_still : (v : World) (m : ℕ) (o : Option Input) (n : ℕ) (a : Machine) (c : Course) → Step v m o n a c c
step_still v m o n a c = record { call = refl; daemon = refl; made = refl; fate = refl; answer = inl (refl, refl) }

stepped_still : (v : World) (m : ℕ) (o : Option Input) (fx : Effects) (n : ℕ) (a : Machine) → Stepped v m o fx n a a
stepped_still v m o fx n a = record { forth = λ c h. (c, h, step_still v m o n a c); back = λ d h. inl (d, h, step_still v m o n a d) }

-- After its answers the new calls of a step come.
with_made : (v : World) (m : ℕ) (o : Option Input) (fx : Effects) (a x b : Machine) → Turned (Step v m o m a) a x
    → b.calls ≡ made_calls (stamp_now v a) (daemon_number a) x.calls fx.calls → Stepped v m o fx m a b
with_made v m o fx a x b t same =
    let now : Stamp = stamp_now v a in
    record {
      forth = λ c h.
          let p = t.forth c h in
          (p.0, subst (λ cs. Contains cs p.0) (sym same) (stays_made now (daemon_number a) fx.calls x.calls p.0 p.1), p.2);
      back = λ d h.
          elim (old_or_made now (daemon_number a) fx.calls x.calls d (subst (λ cs. Contains cs d) same h)) as (λ z. ((c : Course) × Contains a.calls c × Step v m o m a c d) ⊎ IsMade v m fx m a d) [
            | inl old ↦ inl (t.back d old)
            | inr new ↦ inr (record { call = new.0; has = new.1; here = refl; is = new.2 })
          ];
    }

-- The answer of a call.
abbrev told : Stamp → Answer → Course → Course
told now answer c = record c { answered = Some now; done = is_ok_answer answer }

told_step : (v : World) (m n : ℕ) (answer : Answer) (a : Machine) (c : Course) → (c.call.number == n) ≡ true
    → Step v m (Some (Told n answer)) m a c (told (stamp_now v a) answer c)
told_step v m n answer a c number =
    record {
      call = refl;
      daemon = refl;
      made = refl;
      fate = refl;
      answer = inr (record {
        answer = answer;
        input = ap (λ k. Some (Told k answer)) (sym ((Decides-eqb c.call.number n).0 number));
        here = refl;
        answered = refl;
        done = refl;
      });
    }

closed : (v : World) (m : ℕ) (i : Input) (a : Machine) → Turned (Step v m (Some i) m a) a (close_answered (stamp_now v a) i a)
closed v m (Line text) a = turned_same (Step v m (Some (Line text)) m a) a a (step_still v m (Some (Line text)) m a) refl
closed v m (Number text) a = turned_same (Step v m (Some (Number text)) m a) a a (step_still v m (Some (Number text)) m a) refl
closed v m (Told n answer) a =
    turned_call (Step v m (Some (Told n answer)) m a) n (told (stamp_now v a) answer) a (step_still v m (Some (Told n answer)) m a)
    (λ c h t. told_step v m n answer a c t)
closed v m Wake a = turned_same (Step v m (Some Wake) m a) a a (step_still v m (Some Wake) m a) refl
closed v m (Exit p) a = turned_same (Step v m (Some (Exit p)) m a) a a (step_still v m (Some (Exit p)) m a) refl
closed v m (Spawned p ok) a = turned_same (Step v m (Some (Spawned p ok)) m a) a a (step_still v m (Some (Spawned p ok)) m a) refl

pub same_daemon : (now : Stamp) (i : Input) (a : Machine) → (close_answered now i a).daemon ≡ a.daemon
same_daemon now (Line text) a = refl
same_daemon now (Number text) a = refl
same_daemon now (Told n answer) a = refl
same_daemon now Wake a = refl
same_daemon now (Exit p) a = refl
same_daemon now (Spawned p ok) a = refl

same_number : (now : Stamp) (i : Input) (a : Machine) → daemon_number (close_answered now i a) ≡ daemon_number a
same_number now (Line text) a = refl
same_number now (Number text) a = refl
same_number now (Told n answer) a = refl
same_number now Wake a = refl
same_number now (Exit p) a = refl
same_number now (Spawned p ok) a = refl

stepped : (v : World) (m : ℕ) (i : Input) (fx : Effects) (a : Machine) → Stepped v m (Some i) fx m a (after_step (stamp_now v a) i fx a)
stepped v m i fx a =
    let x : Machine = close_answered (stamp_now v a) i a in
    with_made v m (Some i) fx a x (after_step (stamp_now v a) i fx a) (closed v m i a)
    (ap (λ k. made_calls (stamp_now v a) k x.calls fx.calls) (same_number (stamp_now v a) i a))

pub step_makes : (v : World) (m : ℕ) (o : Option Input) (fx : Effects) → EachMachine (Stepped v m o fx) v (take_step m o fx v)
step_makes v m o fx =
    each_step (Stepped v m o fx) m o fx v (stepped_still v m o fx)
    (λ none a h. with_made v m o fx a a (after_effects (stamp_now v a) fx a) (turned_same (Step v m o m a) a a (step_still v m o m a) refl) refl)
    (λ i is a h. subst (λ p. Stepped v m p fx m a (after_step (stamp_now v a) i fx a)) (sym is) (stepped v m i fx a))

-- ---- the event

-- What an event makes of a machine's calls.
pub record Passage (w : World) (e : Event) (fx : Effects) (m : ℕ) (a b : Machine) : Type 0 where
  pub middle : Machine
  pub between : machine_at (world_first w e) m ≡ Some middle
  pub turned : Turned (Turn w e m a) a middle
  pub stepped : Stepped (world_first w e) (machine_of e) (input_of w e) fx m middle b

pub event_makes : (w : World) (e : Event) (fx : Effects) → may_happen w e ≡ true → EachMachine (Passage w e fx) w (world_then w e fx)
event_makes w e fx may m a at =
    let p = first_turns w e may m a at in
    let q = step_makes (world_first w e) (machine_of e) (input_of w e) fx m p.0 p.1 in
    (q.0, q.1, record { middle = p.0; between = p.1; turned = p.2; stepped = q.2 })

-- Where a machine comes from.
pub record Came (w : World) (e : Event) (fx : Effects) (m : ℕ) (b : Machine) : Type 0 where
  pub before : Machine
  pub at : machine_at w m ≡ Some before
  pub passage : Passage w e fx m before b

pub came : (w : World) (e : Event) (fx : Effects) (m : ℕ) (b : Machine) → may_happen w e ≡ true → machine_at (world_then w e fx) m ≡ Some b → Came w e fx m b
came w e fx m b may at =
    let u : World = world_then w e fx in
    let less : m - 1 < length w.machines = omega (arith, (number_within u m b at).0, (event_goes_on w e fx).machines) in
    let a = there_is w.machines (m - 1) less in
    let there : machine_at w m ≡ Some a.0 = else_some (m == 0) (slice_get w.machines (m - 1)) a.0 (index u m b at).0 a.1 in
    let p = event_makes w e fx may m a.0 there in
    record { before = a.0; at = there; passage = subst (Passage w e fx m a.0) (one_value p.0 b (machine_at u m) p.1 at) p.2 }
