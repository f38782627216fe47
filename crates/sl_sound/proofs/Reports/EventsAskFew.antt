-- Few asks follow an event: one machine's line leaves them, and each ask leaves fewer.
use Rattle.sl_safety.proofs.Resources.Calls.{numbered_at, numbered_in}
use Rattle.sl_words.proofs.Lists.{find_fails, find_inside}
use Rattle.sl_words.proofs.Options.{not_some}
use Rattle.sl_report.specs.Schedules.{NoAsk}
use Rattle.sl_run.specs.EventChanges.{after_effects, after_step, first_change, happens, next_step, number_of_step, take_step}
use Rattle.sl_run.specs.Inputs.{asking, if_running, input_at, input_of, machine_of}
use Rattle.sl_run.specs.Refusals.{event_tests, may_happen, needs_daemon}
use Rattle.sl_run.specs.Locks.{fresh_locks, locks_after}
use Rattle.sl_run.specs.Worlds.{Daemon, Machine, Stamp, World, first_that, machine_at, stamp_now}
use Rattle.sl_run.specs.declared.event.Event.TheVariants.{GiveAsk, Reset, StartDaemon}
use Rattle.sl_run.specs.declared.event.Event.{Event}
use Rattle.sl_run.specs.declared.event.Refusal.TheVariants.{MissingLvm, MissingMachine, Syntax}
use Rattle.sl_run.specs.declared.event.Refusal.{Refusal}
use Rattle.sl_run_law.proofs.Course.OneMachineChanges.{changed_here}
use Rattle.sl_run_law.proofs.Course.MachineTurns.{Alone, Becomes, Began, Called, Came_up, Clocked, Crashed, Elsewhere, Stays, Stepped, Tested, Took, Turned, Went_down, becomes}
use Rattle.sl_run_law.proofs.Front.RunsFromFronts.{number_place, was_there}
use Rattle.sl_run_law.proofs.WorldsGoOn.{event_goes}
use Rattle.sl_run_law.proofs.MachineWalk.{index, number_within}
use Rattle.sl_sound.proofs.Reports.EffectsWereDue.{input_leaves, seen_at, somebody, step_daemon}
use Rattle.sl_sound.proofs.Reports.TurnsLeaveFewer.{LocksLeave, few_left, fewer_left}
use Rattle.sl_sound.specs.Reports.EventsAskFew.{AsksEnd, AsksOn, EventsAskFew, IsFair, IsFairMachine, asks_left, left_of}
use Rattle.sl_trace.specs.declared.effects.Effects.{Effects}
use Rattle.sl_trace.specs.declared.input.Input.TheVariants.{Line}
use Rattle.sl_trace.specs.declared.input.Input.{Input}
use Rattle.sl_run.specs.Lvm.{Acquiring, Course, Moving, Reading, Releasing, Writing}
use Rattle.sl_words.proofs.CaseLaws.{false_is_true, none_some, one_value, some_value}
use Rattle.std.proofs.Common.{ap, arith, inl, inr, refl, subst, sym, tests, ◌∙◌}
use Rattle.std.specs.List.{enumerate_from}
use Rattle.std.specs.Option.{option_map_or}
use Rattle.std.specs.Prelude.{Bool, Contains, List, None, Option, Some, false, find, is_none, is_some, option_and_then, option_map, suc, true, [], ℕ, ◌+◌, ◌-◌, ◌==◌, ◌∷◌, ◌≡◌, ◌≤◌, ◌⊎◌}

-- ---- who is asked

-- An ask is due on this machine.
abbrev IsAskedOn : World → ℕ → Type 0
IsAskedOn w k = (a : Machine) × (machine_at w k ≡ Some a) × (is_some a.locks.due ≡ true)

asked_by : (w : World) (k : ℕ) (o : Option (ℕ × Machine)) → find (λ (p : ℕ × Machine). is_some p.1.locks.due) (enumerate_from 1 w.machines) ≡ o
    → option_map (λ (p : ℕ × Machine). p.0) o ≡ Some k → IsAskedOn w k
asked_by w k None is h = absurd (none_some k h)
asked_by w k (Some p) is h =
    let found = find_inside (λ (q : ℕ × Machine). is_some q.1.locks.due) (enumerate_from 1 w.machines) p is in
    let n = numbered_in 1 w.machines p found.0 in
    let suc_is : suc n.0 ≡ 1 + n.0 = omega arith in
    let number : suc n.0 ≡ k = suc_is ∙ sym n.1 ∙ some_value p.0 k h in
    (p.1, subst (λ m. machine_at w m ≡ Some p.1) number (number_place w n.0 p.1 n.2), found.1)

pub asked_on : (w : World) (k : ℕ) → asking w ≡ Some k → IsAskedOn w k
asked_on w k h = asked_by w k (find (λ (p : ℕ × Machine). is_some p.1.locks.due) (enumerate_from 1 w.machines)) refl h

-- No machine has an ask due.
abbrev NoneDue : World → Type 0
NoneDue w = (k : ℕ) (a : Machine) → machine_at w k ≡ Some a → a.locks.due ≡ None

no_find : (o : Option (ℕ × Machine)) → option_map (λ (p : ℕ × Machine). p.0) o ≡ None → o ≡ None
no_find None h = refl
no_find (Some p) h = absurd (none_some p.0 (sym h))

pub none_due : (w : World) → NoAsk w → NoneDue w
none_due w none k a at =
    let found = numbered_at 1 w.machines (k - 1) a (index w k a at).1 in
    let here : Contains (enumerate_from 1 w.machines) (k, a) = subst (λ n. Contains (enumerate_from 1 w.machines) (n, a)) (number_within w k a at).1 found in
    not_some a.locks.due (find_fails (λ (q : ℕ × Machine). is_some q.1.locks.due) (enumerate_from 1 w.machines) (k, a)
    (no_find (find (λ (q : ℕ × Machine). is_some q.1.locks.due) (enumerate_from 1 w.machines)) none) here)

due_and_none : (a : Machine) → a.locks.due ≡ None → is_some a.locks.due ≡ true → ⊥
due_and_none a none due = false_is_true (sym (ap is_some none) ∙ due)

no_ask_by : (w : World) (o : Option ℕ) → asking w ≡ o → NoneDue w → NoAsk w
no_ask_by w None is none = is
no_ask_by w (Some k) is none = let x = asked_on w k is in absurd (due_and_none x.0 (none k x.0 x.1) x.2)

pub no_ask : (w : World) → NoneDue w → NoAsk w
no_ask w none = no_ask_by w (asking w) refl none

-- ---- a machine before a step

-- Fair, and no ask is due.
abbrev IsAtRest : Machine → Type 0
IsAtRest a = IsFairMachine 8 a × (a.locks.due ≡ None)

rests : (b : Machine) → b.locks.lvm.retries ≤ 8 → b.locks.due ≡ None → IsAtRest b
rests b few none = (record { retries = few; taken = λ h. absurd (due_and_none b none h) }, none)

same_locks : (a b : Machine) → b.locks ≡ a.locks → IsAtRest a → IsAtRest b
same_locks a b same r = rests b (subst (λ k. k.lvm.retries ≤ 8) (sym same) r.0.retries) (ap (λ k. k.due) same ∙ r.1)

fresh_rests : (w : World) (b : Machine) → w.header.retries ≤ 8 → b.locks ≡ fresh_locks w.header → IsAtRest b
fresh_rests w b few same = rests b (subst (λ k. k.lvm.retries ≤ 8) (sym same) few) (ap (λ k. k.due) same)

turned_rests : (w : World) (e : Event) (m : ℕ) (a b : Machine) → w.header.retries ≤ 8 → Turned w e m a b → IsAtRest a → IsAtRest b
turned_rests w e m a b few (Stays is) r = same_locks a b (ap (λ (x : Machine). x.locks) is) r
turned_rests w e m a b few (Clocked n is) r = same_locks a b (ap (λ (x : Machine). x.locks) is) r
turned_rests w e m a b few (Called n f g flight keeps is) r = same_locks a b (ap (λ (x : Machine). x.locks) is) r
turned_rests w e m a b few (Tested s is) r = same_locks a b (ap (λ (x : Machine). x.locks) is) r
turned_rests w e m a b few (Began name event up used fresh is) r = fresh_rests w b few (ap (λ (x : Machine). x.locks) is)
turned_rests w e m a b few (Crashed event is) r = same_locks a b (ap (λ (x : Machine). x.locks) is) r
turned_rests w e m a b few (Went_down event up is) r = fresh_rests w b few (ap (λ (x : Machine). x.locks) is)
turned_rests w e m a b few (Came_up event down is) r = same_locks a b (ap (λ (x : Machine). x.locks) is) r

-- ---- a step

stepped_elsewhere : (w : World) (e : Event) (fx : Effects) (n : ℕ) (b c : Machine) → (n ≡ machine_of e → ⊥) → Stepped w e fx n b c → c ≡ b
stepped_elsewhere w e fx n b c other (Elsewhere is) = is
stepped_elsewhere w e fx n b c other (Alone none here is) = absurd (other here)
stepped_elsewhere w e fx n b c other (Took i has here is) = absurd (other here)

-- The event's machine after a step of its daemon: the locks took the input, and the daemon runs on.
entered : (o : Option Daemon) (f : Daemon → Daemon) → is_some (option_map f o) ≡ is_some o
entered None f = refl
entered (Some d) f = refl

step_runs : (now : Stamp) (i : Input) (fx : Effects) (b : Machine) → is_some b.daemon ≡ true → is_some (after_step now i fx b).daemon ≡ true
step_runs now i fx b runs = ap is_some (step_daemon now i fx b) ∙ entered b.daemon _ ∙ runs

-- Where the locks leave so many, a daemon that took the step runs.
step_leaves : (now : Stamp) (i : Input) (fx : Effects) (b : Machine) (n : ℕ) → b.locks.lvm.retries ≤ 8 → is_some b.daemon ≡ true
    → LocksLeave b.locks.lvm.retries n (locks_after (number_of_step b) i fx b.locks).0
    → IsFairMachine 8 (after_step now i fx b) × (asks_left (after_step now i fx b).locks ≤ n)
step_leaves now i fx b n few runs l =
    (record { retries = subst (λ r. r ≤ 8) (sym l.same) few; taken = λ h. step_runs now i fx b runs }, l.left)

-- ---- the machines after an event

-- From which machine each came.
was_so : (w : World) (e : Event) (fx : Effects) → may_happen w e ≡ true → (k : ℕ) (c : Machine) → machine_at (happens w e (fx ∷ [])) k ≡ Some c
    → (a : Machine) × (machine_at w k ≡ Some a) × Becomes w e fx k a c
was_so w e fx may k c at =
    let a = was_there w ((e, fx ∷ []) ∷ []) k c at in
    let q = becomes w e fx may k a.0 a.1 in
    (a.0, a.1, subst (Becomes w e fx k a.0) (one_value q.0 c (machine_at (happens w e (fx ∷ [])) k) q.1 at) q.2)

header_stays : (w : World) (e : Event) (fx : Effects) → w.header.retries ≤ 8 → (happens w e (fx ∷ [])).header.retries ≤ 8
header_stays w e fx few = subst (λ h. h.retries ≤ 8) (sym (event_goes w e (fx ∷ [])).header) few

-- A machine of its own is at rest.
others_rest : (w : World) (e : Event) (fx : Effects) (k : ℕ) (a c : Machine) → w.header.retries ≤ 8 → (k ≡ machine_of e → ⊥) → Becomes w e fx k a c → IsAtRest a → IsAtRest c
others_rest w e fx k a c few other q r =
    subst IsAtRest (sym (stepped_elsewhere w e fx k q.middle c other q.stepped)) (turned_rests w e k a q.middle few q.turned r)

-- The event's machine.
here_by : (w : World) (e : Event) (fx : Effects) (a b c : Machine) (o : Option Input) → may_happen w e ≡ true → machine_at w (machine_of e) ≡ Some a
    → machine_at (next_step (first_change e w)) (machine_of e) ≡ Some b → machine_at (take_step (machine_of e) o fx (next_step (first_change e w))) (machine_of e) ≡ Some c
    → input_of w e ≡ o → IsAtRest b → IsFairMachine 8 c × (asks_left c.locks ≤ 10)
here_by w e fx a b c None may at between later is r =
    let v : World = next_step (first_change e w) in
    let same : after_effects (stamp_now v b) fx b ≡ c = one_value _ c _ (changed_here v (machine_of e) (λ x. after_effects (stamp_now v x) fx x) b between) later in
    let x : IsAtRest c = subst IsAtRest same (rests (after_effects (stamp_now v b) fx b) r.0.retries r.1) in
    (x.0, left_none c x.1)
  where
    left_none : (c : Machine) → c.locks.due ≡ None → asks_left c.locks ≤ 10
    left_none c none = rw none ten
      where
        ten : 0 ≤ 10
        ten = omega arith
here_by w e fx a b c (Some i) may at between later is r =
    let v : World = next_step (first_change e w) in
    let same : after_step (stamp_now v b) i fx b ≡ c = one_value _ c _ (changed_here v (machine_of e) (λ x. after_step (stamp_now v x) i fx x) b between) later in
    let told : input_at w e a ≡ Some i = ap (option_and_then (input_at w e)) (sym at) ∙ is in
    let d = somebody e w a i may at told in
    let x = seen_at w v (machine_of e) a (input_leaves e w a i told) at in
    let y : x.0 ≡ b = one_value x.0 b (machine_at v (machine_of e)) x.1 between in
    let runs : is_some b.daemon ≡ true =
    ap (λ (z : Machine). is_some z.daemon) (sym y) ∙ ap (λ (z : Option Daemon × ℕ). is_some z.0) x.2 ∙ ap is_some d.1 in
    let few = few_left (number_of_step b) i fx b.locks r.1 in
    let z = step_leaves (stamp_now v b) i fx b (b.locks.lvm.retries + 2) r.0.retries runs few in
    let most : asks_left (after_step (stamp_now v b) i fx b).locks ≤ 10 = at_most_ten b.locks.lvm.retries _ r.0.retries z.1 in
    subst (λ (m : Machine). IsFairMachine 8 m × (asks_left m.locks ≤ 10)) same (z.0, most)
  where
    at_most_ten : (r n : ℕ) → r ≤ 8 → n ≤ r + 2 → n ≤ 10
    at_most_ten r n h k = omega (arith, h, k)

-- Whether it is the event's machine.
numbered : (k m : ℕ) (t : Bool) → (k == m) ≡ t → (k ≡ m) ⊎ (k ≡ m → ⊥)
numbered k m true h = inl (grind (arith, tests, h))
numbered k m false h = inr (λ is. absurd (false_is_true (sym h ∙ same_number is)))
  where
    same_number : k ≡ m → (k == m) ≡ true
    same_number is = grind (arith, tests, is)

event_left : (w : World) (e : Event) (fx : Effects) → IsFair w → NoAsk w → may_happen w e ≡ true → (k : ℕ) (c : Machine) → machine_at (happens w e (fx ∷ [])) k ≡ Some c
    → (k ≡ machine_of e) ⊎ (k ≡ machine_of e → ⊥) → IsFairMachine 8 c × ((k ≡ machine_of e → ⊥) → c.locks.due ≡ None) × (k ≡ machine_of e → asks_left c.locks ≤ 10)
event_left w e fx fair none may k c at (inr other) =
    let q = was_so w e fx may k c at in
    let r = others_rest w e fx k q.0 c fair.header other q.2 (fair.each k q.0 q.1, none_due w none k q.0 q.1) in
    (r.0, λ o. r.1, λ is. absurd (other is))
event_left w e fx fair none may k c at (inl here) =
    let q = was_so w e fx may k c at in
    let b : Machine = q.2.middle in
    let r = turned_rests w e k q.0 b fair.header q.2.turned (fair.each k q.0 q.1, none_due w none k q.0 q.1) in
    let x = here_by w e fx q.0 b c (input_of w e) may (subst (λ n. machine_at w n ≡ Some q.0) here q.1) (subst (λ n. machine_at (first_change e w) n ≡ Some b) here q.2.between)
    (subst (λ n. machine_at (happens w e (fx ∷ [])) n ≡ Some c) here at) refl r in
    (x.0, λ o. absurd (o here), λ is. x.1)

pub events_ask_few : EventsAskFew
events_ask_few w e fx fair none may = (
  machine_of e,
  record {
    fair = record {
      header = header_stays w e fx fair.header;
      each = λ k c at. (event_left w e fx fair none may k c at (numbered k (machine_of e) (k == machine_of e) refl)).0;
    };
    others = λ k c at other. (event_left w e fx fair none may k c at (inr other)).1 other;
    left = λ c at. (event_left w e fx fair none may (machine_of e) c at (inl refl)).2 refl;
  },
)

-- ---- an ask

-- An ask is due on this machine alone.
asked_here : (w : World) (m n k : ℕ) → AsksOn w m n → asking w ≡ Some k → (k ≡ m) ⊎ (k ≡ m → ⊥) → k ≡ m
asked_here w m n k on is (inl same) = same
asked_here w m n k on is (inr other) = let x = asked_on w k is in absurd (due_and_none x.0 (on.others k x.0 x.1 other) x.2)

not_none : {A : Type 0} (o : Option A) → is_some o ≡ true → is_none o ≡ false
not_none None h = absurd (false_is_true h)
not_none (Some a) h = refl

may_by : (o : Option Machine) (a : Machine) → o ≡ Some a → is_none a.daemon ≡ false → is_none a.locks.due ≡ false
    → is_none (first_that ((false, Syntax) ∷ elim o as (λ x. List (Bool × Refusal)) [
      | None ↦ (true, MissingMachine) ∷ []
      | Some b ↦ needs_daemon b ∷ (is_none b.locks.due, MissingLvm) ∷ []
    ])) ≡ true
may_by o a is runs due = rw (is, runs, due) refl

may_give : (w : World) (k : ℕ) (a : Machine) → machine_at w k ≡ Some a → is_some a.daemon ≡ true → is_some a.locks.due ≡ true → may_happen w (GiveAsk k) ≡ true
unfolding event_tests
may_give w k a at runs due = may_by (machine_at w k) a at (not_none a.daemon runs) (not_none a.locks.due due)

given : (w : World) (m n k : ℕ) → AsksOn w m n → asking w ≡ Some k → (k ≡ m) × (may_happen w (GiveAsk k) ≡ true)
given w m n k on is =
    let x = asked_on w k is in (
      asked_here w m n k on is (numbered k m (k == m) refl),
      may_give w k x.0 x.1 ((on.fair.each k x.0 x.1).taken x.2) x.2,
    )

-- ---- what an ask leaves

text_due : (o : Option (List ℕ)) → is_some o ≡ true → (text : List ℕ) × (o ≡ Some text)
text_due None h = absurd (false_is_true h)
text_due (Some text) h = (text, refl)

runs_then : (a : Machine) (i : Input) → is_some a.daemon ≡ true → if_running a i ≡ Some i
runs_then a i h = rw h refl

asks_line : (w : World) (m : ℕ) (a : Machine) (text : List ℕ) → machine_at w m ≡ Some a → is_some a.daemon ≡ true → a.locks.due ≡ Some text → input_of w (GiveAsk m) ≡ Some (Line text)
asks_line w m a text at runs due =
    ap (option_and_then (input_at w (GiveAsk m))) at ∙ ap (option_and_then (λ t. if_running a (Line t))) due ∙ runs_then a (Line text) runs

first_is : (w : World) (m : ℕ) → first_change (GiveAsk m) w ≡ w
unfolding first_change
first_is w m = refl

asked_then : (w : World) (m n : ℕ) (fx : Effects) (c : Machine) → AsksOn w m (suc n) → asking w ≡ Some m → machine_at (happens w (GiveAsk m) (fx ∷ [])) m ≡ Some c
    → IsFairMachine 8 c × (asks_left c.locks ≤ n)
unfolding first_change
asked_then w m n fx c on is at =
    let x = asked_on w m is in
    let a : Machine = x.0 in
    let fair = on.fair.each m a x.1 in
    let runs : is_some a.daemon ≡ true = fair.taken x.2 in
    let text = text_due a.locks.due x.2 in
    let v : World = next_step w in
    let told : input_of w (GiveAsk m) ≡ Some (Line text.0) = asks_line w m a text.0 x.1 runs text.1 in
    let later : machine_at (take_step m (Some (Line text.0)) fx v) m ≡ Some c = ap (λ o. machine_at (take_step m o fx v) m) (sym told) ∙ at in
    let same : after_step (stamp_now v a) (Line text.0) fx a ≡ c =
    one_value _ c _ (changed_here v m (λ y. after_step (stamp_now v y) (Line text.0) fx y) a x.1) later in
    let z = step_leaves (stamp_now v a) (Line text.0) fx a n fair.retries runs (fewer_left (number_of_step a) text.0 text.0 fx a.locks n text.1 (on.left a x.1)) in
    subst (λ (y : Machine). IsFairMachine 8 y × (asks_left y.locks ≤ n)) same z

-- The others stay as they are.
other_stays : (w : World) (m : ℕ) (fx : Effects) (k : ℕ) (a b : Machine) → Turned w (GiveAsk m) k a b → b.locks ≡ a.locks
other_stays w m fx k a b (Stays is) = ap (λ (x : Machine). x.locks) is
other_stays w m fx k a b (Clocked n is) = ap (λ (x : Machine). x.locks) is
other_stays w m fx k a b (Called n f g flight keeps is) = ap (λ (x : Machine). x.locks) is
other_stays w m fx k a b (Tested s is) = ap (λ (x : Machine). x.locks) is
other_stays w m fx k a b (Began name event up used fresh is) = absurd (not_start m k name event)
  where
    not_start : (m k : ℕ) (name : List ℕ) → GiveAsk m ≡ StartDaemon k name → ⊥
    not_start m k name h = absurd cc
other_stays w m fx k a b (Crashed event is) = ap (λ (x : Machine). x.locks) is
other_stays w m fx k a b (Went_down event up is) = absurd (not_reset m k event)
  where
    not_reset : (m k : ℕ) → GiveAsk m ≡ Reset k → ⊥
    not_reset m k h = absurd cc
other_stays w m fx k a b (Came_up event down is) = ap (λ (x : Machine). x.locks) is

others_then : (w : World) (m n : ℕ) (fx : Effects) (k : ℕ) (c : Machine) → AsksOn w m n → may_happen w (GiveAsk m) ≡ true → machine_at (happens w (GiveAsk m) (fx ∷ [])) k ≡ Some c
    → (k ≡ m → ⊥) → IsAtRest c
others_then w m n fx k c on may at other =
    let q = was_so w (GiveAsk m) fx may k c at in
    let b : Machine = q.2.middle in
    let same : c.locks ≡ q.0.locks =
    ap (λ (x : Machine). x.locks) (stepped_elsewhere w (GiveAsk m) fx k b c other q.2.stepped) ∙ other_stays w m fx k q.0 b q.2.turned in
    same_locks q.0 c same (on.fair.each k q.0 q.1, on.others k q.0 q.1 other)

fewer : (w : World) (m n : ℕ) (fx : Effects) → AsksOn w m (suc n) → asking w ≡ Some m → AsksOn (happens w (GiveAsk m) (fx ∷ [])) m n
fewer w m n fx on is =
    let may = (given w m (suc n) m on is).1 in
    record {
      fair = record {
        header = header_stays w (GiveAsk m) fx on.fair.header;
        each = λ k c at. either k c may at (numbered k m (k == m) refl);
      };
      others = λ k c at other. (others_then w m (suc n) fx k c on may at other).1;
      left = λ c at. (asked_then w m n fx c on is at).1;
    }
  where
    either : (k : ℕ) (c : Machine) → may_happen w (GiveAsk m) ≡ true → machine_at (happens w (GiveAsk m) (fx ∷ [])) k ≡ Some c → (k ≡ m) ⊎ (k ≡ m → ⊥) → IsFairMachine 8 c
    either k c may at (inl here) = (asked_then w m n fx c on is (subst (λ j. machine_at (happens w (GiveAsk m) (fx ∷ [])) j ≡ Some c) here at)).0
    either k c may at (inr other) = (others_then w m (suc n) fx k c on may at other).0

-- ---- none is left

some_left : (r : ℕ) (o : Option Course) → 1 ≤ option_map_or (left_of r) o 1
some_left r None = omega arith
some_left r (Some Moving) = omega arith
some_left r (Some (Acquiring l mode again compares)) = omega arith
some_left r (Some (Reading l)) = omega arith
some_left r (Some (Writing l)) = omega arith
some_left r (Some (Releasing l refused)) = omega arith

never_none : (n : ℕ) → 1 ≤ n → n ≤ 0 → ⊥
never_none n h k = absurd (omega (arith, h, k))

none_left : (a : Machine) (o : Option (List ℕ)) → a.locks.due ≡ o → asks_left a.locks ≤ 0 → a.locks.due ≡ None
none_left a None is h = is
none_left a (Some text) is h =
    absurd (never_none (option_map_or (left_of a.locks.lvm.retries) a.locks.lvm.course 1) (some_left a.locks.lvm.retries a.locks.lvm.course)
    (subst (λ (o : Option (List ℕ)). elim o as (λ x. ℕ) [ None ↦ 0 | Some t ↦ option_map_or (left_of a.locks.lvm.retries) a.locks.lvm.course 1 ] ≤ 0) is h))

none : (w : World) (m : ℕ) → AsksOn w m 0 → NoAsk w
none w m on = no_ask w (λ k a at. by k a at (numbered k m (k == m) refl))
  where
    by : (k : ℕ) (a : Machine) → machine_at w k ≡ Some a → (k ≡ m) ⊎ (k ≡ m → ⊥) → a.locks.due ≡ None
    by k a at (inl here) = none_left a a.locks.due refl (on.left a (subst (λ j. machine_at w j ≡ Some a) here at))
    by k a at (inr other) = on.others k a at other

pub asks_end : AsksEnd
asks_end = record { given = given; fewer = fewer; none = none }
