-- Where an exit, or the answer of a start, comes to a daemon, its event says so.
use Rattle.sl_run.specs.Inputs.{done_input, if_running, input_at, machine_of, ok_input}
use Rattle.sl_run.specs.Worlds.{Course, Machine, World, flight_of}
use Rattle.sl_run.specs.declared.event.Event.TheVariants.{AnswerCall, Crash, Do, DropWrite, ExitOf, GiveAsk, GiveCommand, GiveLvm, Land, Pass, Reset, Restart, Sample, SpawnedOf, StartDaemon, Tear, Test, WakeUp}
use Rattle.sl_run.specs.declared.event.Event.{Event}
use Rattle.sl_trace.specs.declared.effects.Op.TheVariants.{ReadSectors, WriteRecord}
use Rattle.sl_trace.specs.declared.effects.Op.{Op}
use Rattle.sl_trace.specs.declared.input.Answer.TheVariants.{Failed}
use Rattle.sl_trace.specs.declared.input.Input.TheVariants.{Answer as Told, Exit, Line, Number, Spawned, Wake}
use Rattle.sl_trace.specs.declared.input.Input.{Input}
use Rattle.sl_words.proofs.CaseLaws.{false_is_true, none_some, some_value, true_is_false}
use Rattle.sl_words.proofs.Options.{then_value}
use Rattle.sl_words.proofs.WordLaws.{choose_some}
use Rattle.std.proofs.Common.{ap, refl, sym, ◌∙◌}
use Rattle.std.specs.Prelude.{Bool, None, Option, Some, false, is_some, option_map, true, ℕ, ◌≡◌}

-- ---- what an input is

abbrev is_exit : Input → Bool
is_exit (Exit p) = true
is_exit i = false

abbrev is_start : Input → Bool
is_start (Spawned p ok) = true
is_start i = false

abbrev number_of : Input → ℕ
number_of (Exit p) = p
number_of (Spawned p ok) = p
number_of i = 0

abbrev was_started : Input → Bool
was_started (Spawned p ok) = ok
was_started i = true

-- ---- what its event is

data ComesFrom (e : Event) (i : Input) : Type 0 where
  From_exit : (p : ℕ) → Exit p ≡ i → e ≡ ExitOf (machine_of e) p → ComesFrom e i
  From_start : (p : ℕ) (ok : Bool) → Spawned p ok ≡ i → e ≡ SpawnedOf (machine_of e) p ok → ComesFrom e i
  From_other : is_exit i ≡ false → is_start i ≡ false → ComesFrom e i

as_other : (e : Event) (j i : Input) → is_exit j ≡ false → is_start j ≡ false → j ≡ i → ComesFrom e i
as_other e j i exits starts is = From_other (ap is_exit (sym is) ∙ exits) (ap is_start (sym is) ∙ starts)

of_running : (e : Event) (a : Machine) (j i : Input) → is_exit j ≡ false → is_start j ≡ false → if_running a j ≡ Some i → ComesFrom e i
of_running e a j i exits starts has = as_other e j i exits starts (choose_some (is_some a.daemon) j i has).1

ok_exit : (f : Course) → (is_exit (ok_input f) ≡ false) × (is_start (ok_input f) ≡ false)
ok_exit f = by f.call.op where
  by : (o : Op) → (is_exit (ok_input (record f { call = record f.call { op = o } })) ≡ false) × (is_start (ok_input (record f { call = record f.call { op = o } })) ≡ false)
  by (ReadSectors n) = (refl, refl)
  by (WriteRecord r) = (refl, refl)

done_exit : (w : World) (f : Course) → (is_exit (done_input w f) ≡ false) × (is_start (done_input w f) ≡ false)
done_exit w f = by f.call.op where
  by : (o : Op) → (is_exit (done_input w (record f { call = record f.call { op = o } })) ≡ false)
      × (is_start (done_input w (record f { call = record f.call { op = o } })) ≡ false)
  by (ReadSectors n) = (refl, refl)
  by (WriteRecord r) = (refl, refl)

of_call : (e : Event) (F : Course → Input) → ((f : Course) → (is_exit (F f) ≡ false) × (is_start (F f) ≡ false)) → (o : Option Course) (i : Input)
    → option_map F o ≡ Some i → ComesFrom e i
of_call e F never None i has = absurd (none_some i has)
of_call e F never (Some f) i has = as_other e (F f) i (never f).0 (never f).1 (some_value (F f) i has)

abbrev answer_of : Bool → ℕ → Course → Input
answer_of ok c f = elim ok [ true ↦ ok_input f | false ↦ Told c Failed ]

answer_exit : (ok : Bool) (c : ℕ) (f : Course) → (is_exit (answer_of ok c f) ≡ false) × (is_start (answer_of ok c f) ≡ false)
answer_exit true c f = ok_exit f
answer_exit false c f = (refl, refl)

comes_from : (e : Event) (w : World) (a : Machine) (i : Input) → input_at w e a ≡ Some i → ComesFrom e i
comes_from (ExitOf m p) w a i has = From_exit p (choose_some (is_some a.daemon) (Exit p) i has).1 refl
comes_from (SpawnedOf m p ok) w a i has = From_start p ok (choose_some (is_some a.daemon) (Spawned p ok) i has).1 refl
comes_from (WakeUp m) w a i has = of_running (WakeUp m) a Wake i refl refl has
comes_from (GiveCommand m text) w a i has = of_running (GiveCommand m text) a (Line text) i refl refl has
comes_from (GiveLvm m line) w a i has = of_running (GiveLvm m line) a (Number line) i refl refl has
comes_from (GiveAsk m) w a i has = let x = then_value (λ text. if_running a (Line text)) a.locks.due i has in of_running (GiveAsk m) a (Line x.0) i refl refl x.2
comes_from (AnswerCall m c ok) w a i has = of_call (AnswerCall m c ok) (answer_of ok c) (answer_exit ok c) (flight_of a c) i has
comes_from (Do m c) w a i has = of_call (Do m c) (done_input w) (done_exit w) (flight_of a c) i has
comes_from (Pass d growths) w a i has = absurd (none_some i has)
comes_from (Sample m c k) w a i has = absurd (none_some i has)
comes_from (Land m c) w a i has = absurd (none_some i has)
comes_from (Tear m c k bytes) w a i has = absurd (none_some i has)
comes_from (DropWrite m c) w a i has = absurd (none_some i has)
comes_from (Test m) w a i has = absurd (none_some i has)
comes_from (StartDaemon m name) w a i has = absurd (none_some i has)
comes_from (Crash m) w a i has = absurd (none_some i has)
comes_from (Reset m) w a i has = absurd (none_some i has)
comes_from (Restart m) w a i has = absurd (none_some i has)

-- ---- of an exit, and of a start that failed

pub exits_by : (e : Event) (w : World) (a : Machine) (p : ℕ) → input_at w e a ≡ Some (Exit p) → e ≡ ExitOf (machine_of e) p
exits_by e w a p has = by (comes_from e w a (Exit p) has) where
  by : ComesFrom e (Exit p) → e ≡ ExitOf (machine_of e) p
  by (From_exit q is event) = event ∙ ap (λ n. ExitOf (machine_of e) n) (ap number_of is)
  by (From_start q ok is event) = absurd (false_is_true (ap is_exit is))
  by (From_other exits starts) = absurd (true_is_false exits)

pub not_started_by : (e : Event) (w : World) (a : Machine) (p : ℕ) → input_at w e a ≡ Some (Spawned p false) → e ≡ SpawnedOf (machine_of e) p false
not_started_by e w a p has = by (comes_from e w a (Spawned p false) has) where
  by : ComesFrom e (Spawned p false) → e ≡ SpawnedOf (machine_of e) p false
  by (From_exit q is event) = absurd (true_is_false (ap is_exit is))
  by (From_start q ok is event) = event ∙ ap (λ n. SpawnedOf (machine_of e) n ok) (ap number_of is) ∙ ap (λ b. SpawnedOf (machine_of e) p b) (ap was_started is)
  by (From_other exits starts) = absurd (true_is_false starts)
