-- What an event makes of a machine: first what the event changes there, then what the step of its daemon, or the machine itself, does.
use Rattle.sl_run.specs.EventChanges.{after_crash, after_effects, after_reset, after_restart, after_start, after_step, change_call, fated, first_change, next_step, own_effects, sampled_more, take_step}
use Rattle.sl_run.specs.Refusals.{event_tests, is_read_course, may_happen, on_flight, sectors_left}
use Rattle.sl_run.specs.Inputs.{input_of, machine_of}
use Rattle.sl_run.specs.Runs.{own_effects_of}
use Rattle.sl_run.specs.Worlds.{Course, Dropped, Fate, Landed, Machine, Stamp, Torn, World, flight_of, machine_at, names_of, stamp_now}
use Rattle.sl_run.specs.declared.event.Event.TheVariants.{AnswerCall, Crash, Do, DropWrite, ExitOf, GiveAsk, GiveCommand, GiveLvm, Land, Pass, Reset, Restart, Sample, SpawnedOf, StartDaemon, Tear, Test, WakeUp}
use Rattle.sl_run.specs.declared.event.Event.{Event}
use Rattle.sl_run.specs.declared.event.Refusal.TheVariants.{MissingCall}
use Rattle.sl_run.specs.declared.event.Refusal.{Refusal}
use Rattle.sl_run_law.proofs.Guards.{NoneHolds, drops, on_this, passes, restarts, starts}
use Rattle.sl_run_law.proofs.MachineWalk.{Asked, each_first, each_step}
use Rattle.sl_run_law.specs.Machines.{EachMachine}
use Rattle.sl_trace.specs.Traces.{no_effects}
use Rattle.sl_trace.specs.declared.effects.Effects.{Effects}
use Rattle.sl_trace.specs.declared.input.Input.{Input}
use Rattle.sl_words.proofs.CaseLaws.{true_is_false}
use Rattle.std.proofs.Common.{refl, subst}
use Rattle.std.proofs.lemmas.Bool.{not-false}
use Rattle.std.specs.List.{list_any}
use Rattle.std.specs.Option.{option_map_or}
use Rattle.std.specs.Prelude.{Bool, List, None, Option, Some, bytes_eq, false, true, [], ℕ, ◌∷◌, ◌≡◌}

-- A change of a course that leaves what was asked, by whom and when, and whether it is answered.
pub record KeepsAsking (f : Course → Course) : Type 0 where
  pub call : (c : Course) → (f c).call ≡ c.call
  pub daemon : (c : Course) → (f c).daemon ≡ c.daemon
  pub made : (c : Course) → (f c).made ≡ c.made
  pub answered : (c : Course) → (f c).answered ≡ c.answered

-- What an event changes on a machine before a step.
pub data Turned (w : World) (e : Event) (m : ℕ) (a b : Machine) : Type 0 where
  Stays : b ≡ a → Turned w e m a b
  Clocked : (n : ℕ) → b ≡ record a { clock = n } → Turned w e m a b
  -- a call in flight is sampled, lands or is dropped
  Called : (n : ℕ) (f : Course → Course) (g : Course) → flight_of a n ≡ Some g → KeepsAsking f → b ≡ change_call n f a → Turned w e m a b
  Tested : (s : Stamp) → b ≡ record a { kept = s } → Turned w e m a b
  Began : (name : List ℕ) → e ≡ StartDaemon m name → a.up ≡ true → a.used ≡ false → list_any (bytes_eq name) (names_of w) ≡ false → b ≡ after_start w m name a → Turned w e m a b
  Crashed : e ≡ Crash m → b ≡ after_crash a → Turned w e m a b
  Went_down : e ≡ Reset m → a.up ≡ true → b ≡ after_reset w a → Turned w e m a b
  Came_up : e ≡ Restart m → a.up ≡ false → b ≡ after_restart w a → Turned w e m a b

-- What the step of the event makes of a machine.
pub data Stepped (w : World) (e : Event) (fx : Effects) (m : ℕ) (b c : Machine) : Type 0 where
  Elsewhere : c ≡ b → Stepped w e fx m b c
  Alone : input_of w e ≡ None → m ≡ machine_of e → c ≡ after_effects (stamp_now (next_step (first_change e w)) b) fx b → Stepped w e fx m b c
  Took : (i : Input) → input_of w e ≡ Some i → m ≡ machine_of e → c ≡ after_step (stamp_now (next_step (first_change e w)) b) i fx b → Stepped w e fx m b c

-- A machine before an event and after its step.
pub record Becomes (w : World) (e : Event) (fx : Effects) (m : ℕ) (a c : Machine) : Type 0 where
  pub middle : Machine
  pub between : machine_at (first_change e w) m ≡ Some middle
  pub turned : Turned w e m a middle
  pub stepped : Stepped w e fx m middle c

-- ---- guards

abbrev tests_of : (Course → Bool) → (Course → List (Bool × Refusal)) → Option Course → List (Bool × Refusal)
tests_of p g o =
    elim o as (λ x. List (Bool × Refusal)) [
      | None ↦ (true, MissingCall) ∷ []
      | Some x ↦ elim (p x) as (λ y. List (Bool × Refusal)) [ false ↦ (true, MissingCall) ∷ [] | true ↦ g x ]
    ]

-- A call in flight of this kind, and what else is asked of it.
pub record InFlight (a : Machine) (c : ℕ) (p : Course → Bool) (g : Course → List (Bool × Refusal)) : Type 0 where
  pub course : Course
  pub flight : flight_of a c ≡ Some course
  pub kind : p course ≡ true
  pub others : NoneHolds (g course)

kind_by : (a : Machine) (c : ℕ) (p : Course → Bool) (g : Course → List (Bool × Refusal)) (f : Course) (t : Bool) → p f ≡ t → flight_of a c ≡ Some f
    → NoneHolds (elim t as (λ y. List (Bool × Refusal)) [ false ↦ (true, MissingCall) ∷ [] | true ↦ g f ]) → InFlight a c p g
kind_by a c p g f false is h n = absurd (true_is_false n.0)
kind_by a c p g f true is h n = record { course = f; flight = h; kind = is; others = n }

flies_by : (a : Machine) (c : ℕ) (p : Course → Bool) (g : Course → List (Bool × Refusal)) (o : Option Course) → flight_of a c ≡ o → NoneHolds (tests_of p g o) → InFlight a c p g
flies_by a c p g None is n = absurd (true_is_false n.0)
flies_by a c p g (Some f) is n = kind_by a c p g f (p f) refl is n

pub flies : (a : Machine) (c : ℕ) (p : Course → Bool) (g : Course → List (Bool × Refusal)) → NoneHolds (on_flight a c p g) → InFlight a c p g
flies a c p g n = flies_by a c p g (flight_of a c) refl n

sampled_flight : (w : World) (m c k : ℕ) (a : Machine) → may_happen w (Sample m c k) ≡ true → machine_at w m ≡ Some a → (f : Course) × (flight_of a c ≡ Some f)
unfolding event_tests
sampled_flight w m c k a may h = let x = flies a c is_read_course _ (on_this w m _ a h (passes w (Sample m c k) may)).1 in (x.course, x.flight)

fresh_name : (w : World) (m : ℕ) (name : List ℕ) (a : Machine) → may_happen w (StartDaemon m name) ≡ true → machine_at w m ≡ Some a
    → list_any (bytes_eq name) (names_of w) ≡ false
unfolding event_tests
fresh_name w m name a may h = (on_this w m _ a h (passes w (StartDaemon m name) may)).1.1.0

was_up : (w : World) (m : ℕ) (a : Machine) → may_happen w (Reset m) ≡ true → machine_at w m ≡ Some a → a.up ≡ true
unfolding event_tests
was_up w m a may h = not-false a.up (on_this w m _ a h (passes w (Reset m) may)).0

-- ---- what the event changes

sampling_keeps : (w : World) (k : ℕ) → KeepsAsking (sampled_more w k)
sampling_keeps w k = record { call = λ c. refl; daemon = λ c. refl; made = λ c. refl; answered = λ c. refl }

fating_keeps : (fate : Fate) → KeepsAsking (fated fate)
fating_keeps fate = record { call = λ c. refl; daemon = λ c. refl; made = λ c. refl; answered = λ c. refl }

asked : (w : World) (e : Event) → may_happen w e ≡ true → Asked (Turned w e) w e
asked w e may =
    record {
      pass = λ d growths is m a h. Clocked _ refl;
      sample = λ m c k is a h.
          let x = sampled_flight w m c k a (subst (λ y. may_happen w y ≡ true) is may) h in
          Called c (sampled_more w k) x.0 x.1 (sampling_keeps w k) refl;
      land = λ m c is a f h g t. Called c (fated Landed) f g (fating_keeps Landed) refl;
      tear = λ m c k bytes is a f h g t. Called c (fated Torn) f g (fating_keeps Torn) refl;
      done_read = λ m c is a f h g t. Called c (sampled_more w (sectors_left f)) f g (sampling_keeps w (sectors_left f)) refl;
      done_write = λ m c is a f h g t. Called c (fated Landed) f g (fating_keeps Landed) refl;
      drop_write = λ m c is a h.
          let x = drops w m c a (subst (λ y. may_happen w y ≡ true) is may) h in
          Called c (fated Dropped) x.0 x.1 (fating_keeps Dropped) refl;
      tested = λ m is a h. Tested _ refl;
      start = λ m name is a h.
          let may' : may_happen w (StartDaemon m name) ≡ true = subst (λ y. may_happen w y ≡ true) is may in
          let x = starts w m name a may' h in
          Began name is x.0 x.1 (fresh_name w m name a may' h) refl;
      crash = λ m is a h. Crashed is refl;
      reset = λ m is a h. Went_down is (was_up w m a (subst (λ y. may_happen w y ≡ true) is may) h) refl;
      restart = λ m is a h. Came_up is (restarts w m a (subst (λ y. may_happen w y ≡ true) is may) h) refl;
    }

pub becomes : (w : World) (e : Event) (fx : Effects) → may_happen w e ≡ true → EachMachine (Becomes w e fx) w (take_step (machine_of e) (input_of w e) fx (next_step (first_change e w)))
becomes w e fx may m a at =
    let v : World = next_step (first_change e w) in
    let p = each_first (Turned w e) e w (λ none m b. Stays refl) (asked w e may) m a at in
    let q = each_step (Stepped w e fx) (machine_of e) (input_of w e) fx v (λ n b. Elsewhere refl) (λ none b h. Alone none refl refl) (λ i is b h. Took i is refl refl) m p.0 p.1 in
    (q.0, q.1, record { middle = p.0; between = p.1; turned = p.2; stepped = q.2 })

-- ---- what the machine itself does

-- Effects that make no call and no move.
pub record IsQuiet (fx : Effects) : Type 0 where
  pub calls : fx.calls ≡ []
  pub moves : fx.moves ≡ []

own_quiet_at : (w : World) (e : Event) (a : Machine) → IsQuiet (own_effects w e a)
own_quiet_at w (Pass d growths) a = record { calls = refl; moves = refl }
own_quiet_at w (WakeUp m) a = record { calls = refl; moves = refl }
own_quiet_at w (GiveCommand m text) a = record { calls = refl; moves = refl }
own_quiet_at w (GiveLvm m line) a = record { calls = refl; moves = refl }
own_quiet_at w (GiveAsk m) a = record { calls = refl; moves = refl }
own_quiet_at w (Sample m c k) a = record { calls = refl; moves = refl }
own_quiet_at w (Land m c) a = record { calls = refl; moves = refl }
own_quiet_at w (Tear m c k bytes) a = record { calls = refl; moves = refl }
own_quiet_at w (AnswerCall m c ok) a = record { calls = refl; moves = refl }
own_quiet_at w (Do m c) a = record { calls = refl; moves = refl }
own_quiet_at w (DropWrite m c) a = record { calls = refl; moves = refl }
own_quiet_at w (Test m) a = record { calls = refl; moves = refl }
own_quiet_at w (ExitOf m p) a = record { calls = refl; moves = refl }
own_quiet_at w (SpawnedOf m p ok) a = record { calls = refl; moves = refl }
own_quiet_at w (StartDaemon m name) a = record { calls = refl; moves = refl }
own_quiet_at w (Crash m) a = record { calls = refl; moves = refl }
own_quiet_at w (Reset m) a = record { calls = refl; moves = refl }
own_quiet_at w (Restart m) a = record { calls = refl; moves = refl }

own_quiet_by : (w : World) (e : Event) (o : Option Machine) → IsQuiet (option_map_or (own_effects w e) o no_effects)
own_quiet_by w e None = record { calls = refl; moves = refl }
own_quiet_by w e (Some a) = own_quiet_at w e a

pub own_quiet : (w : World) (e : Event) → IsQuiet (own_effects_of w e)
own_quiet w e = own_quiet_by w e (machine_at w (machine_of e))
