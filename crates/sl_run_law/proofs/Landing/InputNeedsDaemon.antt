-- Where an event has an input a daemon runs; its entry has the effects of the step. Where it has none no calls are made.
use Rattle.sl_run_law.proofs.Landing.OneArrival.{changed_here}
use Rattle.sl_run_law.proofs.Landing.LandingGuards.{answer_runs, do_runs}
use Rattle.sl_run_law.proofs.Landing.OneEvent.{world_first, world_then}
use Rattle.sl_run_law.proofs.Landing.CallsOfStep.{same_daemon}
use Rattle.sl_words.proofs.Options.{some_there, then_value}
use Rattle.sl_run.specs.EventChanges.{after_step, first_change, own_effects, take_step, with_entry}
use Rattle.sl_run.specs.Inputs.{if_running, input_at, input_of, machine_of}
use Rattle.sl_run.specs.Refusals.{may_happen}
use Rattle.sl_run.specs.Runs.{own_effects_of}
use Rattle.sl_run.specs.Worlds.{Daemon, Machine, Stamp, World, machine_at, reading_now, stamp_now}
use Rattle.sl_run.specs.declared.event.Event.TheVariants.{AnswerCall, Crash, Do, DropWrite, ExitOf, GiveAsk, GiveCommand, GiveLvm, Land, Pass, Reset, Restart, Sample, SpawnedOf, StartDaemon, Tear, Test, WakeUp}
use Rattle.sl_run.specs.declared.event.Event.{Event}
use Rattle.sl_run_law.proofs.MachineWalk.{Asked, each_first}
use Rattle.sl_run_law.specs.Machines.{EachMachine}
use Rattle.sl_trace.specs.Traces.{no_effects}
use Rattle.sl_trace.specs.declared.effects.Effects.{Effects}
use Rattle.sl_trace.specs.declared.effects.Entry.{Entry}
use Rattle.sl_trace.specs.declared.input.Input.TheVariants.{Exit, Line, Number, Spawned, Wake}
use Rattle.sl_trace.specs.declared.input.Input.{Input}
use Rattle.sl_words.proofs.CaseLaws.{none_some, true_is_false}
use Rattle.sl_words.proofs.WordLaws.{choose_some}
use Rattle.std.proofs.Common.{ap, refl, subst, sym, ◌∙◌}
use Rattle.std.specs.Option.{option_map_or}
use Rattle.std.specs.Prelude.{List, None, Option, Some, false, is_none, is_some, option_and_then, option_map, true, [], ℕ, ◌≡◌}

-- ---- a daemon runs

is_there : (o : Option Daemon) → is_none o ≡ false → is_some o ≡ true
is_there None h = absurd (true_is_false h)
is_there (Some d) h = refl

runs_at : (e : Event) (w : World) (a : Machine) (i : Input) → may_happen w e ≡ true → machine_at w (machine_of e) ≡ Some a → input_at w e a ≡ Some i
    → is_some a.daemon ≡ true
runs_at (WakeUp m) w a i may at h = (choose_some (is_some a.daemon) Wake i h).0
runs_at (GiveCommand m text) w a i may at h = (choose_some (is_some a.daemon) (Line text) i h).0
runs_at (GiveLvm m line) w a i may at h = (choose_some (is_some a.daemon) (Number line) i h).0
runs_at (GiveAsk m) w a i may at h =
    let x = then_value (λ text. if_running a (Line text)) a.locks.due i h in (choose_some (is_some a.daemon) (Line x.0) i x.2).0
runs_at (AnswerCall m c ok) w a i may at h = is_there a.daemon (answer_runs w m c ok a may at)
runs_at (Do m c) w a i may at h = is_there a.daemon (do_runs w m c a may at)
runs_at (ExitOf m p) w a i may at h = (choose_some (is_some a.daemon) (Exit p) i h).0
runs_at (SpawnedOf m p ok) w a i may at h = (choose_some (is_some a.daemon) (Spawned p ok) i h).0
runs_at (Pass d growths) w a i may at h = absurd (none_some i h)
runs_at (Sample m c k) w a i may at h = absurd (none_some i h)
runs_at (Land m c) w a i may at h = absurd (none_some i h)
runs_at (Tear m c k bytes) w a i may at h = absurd (none_some i h)
runs_at (DropWrite m c) w a i may at h = absurd (none_some i h)
runs_at (Test m) w a i may at h = absurd (none_some i h)
runs_at (StartDaemon m name) w a i may at h = absurd (none_some i h)
runs_at (Crash m) w a i may at h = absurd (none_some i h)
runs_at (Reset m) w a i may at h = absurd (none_some i h)
runs_at (Restart m) w a i may at h = absurd (none_some i h)

pub input_here : (w : World) (e : Event) (a : Machine) (i : Input) → machine_at w (machine_of e) ≡ Some a → input_of w e ≡ Some i → input_at w e a ≡ Some i
input_here w e a i at h = ap (λ (o : Option Machine). option_and_then (input_at w e) o) (sym at) ∙ h

pub input_runs : (w : World) (e : Event) (a : Machine) (i : Input) → may_happen w e ≡ true → machine_at w (machine_of e) ≡ Some a → input_of w e ≡ Some i
    → is_some a.daemon ≡ true
input_runs w e a i may at h = runs_at e w a i may at (input_here w e a i at h)

-- ---- .. and goes on running

no_input : (g : Machine → Option Input) → ((a : Machine) → g a ≡ None) → (o : Option Machine) (i : Input) → option_and_then g o ≡ Some i → ⊥
no_input g none None i h = none_some i h
no_input g none (Some a) i h = none_some i (sym (none a) ∙ h)

abbrev StaysRunning : World → Event → ℕ → Machine → Machine → Type 0
StaysRunning w e m a b = (i : Input) → input_of w e ≡ Some i → b.daemon ≡ a.daemon

start_has_none : (w : World) (e : Event) (m : ℕ) (name : List ℕ) (i : Input) → e ≡ StartDaemon m name → input_of w e ≡ Some i → ⊥
start_has_none w e m name i is h =
    no_input (input_at w (StartDaemon m name)) (λ a. refl) (machine_at w m) i (subst (λ x. input_of w x ≡ Some i) is h)

crash_has_none : (w : World) (e : Event) (m : ℕ) (i : Input) → e ≡ Crash m → input_of w e ≡ Some i → ⊥
crash_has_none w e m i is h = no_input (input_at w (Crash m)) (λ a. refl) (machine_at w m) i (subst (λ x. input_of w x ≡ Some i) is h)

reset_has_none : (w : World) (e : Event) (m : ℕ) (i : Input) → e ≡ Reset m → input_of w e ≡ Some i → ⊥
reset_has_none w e m i is h = no_input (input_at w (Reset m)) (λ a. refl) (machine_at w m) i (subst (λ x. input_of w x ≡ Some i) is h)

asked : (w : World) (e : Event) → Asked (StaysRunning w e) w e
asked w e =
    record {
      pass = λ d growths is m a h i k. refl;
      sample = λ m c k is a h i j. refl;
      land = λ m c is a f h g t i k. refl;
      tear = λ m c k bytes is a f h g t i j. refl;
      done_read = λ m c is a f h g t i k. refl;
      done_write = λ m c is a f h g t i k. refl;
      drop_write = λ m c is a h i k. refl;
      tested = λ m is a h i k. refl;
      start = λ m name is a h i k. absurd (start_has_none w e m name i is k);
      crash = λ m is a h i k. absurd (crash_has_none w e m i is k);
      reset = λ m is a h i k. absurd (reset_has_none w e m i is k);
      restart = λ m is a h i k. refl;
    }

pub stays_running : (w : World) (e : Event) → EachMachine (StaysRunning w e) w (first_change e w)
stays_running w e = each_first (StaysRunning w e) e w (λ none m a i h. refl) (asked w e)

-- ---- its entry

-- The entry that a step adds.
abbrev pub step_entry : Input → Effects → Machine → Entry
step_entry i fx a = record { reading = reading_now a; input = i; effects = fx }

-- The daemon with its new entry, on its machine after the event.
pub record HasEntry (w : World) (e : Event) (fx : Effects) (i : Input) : Type 0 where
  pub machine : Machine
  pub daemon : Daemon
  pub entry : Entry
  pub now : Stamp
  pub at : machine_at (world_then w e fx) (machine_of e) ≡ Some machine
  pub runs : machine.daemon ≡ Some (with_entry entry now daemon)
  pub effects : entry.effects ≡ fx

stepped_at : (w : World) (e : Event) (fx : Effects) (i : Input) (x : Machine) → input_of w e ≡ Some i → machine_at (world_first w e) (machine_of e) ≡ Some x
    → machine_at (world_then w e fx) (machine_of e) ≡ Some (after_step (stamp_now (world_first w e) x) i fx x)
stepped_at w e fx i x h at =
    subst (λ o. machine_at (take_step (machine_of e) o fx (world_first w e)) (machine_of e) ≡ Some (after_step (stamp_now (world_first w e) x) i fx x)) (sym h)
    (changed_here (machine_of e) (λ a. after_step (stamp_now (world_first w e) a) i fx a) (world_first w e) x at)

pub has_entry : (w : World) (e : Event) (fx : Effects) (i : Input) (a : Machine) → may_happen w e ≡ true → machine_at w (machine_of e) ≡ Some a
    → input_of w e ≡ Some i → HasEntry w e fx i
has_entry w e fx i a may at h =
    let first = stays_running w e (machine_of e) a at in
    let x : Machine = first.0 in
    let now : Stamp = stamp_now (world_first w e) x in
    let d = some_there a.daemon (input_runs w e a i may at h) in
    record {
      machine = after_step now i fx x;
      daemon = d.0;
      entry = step_entry i fx x;
      now = now;
      at = stepped_at w e fx i x h first.1;
      runs = ap (option_map (with_entry (step_entry i fx x) now)) (same_daemon now i x ∙ (first.2 i h ∙ d.1));
      effects = refl;
    }

-- ---- without an input

own_calls : (e : Event) (w : World) (a : Machine) → (own_effects w e a).calls ≡ []
own_calls (ExitOf m p) w a = refl
own_calls (Reset m) w a = refl
own_calls (WakeUp m) w a = refl
own_calls (GiveCommand m text) w a = refl
own_calls (GiveLvm m line) w a = refl
own_calls (GiveAsk m) w a = refl
own_calls (AnswerCall m c ok) w a = refl
own_calls (Do m c) w a = refl
own_calls (SpawnedOf m p ok) w a = refl
own_calls (Pass d growths) w a = refl
own_calls (Sample m c k) w a = refl
own_calls (Land m c) w a = refl
own_calls (Tear m c k bytes) w a = refl
own_calls (DropWrite m c) w a = refl
own_calls (Test m) w a = refl
own_calls (StartDaemon m name) w a = refl
own_calls (Crash m) w a = refl
own_calls (Restart m) w a = refl

pub own_by : (w : World) (e : Event) (o : Option Machine) → (option_map_or (own_effects w e) o no_effects).calls ≡ []
own_by w e None = refl
own_by w e (Some a) = own_calls e w a

-- The machine itself makes no call.
pub own_makes_none : (w : World) (e : Event) → (own_effects_of w e).calls ≡ []
own_makes_none w e = own_by w e (machine_at w (machine_of e))
