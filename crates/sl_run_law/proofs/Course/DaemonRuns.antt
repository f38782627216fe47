-- Where an event gives an input to a daemon, one runs, before the event and at its step.
use Rattle.sl_run_law.proofs.Course.MachineTurns.{Began, Called, Came_up, Clocked, Crashed, Stays, Tested, Turned, Went_down}
use Rattle.sl_words.proofs.Options.{not_none, some_there, then_value}
use Rattle.sl_run.specs.Refusals.{event_tests, may_happen}
use Rattle.sl_run.specs.Inputs.{if_running, input_at, input_of, machine_of}
use Rattle.sl_run.specs.Worlds.{Daemon, Machine, World, machine_at}
use Rattle.sl_run.specs.declared.event.Event.TheVariants.{AnswerCall, Crash, Do, DropWrite, ExitOf, GiveAsk, GiveCommand, GiveLvm, Land, Pass, Reset, Restart, Sample, SpawnedOf, StartDaemon, Tear, Test, WakeUp}
use Rattle.sl_run.specs.declared.event.Event.{Event}
use Rattle.sl_run_law.proofs.Guards.{on_this, passes}
use Rattle.sl_trace.specs.declared.input.Input.TheVariants.{Exit, Line, Number, Spawned, Wake}
use Rattle.sl_trace.specs.declared.input.Input.{Input}
use Rattle.sl_words.proofs.CaseLaws.{no_value, none_some}
use Rattle.sl_words.proofs.WordLaws.{choose_some}
use Rattle.std.proofs.Common.{ap, refl, subst, sym, ◌∙◌}
use Rattle.std.specs.Prelude.{None, Option, Some, is_some, option_and_then, true, ℕ, ◌≡◌}

-- A daemon runs.
abbrev pub Runs : Machine → Type 0
Runs a = (d : Daemon) × (a.daemon ≡ Some d)

if_runs : (a : Machine) (j i : Input) → if_running a j ≡ Some i → Runs a
if_runs a j i h = some_there a.daemon (choose_some (is_some a.daemon) j i h).0

answer_runs : (w : World) (m c : ℕ) (ok : _) (a : Machine) → may_happen w (AnswerCall m c ok) ≡ true → machine_at w m ≡ Some a → Runs a
unfolding event_tests
answer_runs w m c ok a may h = not_none a.daemon (on_this w m _ a h (passes w (AnswerCall m c ok) may)).0

do_runs : (w : World) (m c : ℕ) (a : Machine) → may_happen w (Do m c) ≡ true → machine_at w m ≡ Some a → Runs a
unfolding event_tests
do_runs w m c a may h = not_none a.daemon (on_this w m _ a h (passes w (Do m c) may)).0

runs_at : (e : Event) (w : World) (a : Machine) (i : Input) → may_happen w e ≡ true → machine_at w (machine_of e) ≡ Some a → input_at w e a ≡ Some i → Runs a
runs_at (AnswerCall m c ok) w a i may at h = answer_runs w m c ok a may at
runs_at (Do m c) w a i may at h = do_runs w m c a may at
runs_at (WakeUp m) w a i may at h = if_runs a Wake i h
runs_at (GiveCommand m text) w a i may at h = if_runs a (Line text) i h
runs_at (GiveLvm m line) w a i may at h = if_runs a (Number line) i h
runs_at (GiveAsk m) w a i may at h = let x = then_value (λ text. if_running a (Line text)) a.locks.due i h in if_runs a (Line x.0) i x.2
runs_at (ExitOf m p) w a i may at h = if_runs a (Exit p) i h
runs_at (SpawnedOf m p ok) w a i may at h = if_runs a (Spawned p ok) i h
runs_at (Pass x g) w a i may at h = absurd (none_some i h)
runs_at (Sample m c k) w a i may at h = absurd (none_some i h)
runs_at (Land m c) w a i may at h = absurd (none_some i h)
runs_at (Tear m c k bytes) w a i may at h = absurd (none_some i h)
runs_at (DropWrite m c) w a i may at h = absurd (none_some i h)
runs_at (Test m) w a i may at h = absurd (none_some i h)
runs_at (StartDaemon m name) w a i may at h = absurd (none_some i h)
runs_at (Crash m) w a i may at h = absurd (none_some i h)
runs_at (Reset m) w a i may at h = absurd (none_some i h)
runs_at (Restart m) w a i may at h = absurd (none_some i h)

-- The input of an event, at its machine.
pub input_there : (w : World) (e : Event) (m : ℕ) (a : Machine) (i : Input) → machine_at w m ≡ Some a → m ≡ machine_of e → input_of w e ≡ Some i → input_at w e a ≡ Some i
input_there w e m a i at same has =
    ap (λ o. option_and_then (input_at w e) o) (sym (subst (λ k. machine_at w k ≡ Some a) same at)) ∙ has

pub runs_before : (w : World) (e : Event) (m : ℕ) (a : Machine) (i : Input) → may_happen w e ≡ true → machine_at w m ≡ Some a → m ≡ machine_of e
    → input_of w e ≡ Some i → Runs a
runs_before w e m a i may at same has = runs_at e w a i may (subst (λ k. machine_at w k ≡ Some a) same at) (input_there w e m a i at same has)

-- An event that begins or ends a daemon, or turns a machine off or on, gives no input.
gives_none : (w : World) (e k : Event) (i : Input) → e ≡ k → ((a : Machine) → input_at w k a ≡ None) → input_of w e ≡ Some i → ⊥
gives_none w e k i is none has = by (machine_at w (machine_of k)) (subst (λ x. input_of w x ≡ Some i) is has) where
  by : (o : Option Machine) → option_and_then (input_at w k) o ≡ Some i → ⊥
  by None h = none_some i h
  by (Some a) h = no_value i (input_at w k a) h (none a)

-- Where there is an input, the machine has the daemon that it had.
pub daemon_stays : (w : World) (e : Event) (m : ℕ) (a b : Machine) (i : Input) → input_of w e ≡ Some i → Turned w e m a b → b.daemon ≡ a.daemon
daemon_stays w e m a b i has (Stays is) = ap (λ (x : Machine). x.daemon) is
daemon_stays w e m a b i has (Clocked n is) = ap (λ (x : Machine). x.daemon) is
daemon_stays w e m a b i has (Called n f g h k is) = ap (λ (x : Machine). x.daemon) is
daemon_stays w e m a b i has (Tested t is) = ap (λ (x : Machine). x.daemon) is
daemon_stays w e m a b i has (Began name event up used fresh is) = absurd (gives_none w e (StartDaemon m name) i event (λ y. refl) has)
daemon_stays w e m a b i has (Crashed event is) = absurd (gives_none w e (Crash m) i event (λ y. refl) has)
daemon_stays w e m a b i has (Went_down event up is) = absurd (gives_none w e (Reset m) i event (λ y. refl) has)
daemon_stays w e m a b i has (Came_up event down is) = absurd (gives_none w e (Restart m) i event (λ y. refl) has)

pub runs_then : (w : World) (e : Event) (m : ℕ) (a b : Machine) (i : Input) → may_happen w e ≡ true → machine_at w m ≡ Some a → m ≡ machine_of e
    → input_of w e ≡ Some i → Turned w e m a b → Runs b
runs_then w e m a b i may at same has turned =
    let d = runs_before w e m a i may at same has in
    (d.0, daemon_stays w e m a b i has turned ∙ d.1)
