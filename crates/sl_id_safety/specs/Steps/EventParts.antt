-- An event of a run as steps of an id: first what it changes before a daemon's step, then that step.
use Rattle.sl_id_safety.specs.State.IdStates.{id_state}
use Rattle.sl_id_safety.specs.State.StateLaws.{IsIdPlace}
use Rattle.sl_ids.specs.Guards.{terms_of}
use Rattle.sl_ids.specs.Runs.{IsBounded, Later, Reached}
use Rattle.sl_ids.specs.State.{State}
use Rattle.sl_run.specs.EventChanges.{first_change, next_step}
use Rattle.sl_run.specs.Inputs.{input_of}
use Rattle.sl_run.specs.Runs.{Happening}
use Rattle.sl_run.specs.Safety.{LawfulRun, world_at}
use Rattle.sl_run.specs.Worlds.{Course, Machine, Program, World, flight_of, is_write_course, machine_at}
use Rattle.sl_run.specs.declared.event.Event.TheVariants.{AnswerCall, Crash, Do, DropWrite, ExitOf, GiveAsk, GiveCommand, GiveLvm, Land, Pass, Reset, Restart, Sample, SpawnedOf, StartDaemon, Tear, Test, WakeUp}
use Rattle.sl_run.specs.declared.event.Event.{Event}
use Rattle.sl_run.specs.declared.header.Header.{Header}
use Rattle.std.specs.Prelude.{IsSome, List, None, Some, false, true, [], ℕ, ◌++◌, ◌∷◌, ◌≡◌}

-- The world between an event's first change and its step.
abbrev pub between : World → Event → World
between w e = next_step (first_change e w)

-- Its id.
abbrev pub state_between : Program → Header → List Happening → Event → List ℕ → ℕ → State
state_between p h now e path offset = id_state (between (world_at p h now) e) path offset

-- The watchdogs keep the bounds there too.
abbrev pub BetweenIsBounded : Type 0
BetweenIsBounded = (p : Program) (h : Header) (now : List Happening) (x : Happening) (path : List ℕ) (offset : ℕ) → LawfulRun p h (now ++ x ∷ [])
    → IsBounded (terms_of h.timing) (state_between p h now x.0 path offset)

-- ---- the first change

-- What is said of the first change of events of a kind: the id goes on by its steps, as long as the watchdogs keep its bounds.
abbrev pub FirstChangesGoOn : (World → Event → Type 0) → Type 0
FirstChangesGoOn Kind = (p : Program) (h : Header) (now : List Happening) (x : Happening) (path : List ℕ) (offset : ℕ) → LawfulRun p h (now ++ x ∷ [])
    → IsIdPlace p h path offset → Kind (world_at p h now) x.0 → Reached (terms_of h.timing) (id_state (world_at p h now) path offset)
    → IsBounded (terms_of h.timing) (state_between p h now x.0 path offset)
    → Later (terms_of h.timing) (id_state (world_at p h now) path offset) (state_between p h now x.0 path offset)

-- A call in flight that is done: of this kind.
abbrev pub DoesCall : World → ℕ → ℕ → (Course → Type 0) → Type 0
DoesCall w m n P = (a : Machine) (c : Course) → machine_at w m ≡ Some a → flight_of a n ≡ Some c → P c

-- A write lands whole or torn, or is dropped.
abbrev pub IsLandingEvent : World → Event → Type 0
IsLandingEvent w (Land m n) = Unit {0}
IsLandingEvent w (Tear m n k bytes) = Unit {0}
IsLandingEvent w (DropWrite m n) = Unit {0}
IsLandingEvent w (Do m n) = DoesCall w m n (λ c. is_write_course c ≡ true)
IsLandingEvent w e = ⊥

abbrev pub LandingsGoOn : Type 0
LandingsGoOn = FirstChangesGoOn IsLandingEvent

-- A read is sampled.
abbrev pub IsSamplingEvent : World → Event → Type 0
IsSamplingEvent w (Sample m n k) = Unit {0}
IsSamplingEvent w (Do m n) = DoesCall w m n (λ c. is_write_course c ≡ false)
IsSamplingEvent w e = ⊥

abbrev pub SamplingsGoOn : Type 0
SamplingsGoOn = FirstChangesGoOn IsSamplingEvent

-- A daemon or its machine ends.
abbrev pub IsEndingEvent : World → Event → Type 0
IsEndingEvent w (Crash m) = Unit {0}
IsEndingEvent w (Reset m) = Unit {0}
IsEndingEvent w e = ⊥

abbrev pub EndingsGoOn : Type 0
EndingsGoOn = FirstChangesGoOn IsEndingEvent

-- What changes nothing of an id, but maybe the moment, and with it which sessions are over.
abbrev pub IsQuietEvent : World → Event → Type 0
IsQuietEvent w (Pass d growths) = Unit {0}
IsQuietEvent w (WakeUp m) = Unit {0}
IsQuietEvent w (GiveCommand m text) = Unit {0}
IsQuietEvent w (GiveLvm m line) = Unit {0}
IsQuietEvent w (GiveAsk m) = Unit {0}
IsQuietEvent w (AnswerCall m n ok) = Unit {0}
IsQuietEvent w (Test m) = Unit {0}
IsQuietEvent w (ExitOf m process) = Unit {0}
IsQuietEvent w (SpawnedOf m process ok) = Unit {0}
IsQuietEvent w (StartDaemon m name) = Unit {0}
IsQuietEvent w (Restart m) = Unit {0}
IsQuietEvent w e = ⊥

abbrev pub QuietChangesGoOn : Type 0
QuietChangesGoOn = FirstChangesGoOn IsQuietEvent

-- ---- the step

-- What is said of the step after it: with an input that a daemon takes, or without.
abbrev pub StepsGoOn : (World → Event → Type 0) → Type 0
StepsGoOn Kind = (p : Program) (h : Header) (now : List Happening) (x : Happening) (path : List ℕ) (offset : ℕ) → LawfulRun p h (now ++ x ∷ [])
    → IsIdPlace p h path offset → Kind (world_at p h now) x.0 → Reached (terms_of h.timing) (state_between p h now x.0 path offset)
    → IsBounded (terms_of h.timing) (id_state (world_at p h (now ++ x ∷ [])) path offset)
    → Later (terms_of h.timing) (state_between p h now x.0 path offset) (id_state (world_at p h (now ++ x ∷ [])) path offset)

-- What a machine does by itself.
abbrev pub OwnStepsGoOn : Type 0
OwnStepsGoOn = StepsGoOn (λ w e. input_of w e ≡ None)

-- An entry of a daemon.
abbrev pub EntriesGoOn : Type 0
EntriesGoOn = StepsGoOn (λ w e. IsSome (input_of w e))
