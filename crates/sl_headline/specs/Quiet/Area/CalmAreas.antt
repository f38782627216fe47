-- Which writes are in flight on the area of a quiet acquire: the running daemon's alone, and of it the job's alone.
use Rattle.sl_due.specs.Due.{IsHostTrace}
use Rattle.sl_safety.specs.Resources.HistoryLaws.{spot_of_line}
use Rattle.sl_run.specs.Lawful.{IsSetting}
use Rattle.sl_run.specs.LawfulArea.{is_area_work}
use Rattle.sl_trace.specs.Leases.{is_on}
use Rattle.sl_run.specs.Inputs.{input_of, machine_of}
use Rattle.sl_run.specs.Runs.{Happening}
use Rattle.sl_run.specs.Safety.{LawfulRun, world_at}
use Rattle.sl_run.specs.Worlds.{Course, Daemon, Machine, Program, World, daemon_numbered, is_of_running, is_open, is_write_course, machine_at}
use Rattle.sl_run.specs.declared.event.Event.TheVariants.{Crash, Reset}
use Rattle.sl_run.specs.declared.header.Header.{Header}
use Rattle.sl_run.specs.declared.header.ResourceLine.{ResourceLine}
use Rattle.sl_trace.specs.Sessions.{session_numbered}
use Rattle.sl_trace.specs.declared.session.Session.{Session}
use Rattle.sl_trace.specs.Traces.{Submitted, is_write, submitted}
use Rattle.sl_trace.specs.declared.effects.Call.{Call}
use Rattle.sl_trace.specs.declared.effects.Effects.{Effects}
use Rattle.sl_trace.specs.declared.effects.Spot.{Spot}
use Rattle.std.specs.Prelude.{Contains, IsSome, IsTrue, List, None, Some, [], true, ℕ, ◌&&◌, ◌++◌, ◌∷◌, ◌≡◌, ◌⊎◌}

-- ---- open calls

-- The call was in flight before: the same, of the same daemon.
pub record WasOpen (a : Machine) (d : Course) : Type 0 where
  pub course : Course
  pub has : Contains a.calls course
  pub call : course.call ≡ d.call
  pub daemon : course.daemon ≡ d.daemon
  pub opens : is_open a course ≡ true

-- The event makes the call: it is one of the step's, of the daemon that runs.
pub record IsMadeNow (w : World) (x : Happening) (m : ℕ) (b : Machine) (d : Course) : Type 0 where
  pub machine : machine_of x.0 ≡ m
  pub input : IsSome (input_of w x.0)
  pub effects : Effects
  pub step : Contains x.1 effects
  pub call : Contains effects.calls d.call
  pub runs : is_of_running b d ≡ true

-- What is in flight after an event was in flight before it, or is made by it.
abbrev pub OpenCallsGoOn : Type 0
OpenCallsGoOn =
    (p : Program) (h : Header) (now : List Happening) (x : Happening) → LawfulRun p h (now ++ x ∷ []) → (m : ℕ) (b : Machine) (d : Course)
    → machine_at (world_at p h (now ++ x ∷ [])) m ≡ Some b → Contains b.calls d → is_open b d ≡ true
    → ((a : Machine) × (machine_at (world_at p h now) m ≡ Some a) × WasOpen a d) ⊎ IsMadeNow (world_at p h now) x m b d

-- ---- whose writes they are

-- The session that wrote there: for its work on the area, in the resource's lockspace.
pub record IsWriteFor (r : ResourceLine) (a : Machine) (c : Course) : Type 0 where
  pub daemon : Daemon
  pub numbered : daemon_numbered a c.daemon ≡ Some daemon
  pub session : Session
  pub its : session_numbered daemon.setting daemon.trace c.call.session ≡ Some session
  pub works : IsTrue (is_area_work c.call.purpose)
  pub lockspace : session.lockspace ≡ r.lockspace

-- Each write that was ever submitted on a resource's area was one.
abbrev pub WritesAreWork : Type 0
WritesAreWork =
    (p : Program) (h : Header) (xs : List Happening) (r : ResourceLine) → LawfulRun p h xs → Contains h.resources r → (m : ℕ) (a : Machine) (c : Course) → machine_at (world_at p h xs) m ≡ Some a
    → Contains a.calls c → IsTrue (is_write_course c) → IsTrue (is_on (world_at p h xs).layout (spot_of_line r) c.call) → IsWriteFor r a c

-- ---- calm

-- No write is in flight on the area but those of the daemon that runs on this machine.
abbrev pub IsCalm : World → Spot → ℕ → Type 0
IsCalm w at machine = (k : ℕ) (a : Machine) (c : Course) → machine_at w k ≡ Some a → Contains a.calls c → IsTrue (is_write_course c && is_open a c && is_on w.layout at c.call)
    → (k ≡ machine) × (is_of_running a c ≡ true)

-- The event disturbs nothing: no other machine's daemon submits a write there, and this one's runs on.
pub record LeavesCalm (w : World) (x : Happening) (at : Spot) (machine : ℕ) : Type 0 where
  pub others : (fx : Effects) (c : Call) → Contains x.1 fx → Contains fx.calls c → (machine_of x.0 ≡ machine → ⊥) → IsTrue (is_write c.op) → IsTrue (is_on w.layout at c) → ⊥
  pub runs_on : (x.0 ≡ Crash machine → ⊥) × (x.0 ≡ Reset machine → ⊥)

-- So it is after each event that disturbs nothing.
abbrev pub CalmGoesOn : Type 0
CalmGoesOn =
    (p : Program) (h : Header) (now : List Happening) (x : Happening) → LawfulRun p h (now ++ x ∷ []) → (at : Spot) (machine : ℕ) (a : Machine) (d : Daemon)
    → machine_at (world_at p h now) machine ≡ Some a → a.daemon ≡ Some d → LeavesCalm (world_at p h now) x at machine → IsCalm (world_at p h now) at machine
    → IsCalm (world_at p h (now ++ x ∷ [])) at machine

-- And where the daemon does what is due and works there, the one call that it has open on the area is the only one in flight there that writes.
abbrev pub OneWriteInFlight : Type 0
OneWriteInFlight =
    (p : Program) (h : Header) (xs : List Happening) (r : ResourceLine) → LawfulRun p h xs → Contains h.resources r → (machine : ℕ) (a : Machine) (d : Daemon)
    → machine_at (world_at p h xs) machine ≡ Some a → a.daemon ≡ Some d → IsSetting d.setting → IsHostTrace d.setting d.trace → IsCalm (world_at p h xs) (spot_of_line r) machine
    → (m : Submitted) → Contains (submitted d.trace) m → m.answer ≡ None → IsTrue (is_area_work m.call.purpose) → IsTrue (is_on (world_at p h xs).layout (spot_of_line r) m.call)
    → (k : ℕ) (b : Machine) (c : Course) → machine_at (world_at p h xs) k ≡ Some b → Contains b.calls c → IsTrue (is_write_course c && is_open b c && is_on (world_at p h xs).layout (spot_of_line r) c.call)
    → (k ≡ machine) × (c.call ≡ m.call)
