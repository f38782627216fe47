-- How the area of a quiet acquire goes on over an event.
use Rattle.sl_due.specs.Due.{IsHostTrace}
use Rattle.sl_run.specs.Lawful.{IsSetting}
use Rattle.sl_trace.specs.Leases.{spot_of}
use Rattle.sl_headline.specs.Quiet.Events.CarriedStages.{AreaOnCourse, Asked, DaemonOnCourse, IsAskedOf, OnCourse, Stage}
use Rattle.sl_headline.specs.Quiet.Area.CalmAreas.{LeavesCalm}
use Rattle.sl_run.specs.EventChanges.{with_entry}
use Rattle.sl_run.specs.Quiet.{QuietStep}
use Rattle.sl_run.specs.Runs.{EachDaemon, Happening}
use Rattle.sl_run.specs.Safety.{LawfulRun, world_at}
use Rattle.sl_run.specs.Worlds.{Course, Daemon, Landing, Machine, Program, Stamp, World, is_open, is_write_course, machine_at, reading_now}
use Rattle.sl_run.specs.declared.header.Header.{Header}
use Rattle.sl_run.specs.declared.header.ResourceLine.{ResourceLine}
use Rattle.sl_trace.specs.declared.command.ResourceArg.{ResourceArg}
use Rattle.sl_trace.specs.Traces.{Setting, Trace}
use Rattle.sl_trace.specs.declared.effects.Effects.{Effects}
use Rattle.sl_trace.specs.declared.input.Answer.{Answer}
use Rattle.sl_trace.specs.declared.input.Input.TheVariants.{Answer as Told}
use Rattle.std.specs.Prelude.{Contains, List, Some, [], true, ℕ, ◌++◌, ◌∷◌, ◌≡◌, ◌⊎◌}

-- A write that was in flight lands.
pub record LandsNow (w v : World) : Type 0 where
  pub landing : Landing
  pub same : v.landings ≡ landing ∷ w.landings
  pub machine : ℕ
  pub host : Machine
  pub course : Course
  pub at : machine_at w machine ≡ Some host
  pub has : Contains host.calls course
  pub opens : is_open host course ≡ true
  pub writes : is_write_course course ≡ true
  pub place : (course.call.path ≡ landing.path) × (course.call.offset ≡ landing.offset)
  pub writer : landing.writer ≡ Some (machine, course.call.number)

-- An event lands nothing, or one write that was in flight.
abbrev pub LandingsGoOn : Type 0
LandingsGoOn =
    (p : Program) (h : Header) (now : List Happening) (x : Happening) → LawfulRun p h (now ++ x ∷ [])
    → ((world_at p h (now ++ x ∷ [])).landings ≡ (world_at p h now).landings) ⊎ LandsNow (world_at p h now) (world_at p h (now ++ x ∷ []))

-- The resource of the header at which the command's names point.
pub record IsLineOf (h : Header) (r : ResourceArg) (line : ResourceLine) : Type 0 where
  pub listed : Contains h.resources line
  pub path : line.path ≡ r.path
  pub offset : line.offset ≡ r.offset

-- So an event that disturbs nothing leaves the area of an acquire on its course, whether it answers the acquire's call or not.
abbrev pub AreaGoesOn : Type 0
AreaGoesOn =
    (p : Program) (h : Header) (now : List Happening) (x : Happening) → LawfulRun p h (now ++ x ∷ []) → (q : Asked) (stage : Stage) (line : ResourceLine) → IsLineOf h q.resource line
    → (a : Machine) (d : Daemon) → machine_at (world_at p h now) q.machine ≡ Some a → a.daemon ≡ Some d → IsSetting d.setting → IsHostTrace d.setting d.trace → IsAskedOf d.setting q
    → (c : DaemonOnCourse d.setting d.trace q stage) (made : ℕ) → AreaOnCourse (world_at p h now) q stage c.call.call.number made → LeavesCalm (world_at p h now) x (spot_of q.resource) q.machine
    → AreaOnCourse (world_at p h (now ++ x ∷ [])) q stage c.call.call.number made

-- ---- the whole course

-- Each daemon is made as it should be, and does what is due.
abbrev pub IsWellMade : Setting → Trace → Type 0
IsWellMade st es = IsSetting st × IsHostTrace st es

-- The event answers the acquire's call: the next entry of its daemon brings this answer.
pub record IsHeard (v : World) (q : Asked) (d : Daemon) (number : ℕ) : Type 0 where
  pub machine : Machine
  pub at : machine_at v q.machine ≡ Some machine
  pub answer : Answer
  pub effects : Effects
  pub now : Stamp
  pub runs : machine.daemon ≡ Some (with_entry (record { reading = reading_now machine; input = Told number answer; effects = effects }) now d)

-- A quiet event leaves the acquire at its call, or answers it.
abbrev pub CourseGoesOn : Type 0
CourseGoesOn =
    (p : Program) (h : Header) (now : List Happening) (x : Happening) → LawfulRun p h (now ++ x ∷ []) → EachDaemon IsWellMade (world_at p h (now ++ x ∷ [])) → (q : Asked) (stage : Stage) (line : ResourceLine)
    → IsLineOf h q.resource line → (c : OnCourse (world_at p h now) q stage)
    → QuietStep (world_at p h now) x (world_at p h (now ++ x ∷ [])) q.machine q.job q.resource q.shared q.process q.session.number
    → OnCourse (world_at p h (now ++ x ∷ [])) q stage ⊎ IsHeard (world_at p h (now ++ x ∷ [])) q c.daemon (c.host).call.call.number
