-- Where a quiet acquire begins: what stands before its line, and what the line finds there.
use Rattle.sl_due.specs.Due.{IsHostTrace, due}
use Rattle.sl_due.specs.CarriedLease.{read_area}
use Rattle.sl_due.specs.Steps.{begin_step, seen, with_input}
use Rattle.sl_run.specs.Lawful.{IsSetting}
use Rattle.sl_trace.specs.Counts.{held_here, limit_met, may_act}
use Rattle.sl_trace.specs.Leases.{freed, known, lease_calls, open_on, spot_of}
use Rattle.sl_headline.specs.Quiet.Step.AnswersLeadOn.{AsksQuietly, DoesAs, begun}
use Rattle.sl_headline.specs.Quiet.Events.CarriedStages.{Asked, OnCourse, Reads_area}
use Rattle.sl_headline.specs.Quiet.Events.AreaGoesOn.{IsLineOf, IsWellMade}
use Rattle.sl_run.specs.Inputs.{input_of, machine_of}
use Rattle.sl_run.specs.Quiet.{QuietStart, QuietStep}
use Rattle.sl_run.specs.Runs.{EachDaemon, Happening}
use Rattle.sl_run.specs.Safety.{LawfulRun, world_at}
use Rattle.sl_run.specs.Worlds.{Program, World, reading_now}
use Rattle.sl_run.specs.declared.header.Header.{Header}
use Rattle.sl_run.specs.declared.header.ResourceLine.{ResourceLine}
use Rattle.sl_sector.specs.declared.sector.Block.{Block}
use Rattle.sl_trace.specs.Sessions.{is_active, session_named}
use Rattle.sl_trace.specs.declared.session.Session.{Session}
use Rattle.sl_trace.specs.Traces.{Setting, Trace, next_job}
use Rattle.sl_trace.specs.declared.command.Command.TheVariants.{Acquire}
use Rattle.sl_trace.specs.declared.command.ResourceArg.{ResourceArg}
use Rattle.sl_trace.specs.declared.effects.LeaseStep.TheVariants.{ReadArea}
use Rattle.sl_trace.specs.declared.effects.Work.TheVariants.{ForJob}
use Rattle.sl_trace.specs.declared.input.Input.TheVariants.{Line}
use Rattle.std.specs.Prelude.{Bool, IsTrue, List, None, Ok, Some, [], false, ℕ, ◌++◌, ◌+◌, ◌∷◌, ◌≡◌, ◌≤◌}

-- What a daemon has where the line of a quiet acquire comes at this reading.
pub record IsQuietBefore (st : Setting) (past : Trace) (now : ℕ) (text : List ℕ) (r : ResourceArg) (shared : Bool) (p : ℕ) (persistent : Bool) (s : Session) : Type 0 where
  pub line : st.read text ≡ Ok (Acquire r shared p persistent)
  pub process : IsTrue (may_act past p)
  pub named : session_named st (seen (begin_step st past now)) r.lockspace ≡ Some s
  pub active : IsTrue (is_active st (seen (begin_step st past now)) s)
  pub free : held_here past (spot_of r) ≡ []
  pub calm : open_on st past (spot_of r) ≡ []
  pub room : limit_met st past s (spot_of r) false ≡ None

-- Its line finds the same: what a step does before its input makes no call, ends and grants nothing, removes the connection of no joined
-- session, and no count that a limit looks at rises by it.
abbrev pub LinesFindQuiet : Type 0
LinesFindQuiet =
    (st : Setting) (past : Trace) (now : ℕ) (text : List ℕ) (r : ResourceArg) (shared : Bool) (p : ℕ) (persistent : Bool) (s : Session) → IsSetting st → IsHostTrace st past
    → IsQuietBefore st past now text r shared p persistent s → AsksQuietly (begun st past now) text r shared p persistent s

-- So a quiet start of a world makes its read of the area due, and of leases, replies and grants nothing else.
abbrev pub StartsReadTheArea : Type 0
StartsReadTheArea =
    (w : World) (m : ℕ) (text : List ℕ) (r : ResourceArg) (shared : Bool) (p : ℕ) (q : QuietStart w m text r shared p) → IsSetting q.daemon.setting → IsHostTrace q.daemon.setting q.daemon.trace
    → DoesAs (due q.daemon.setting q.daemon.trace (reading_now q.machine) (Line text))
    (read_area q.session (spot_of r) (ForJob (next_job q.daemon.setting q.daemon.trace)) (ReadArea r.name) (with_input (Line text) (begun q.daemon.setting q.daemon.trace (reading_now q.machine))))

-- The area is of a resource of the header, as a leader of these names stands there.
abbrev pub StartsAreOfLines : Type 0
StartsAreOfLines =
    (p : Program) (h : Header) (xs : List Happening) → LawfulRun p h xs → EachDaemon IsWellMade (world_at p h xs) → (m n : ℕ) (text : List ℕ) (r : ResourceArg) (shared : Bool)
    → QuietStart (world_at p h xs) m text r shared n → (line : ResourceLine) × IsLineOf h r line

-- The own block that was submitted last, and what was freed, are of no later instance than the next, and nothing is accepted in that one.
pub record IsLow (w : World) (m : ℕ) (text : List ℕ) (r : ResourceArg) (shared : Bool) (p : ℕ) (q : QuietStart w m text r shared p) : Type 0 where
  pub own_low : (own : Block) → (known q.daemon.setting q.daemon.trace q.session (spot_of r)).own ≡ Some own → own.lver ≤ q.leader.lver + 1
  pub unaccepted : (own : Block) → (known q.daemon.setting q.daemon.trace q.session (spot_of r)).own ≡ Some own → own.lver ≡ q.leader.lver + 1 → own.bal ≡ 0
  pub freed_low : freed (lease_calls q.daemon.setting q.daemon.trace q.session (spot_of r)) ≤ q.leader.lver

abbrev pub StartIsLow : Type 0
StartIsLow =
    (p : Program) (h : Header) (xs : List Happening) → LawfulRun p h xs → EachDaemon IsWellMade (world_at p h xs) → (m n : ℕ) (text : List ℕ) (r : ResourceArg) (shared : Bool) (line : ResourceLine) → IsLineOf h r line
    → (q : QuietStart (world_at p h xs) m text r shared n) → IsLow (world_at p h xs) m text r shared n q

-- The acquire that begins there.
pub record IsAskedAt (w : World) (m : ℕ) (text : List ℕ) (r : ResourceArg) (shared : Bool) (p : ℕ) (start : QuietStart w m text r shared p) (q : Asked) : Type 0 where
  pub machine : q.machine ≡ m
  pub job : q.job ≡ next_job start.daemon.setting start.daemon.trace
  pub process : q.process ≡ p
  pub resource : q.resource ≡ r
  pub mode : (q.shared ≡ shared) × (q.persistent ≡ start.persistent)
  pub session : q.session ≡ start.session
  pub leader : q.leader ≡ start.leader

-- The event that brings the line makes the read of the area, and so begins the course.
abbrev pub StartsBeginCourses : Type 0
StartsBeginCourses =
    (p : Program) (h : Header) (now : List Happening) (x : Happening) → LawfulRun p h (now ++ x ∷ []) → EachDaemon IsWellMade (world_at p h (now ++ x ∷ []))
    → (m n : ℕ) (text : List ℕ) (r : ResourceArg) (shared : Bool) (line : ResourceLine) → IsLineOf h r line → (start : QuietStart (world_at p h now) m text r shared n) → IsLow (world_at p h now) m text r shared n start
    → machine_of x.0 ≡ m → input_of (world_at p h now) x.0 ≡ Some (Line text)
    → QuietStep (world_at p h now) x (world_at p h (now ++ x ∷ [])) m (next_job start.daemon.setting start.daemon.trace) r shared n start.session.number
    → (q : Asked) × IsAskedAt (world_at p h now) m text r shared n start q × OnCourse (world_at p h (now ++ x ∷ [])) q Reads_area
