-- What is known of jobs: whose they are, and what their calls have to do with their commands.
use Rattle.sl_trace.specs.Jobs.{aim_of_command, command_numbered, resource_named}
use Rattle.sl_trace.specs.Leases.{spot_of, spot_of_call}
use Rattle.sl_trace.specs.Sessions.{is_session_arg, joining_session, session_numbered, sessions}
use Rattle.sl_trace.specs.declared.session.Session.{Session}
use Rattle.sl_due_facts.specs.Facts.HeardCall.{IsOpen}
use Rattle.sl_trace.specs.Traces.{Child, Setting, Submitted, Trace, children, is_running, job_numbered, job_of, submitted}
use Rattle.sl_trace.specs.declared.command.Command.TheVariants.{AddLockspace, GetLvb, RemLockspace, Request, RunProgram, SetLvb}
use Rattle.sl_trace.specs.declared.command.Command.{Command}
use Rattle.sl_trace.specs.declared.command.LockspaceArg.{LockspaceArg}
use Rattle.sl_trace.specs.declared.command.ResourceArg.{ResourceArg}
use Rattle.sl_trace.specs.declared.effects.LeaseRead.TheVariants.{OfArea}
use Rattle.sl_trace.specs.declared.effects.LeaseStep.TheVariants.{ReadAgain, ReadArea}
use Rattle.sl_trace.specs.declared.effects.LeaseStep.{LeaseStep}
use Rattle.sl_trace.specs.declared.effects.Purpose.TheVariants.{Joining, Lease, Leaving, RequestRead, RequestWrite, ValueRead, ValueWrite}
use Rattle.sl_trace.specs.declared.effects.Purpose.{Purpose}
use Rattle.std.specs.Prelude.{Bool, Contains, IsSome, IsTrue, List, Option, Some, false, ℕ, ◌≡◌}

-- A call on a resource's area is of the command's resource, in the session's lockspace.
abbrev pub IsOfResource : Setting → Session → Submitted → ResourceArg → Type 0
IsOfResource st s m r = (r.lockspace ≡ s.lockspace) × (spot_of_call st.layout m ≡ spot_of r)

-- A lease's call, by its step: the read of the area seeks the resource, also where it is made once more.
abbrev pub SeeksResource : ResourceArg → LeaseStep → Type 0
SeeksResource r (ReadArea name) = name ≡ r.name
SeeksResource r (ReadAgain (OfArea name)) = name ≡ r.name
SeeksResource r step = Unit {0}

-- What a job's call has to do with its command, by what the call is for.
abbrev pub FitsCommand : Setting → Session → Submitted → Command → Purpose → Type 0
FitsCommand st s m c (Joining j step) = s.job ≡ Some j
FitsCommand st s m c (Leaving j) = (a : LockspaceArg) × (c ≡ RemLockspace a) × IsTrue (is_session_arg s a)
FitsCommand st s m c (Lease work step) =
    (r : ResourceArg) × (resource_named c ≡ Some r) × IsSome (aim_of_command c) × IsOfResource st s m r × SeeksResource r step
FitsCommand st s m c (RequestRead j) = (r : ResourceArg) × (lver force : ℕ) × (c ≡ Request r lver force) × IsOfResource st s m r
FitsCommand st s m c (RequestWrite j owner) = (r : ResourceArg) × (lver force : ℕ) × (c ≡ Request r lver force) × IsOfResource st s m r
FitsCommand st s m c (ValueRead j) = (r : ResourceArg) × (p : ℕ) × (c ≡ GetLvb r p) × IsOfResource st s m r
FitsCommand st s m c (ValueWrite j) = (r : ResourceArg) × (p : ℕ) × (bytes : List ℕ) × (c ≡ SetLvb r p bytes) × IsOfResource st s m r
FitsCommand st s m c p = Unit {0}

pub record JobFacts (st : Setting) (t : Trace) (heard : Option ℕ) : Type 0 where
  -- the line's own job has no reply and no call before it is seen
  pub replied : (j : ℕ) → is_running t j ≡ false → IsSome (job_numbered st t j)
  -- the command of a call's job was read
  pub called : (m : Submitted) (j : ℕ) → Contains (submitted t) m → job_of m.call.purpose ≡ Some j → IsSome (command_numbered st t j)
  pub joins : (s : Session) (j : ℕ) → Contains (sessions st t) s → s.job ≡ Some j →
      (a : LockspaceArg) × (command_numbered st t j ≡ Some (AddLockspace a)) × (s ≡ joining_session s.number j a)
  pub starts : (k : Child) (j : ℕ) → Contains (children t) k → k.job ≡ Some j →
      (r : ResourceArg) × (shared : Bool) × (path : List ℕ) × (command_numbered st t j ≡ Some (RunProgram r shared path))
  pub fits : (m : Submitted) (j : ℕ) (s : Session) (c : Command) → Contains (submitted t) m → job_of m.call.purpose ≡ Some j →
      session_numbered st t m.call.session ≡ Some s → command_numbered st t j ≡ Some c → FitsCommand st s m c m.call.purpose
  -- so an overdue call is its job's
  pub one : (m n : Submitted) (j : ℕ) → Contains (submitted t) m → Contains (submitted t) n → IsOpen t heard m → IsOpen t heard n →
      job_of m.call.purpose ≡ Some j → job_of n.call.purpose ≡ Some j → m ≡ n
