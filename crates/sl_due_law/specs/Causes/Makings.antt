-- What a step so far has made for a job: what stands behind its calls on leases, requests and values, behind the start of a program, and to
-- whom it has given what is held. All is said by what came before the step, by its input and by what it has granted.
use Rattle.sl_due.specs.CarriedLease.{grant_of}
use Rattle.sl_due.specs.Steps.{Step, seen}
use Rattle.sl_due_law.specs.Causes.CauseFacts.{IsTold, WaitsFor}
use Rattle.sl_due_facts.specs.Facts.HeardCall.{heard_by}
use Rattle.sl_run.specs.Caused.{IsAccepted}
use Rattle.sl_trace.specs.Jobs.{command_numbered, process_named}
use Rattle.sl_sector.specs.declared.sector.Rec.TheVariants.{RequestIs, ValueIs}
use Rattle.sl_sector.specs.declared.sector.Request.{Request as RequestRec}
use Rattle.sl_sector.specs.declared.sector.ValueRec.{ValueRec}
use Rattle.sl_trace.specs.Sessions.{is_join_call, sessions}
use Rattle.sl_trace.specs.declared.session.Session.{Session}
use Rattle.sl_trace.specs.Traces.{Setting, Submitted, Trace, is_shared, next_child, next_job, no_process, record_of, submitted}
use Rattle.sl_trace.specs.declared.command.Command.{Command}
use Rattle.sl_trace.specs.declared.command.Command.TheVariants.{Request, RunProgram, SetLvb}
use Rattle.sl_trace.specs.declared.command.ResourceArg.{ResourceArg}
use Rattle.sl_trace.specs.declared.effects.Call.{Call}
use Rattle.sl_trace.specs.declared.effects.Grant.{Grant}
use Rattle.sl_trace.specs.declared.effects.JoinStep.TheVariants.{FirstRead}
use Rattle.sl_trace.specs.declared.effects.Mode.{Mode}
use Rattle.sl_trace.specs.declared.effects.Op.{Op}
use Rattle.sl_trace.specs.declared.effects.Purpose.{Purpose}
use Rattle.sl_trace.specs.declared.effects.Purpose.TheVariants.{Lease, RequestRead, RequestWrite, ValueWrite}
use Rattle.sl_trace.specs.declared.effects.Start.{Start}
use Rattle.sl_trace.specs.declared.effects.Work.TheVariants.{ForJob}
use Rattle.sl_trace.specs.declared.input.Answer.TheVariants.{Read}
use Rattle.sl_trace.specs.declared.input.Input.{Input}
use Rattle.sl_trace.specs.declared.input.Input.TheVariants.{Answer as Told, Line}
use Rattle.std.specs.Prelude.{Bool, Contains, IsTrue, List, None, Ok, Some, [], false, ℕ, ◌∷◌, ◌≡◌, ◌≤◌, ◌⊎◌}

-- The step's line begins the job; or the answer to a call of its lease was heard.
pub data FromJob (st : Setting) (past : Trace) (i : Input) (j : ℕ) : Type 0 where
  By_line : (text : List ℕ) (c : Command) → i ≡ Line text → j ≡ next_job st past → st.read text ≡ Ok c →
      ((p : ℕ) → process_named c ≡ Some p → IsTold past p) → FromJob st past i j
  By_answer : (m : Submitted) → WaitsFor past m j → heard_by i ≡ Some m.call.number → FromJob st past i j

-- What the job's line says: the step's own, or one before.
abbrev pub Says : Setting → Trace → Input → ℕ → Command → Type 0
Says st past i j c = ((text : List ℕ) × (i ≡ Line text) × (j ≡ next_job st past) × (st.read text ≡ Ok c)) ⊎ (command_numbered st past j ≡ Some c)

-- The request that is written was let pass by the read whose answer was heard.
pub record AskedBy (st : Setting) (past : Trace) (i : Input) (op : Op) (j : ℕ) : Type 0 where
  pub read : Submitted
  pub there : Contains (submitted past) read
  pub opens : read.answer ≡ None
  pub for : read.call.purpose ≡ RequestRead j
  pub bytes : List ℕ
  pub input : i ≡ Told read.call.number (Read bytes)
  pub resource : ResourceArg
  pub asked : ℕ
  pub force : ℕ
  pub command : command_numbered st past j ≡ Some (Request resource asked force)
  pub accepted : IsAccepted st.layout bytes asked force
  pub written : RequestRec
  pub writes : (record_of op ≡ Some (RequestIs written)) × (written.lver ≡ asked) × (written.force ≡ force)

-- The value that is written came with the line.
pub record SetBy (st : Setting) (past : Trace) (i : Input) (op : Op) (j : ℕ) : Type 0 where
  pub text : List ℕ
  pub line : i ≡ Line text
  pub own : j ≡ next_job st past
  pub resource : ResourceArg
  pub process : ℕ
  pub value : ValueRec
  pub says : st.read text ≡ Ok (SetLvb resource process value.bytes)
  pub writes : record_of op ≡ Some (ValueIs value)

-- By what a call is for; where it is a lease's for a job nothing is granted in its entry.
abbrev pub MadeFor : Setting → Trace → Input → List Grant → Op → Purpose → Type 0
MadeFor st past i gs op (Lease (ForJob j) step) = FromJob st past i j × (gs ≡ [])
MadeFor st past i gs op (RequestWrite j owner) = AskedBy st past i op j
MadeFor st past i gs op (ValueWrite j) = SetBy st past i op j
MadeFor st past i gs op p = Unit {0}

-- The program that is started is one that its job's command asks for, and all that is granted in its entry is what it is to hold.
pub record StartedFor (st : Setting) (past : Trace) (i : Input) (gs : List Grant) (process j : ℕ) : Type 0 where
  pub from : FromJob st past i j
  pub new : next_child past ≤ process
  pub resource : ResourceArg
  pub shared : Bool
  pub path : List ℕ
  pub command : Says st past i j (RunProgram resource shared path)
  pub session : Session
  pub mode : Mode
  pub lver : ℕ
  pub grants : gs ≡ grant_of session resource process mode lver false ∷ []
  pub wants : is_shared mode ≡ shared

-- To whom something is given: to nobody, to a child that is started with it, or to a process that is told.
abbrev pub GivenTo : Trace → ℕ → Type 0
GivenTo past p = (p ≡ no_process) ⊎ (next_child past ≤ p) ⊎ IsTold past p

pub record MadeSoFar (x : Step) : Type 0 where
  pub calls : (c : Call) → Contains x.effects.calls c → MadeFor x.setting x.past x.input x.effects.grants c.op c.purpose
  pub starts : (k : Start) (j : ℕ) → Contains x.effects.starts k → k.job ≡ Some j → StartedFor x.setting x.past x.input x.effects.grants k.process j
  pub grants : (g : Grant) → Contains x.effects.grants g → GivenTo x.past g.process

-- The same of sessions: each that a job began has looked at its sector, in this entry or before.
abbrev pub LookedSoFar : Step → Type 0
LookedSoFar x = (s : Session) (j : ℕ) → Contains (sessions x.setting (seen x)) s → s.job ≡ Some j →
    (c : Call) × (Contains x.effects.calls c ⊎ ((m : Submitted) × Contains (submitted x.past) m × (m.call ≡ c))) × (c.session ≡ s.number) × IsTrue (is_join_call FirstRead c.purpose)
