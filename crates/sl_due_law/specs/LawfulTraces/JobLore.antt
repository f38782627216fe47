-- What is carried from entry to entry of jobs: their calls suit what they are for and are of one session, what a conversion converts is still
-- held, and their callers are present.
use Rattle.sl_due.specs.Steps.{Step, seen}
use Rattle.sl_trace.specs.Jobs.{aim_of_command, command_numbered}
use Rattle.sl_trace.specs.Leases.{spot_of_call}
use Rattle.sl_trace.specs.declared.lease.Aim.TheVariants.{Acquires, Converts, Releases, Settles}
use Rattle.sl_trace.specs.declared.lease.Aim.{Aim}
use Rattle.sl_trace.specs.Sessions.{is_present, session_numbered}
use Rattle.sl_trace.specs.declared.session.Session.{Session}
use Rattle.sl_trace.specs.Traces.{Child, Setting, Submitted, Trace, child_numbered, first_child, holdings, is_running, is_write, job_of, same_place, submitted}
use Rattle.sl_trace.specs.declared.command.Command.{Command}
use Rattle.sl_trace.specs.declared.command.Command.TheVariants.{Convert}
use Rattle.sl_trace.specs.declared.command.ResourceArg.{ResourceArg}
use Rattle.sl_trace.specs.declared.effects.Call.{Call}
use Rattle.sl_trace.specs.declared.effects.Grant.{Grant}
use Rattle.sl_trace.specs.declared.effects.LeaseRead.TheVariants.{OfBlock, OfFree}
use Rattle.sl_trace.specs.declared.effects.LeaseStep.TheVariants.{ClearMode, FreeLeader, ReadAgain, ReadBeforeBlock, ReadBeforeFree}
use Rattle.sl_trace.specs.declared.effects.LeaseStep.{LeaseStep}
use Rattle.sl_trace.specs.declared.effects.Op.{Op}
use Rattle.sl_trace.specs.declared.effects.Purpose.TheVariants.{Lease, RequestRead, RequestWrite, ValueRead, ValueWrite}
use Rattle.sl_trace.specs.declared.effects.Purpose.{Purpose}
use Rattle.sl_trace.specs.declared.effects.Work.TheVariants.{ForJob}
use Rattle.std.specs.Prelude.{Bool, Contains, IsTrue, None, Some, false, true, ℕ, ◌<◌, ◌≡◌, ◌⊎◌}

-- ---- what a call is for

-- A call for a request or a value reads or writes as its purpose says.
abbrev pub OpFits : Purpose → Op → Type 0
OpFits (RequestRead j) op = is_write op ≡ false
OpFits (RequestWrite j owner) op = is_write op ≡ true
OpFits (ValueWrite j) op = is_write op ≡ true
OpFits (ValueRead j) op = is_write op ≡ false
OpFits p op = Unit {0}

-- An acquire neither clears a mode nor looks before a free, or before a block of a settling.
abbrev pub acquires_by : LeaseStep → Bool
acquires_by ReadBeforeFree = false
acquires_by ReadBeforeBlock = false
acquires_by (ReadAgain OfFree) = false
acquires_by (ReadAgain OfBlock) = false
acquires_by ClearMode = false
acquires_by step = true

-- A conversion frees nothing besides.
abbrev pub converts_by : LeaseStep → Bool
converts_by FreeLeader = false
converts_by step = acquires_by step

-- A release makes one write.
abbrev pub releases_by : LeaseStep → Bool
releases_by FreeLeader = true
releases_by ClearMode = true
releases_by step = false

-- Whether a lease's step serves this aim.
abbrev pub suits : Aim → LeaseStep → Bool
suits (Acquires mode) step = acquires_by step
suits (Converts mode) step = converts_by step
suits Releases step = releases_by step
suits Settles step = true

-- What a call is for, as its job's command asks.
pub record CallSuits (st : Setting) (t : Trace) (p : Purpose) (op : Op) : Type 0 where
  pub op_fits : OpFits p op
  pub step : (j : ℕ) (step : LeaseStep) (c : Command) (aim : Aim) → p ≡ Lease (ForJob j) step → command_numbered st t j ≡ Some c → aim_of_command c ≡ Some aim → suits aim step ≡ true

-- Each call so far.
abbrev pub AllSuit : Setting → Trace → Type 0
AllSuit st t = (m : Submitted) → Contains (submitted t) m → CallSuits st t m.call.purpose m.call.op

-- Each call of a step.
abbrev pub NewSuit : Step → Type 0
NewSuit x = (c : Call) → Contains x.effects.calls c → CallSuits x.setting (seen x) c.purpose c.op

-- The lease calls that the trace has of a job are of this session.
abbrev pub SameSession : Trace → ℕ → Purpose → Type 0
SameSession past n p =
    (j : ℕ) (step before : LeaseStep) (d : Submitted) → p ≡ Lease (ForJob j) step → Contains (submitted past) d → d.call.purpose ≡ Lease (ForJob j) before → d.call.session ≡ n

-- Each lease call of a step is of the session of those before.
pub record NewSessions (x : Step) : Type 0 where
  pub each : (c : Call) → Contains x.effects.calls c → SameSession x.past c.session c.purpose

-- The lease calls of a job are of one session.
abbrev pub OneSession : Trace → Type 0
OneSession t =
    (m d : Submitted) (j : ℕ) (step before : LeaseStep) → Contains (submitted t) m → Contains (submitted t) d → m.call.purpose ≡ Lease (ForJob j) step → d.call.purpose ≡ Lease (ForJob j) before → m.call.session ≡ d.call.session

-- ---- conversions

-- A process holds where a call of its session works; if it is a child, it was started.
pub record HoldsThere (st : Setting) (t : Trace) (m : Submitted) (p : ℕ) : Type 0 where
  pub holding : Grant
  pub held : Contains (holdings t) holding
  pub mine : holding.session ≡ m.call.session
  pub there : IsTrue (same_place holding.path holding.offset (spot_of_call st.layout m).path (spot_of_call st.layout m).base)
  pub its : holding.process ≡ p
  pub started : (p < first_child) ⊎ ((k : Child) × (child_numbered t p ≡ Some k) × (k.answer ≡ Some true))

-- As long as a conversion's call has no answer its process holds there.
abbrev pub Converting : Setting → Trace → Type 0
Converting st t =
    (m : Submitted) (j : ℕ) (step : LeaseStep) (r : ResourceArg) (shared : Bool) (p : ℕ) → Contains (submitted t) m → m.answer ≡ None → m.call.purpose ≡ Lease (ForJob j) step → is_running t j ≡ true →
    command_numbered st t j ≡ Some (Convert r shared p) → HoldsThere st t m p

-- ---- callers

-- The session of a running job's call without an answer is present.
abbrev pub CallersPresent : Setting → Trace → Type 0
CallersPresent st t =
    (m : Submitted) (j : ℕ) (s : Session) → Contains (submitted t) m → m.answer ≡ None → job_of m.call.purpose ≡ Some j → is_running t j ≡ true → session_numbered st t m.call.session ≡ Some s →
    is_present t s ≡ true

-- ---- all of it

pub record JobLore (st : Setting) (t : Trace) : Type 0 where
  pub suit : AllSuit st t
  pub one : OneSession t
  pub converting : Converting st t
  pub callers : CallersPresent st t
