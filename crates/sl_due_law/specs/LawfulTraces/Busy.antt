-- What a running job waits for.
use Rattle.sl_trace.specs.Sessions.{leaving_job, sessions}
use Rattle.sl_trace.specs.declared.session.Session.{Session}
use Rattle.sl_trace.specs.Traces.{Child, Job, Setting, Submitted, Trace, child_numbered, is_running, job_of, jobs, submitted}
use Rattle.sl_trace.specs.declared.input.Input.TheVariants.{Spawned}
use Rattle.sl_trace.specs.declared.input.Input.{Input}
use Rattle.std.specs.Prelude.{Contains, None, Option, Some, true, ℕ, ◌≡◌, ◌⊎◌}

-- The child whose start an input answers.
abbrev pub told_by : Input → Option ℕ
told_by (Spawned p ok) = Some p
told_by i = None

-- A session of the job joins; a call of it has no answer, or its answer was just heard; a child of it is to be started, or it was just told how
-- that went; it is a leaving.
pub data Waits (st : Setting) (t : Trace) (heard told : Option ℕ) (j : ℕ) : Type 0 where
  For_session : (s : Session) → Contains (sessions st t) s → s.job ≡ Some j → Waits st t heard told j
  For_call : (m : Submitted) → Contains (submitted t) m → (m.answer ≡ None) ⊎ (heard ≡ Some m.call.number) → job_of m.call.purpose ≡ Some j → Waits st t heard told j
  For_child : (k : Child) → child_numbered t k.process ≡ Some k → k.job ≡ Some j → (k.answer ≡ None) ⊎ (told ≡ Some k.process) → Waits st t heard told j
  For_leaving : (s : Session) (k : Job) → Contains (sessions st t) s → leaving_job st t s ≡ Some k → k.number ≡ j → Waits st t heard told j

-- Each running job waits.
abbrev pub AllWait : Setting → Trace → Option ℕ → Option ℕ → Type 0
AllWait st t heard told = (j : Job) → Contains (jobs st t) j → is_running t j.number ≡ true → Waits st t heard told j.number
