-- What an acquire's job does, in any trace of a host.
use Rattle.sl_due.specs.Due.{IsHostTrace}
use Rattle.sl_run.specs.Lawful.{IsSetting}
use Rattle.sl_trace.specs.Jobs.{child_of_job, command_numbered}
use Rattle.sl_trace.specs.Leases.{lease_calls, spot_of}
use Rattle.sl_trace.specs.declared.session.Session.{Session}
use Rattle.sl_trace.specs.Traces.{Setting, Submitted, Trace, is_of_job, next_job, reply_to, submitted}
use Rattle.sl_trace.specs.declared.command.Command.TheVariants.{Acquire}
use Rattle.sl_trace.specs.declared.command.ResourceArg.{ResourceArg}
use Rattle.sl_trace.specs.declared.effects.LeaseStep.{LeaseStep}
use Rattle.sl_trace.specs.declared.effects.Purpose.TheVariants.{Lease}
use Rattle.sl_trace.specs.declared.effects.Work.TheVariants.{ForJob}
use Rattle.std.specs.Prelude.{Bool, Contains, IsTrue, None, Some, ℕ, ◌≡◌, ◌≤◌, ◌⊎◌}

-- Its calls are its lease's, nobody is answered before asking.
pub record AcquireFacts (st : Setting) (es : Trace) (s : Session) (r : ResourceArg) (j : ℕ) : Type 0 where
  -- each call of the job works on its lease
  pub fits : (m : Submitted) → Contains (submitted es) m → IsTrue (is_of_job j m) →
      (step : LeaseStep) × (m.call.purpose ≡ Lease (ForJob j) step) × Contains (lease_calls st es s (spot_of r)) m
  -- it starts no child
  pub childless : child_of_job es j ≡ None
  -- a job that hasn't begun has no call and no reply
  pub unbegun : next_job st es ≤ j → (reply_to es j ≡ None) × ((m : Submitted) → Contains (submitted es) m → IsTrue (is_of_job j m) → ⊥)

-- The job is an acquire's, or its line hasn't come yet.
abbrev pub IsAcquire : Setting → Trace → ResourceArg → ℕ → Type 0
IsAcquire st es r j = (next_job st es ≤ j) ⊎ ((shared : Bool) × (p : ℕ) × (persistent : Bool) × (command_numbered st es j ≡ Some (Acquire r shared p persistent)))

-- The session is that of a call of the job, if it has any.
abbrev pub IsCallerOf : Trace → Session → ℕ → Type 0
IsCallerOf es s j =
    ((m : Submitted) → Contains (submitted es) m → IsTrue (is_of_job j m) → ⊥) ⊎ ((m : Submitted) × Contains (submitted es) m × IsTrue (is_of_job j m) × (m.call.session ≡ s.number))

-- An acquire's calls keep to the lease of its session.
abbrev pub AcquiresKeepToTheirs : Type 0
AcquiresKeepToTheirs =
    (st : Setting) (es : Trace) (s : Session) (r : ResourceArg) (j : ℕ) → IsSetting st → IsHostTrace st es → IsAcquire st es r j → IsCallerOf es s j → AcquireFacts st es s r j
