-- What the answer of a call that works on a lease for a job makes due: exactly what the lease decides. What a step does before its input
-- makes no call, no grant and no end; what it does after its input makes no call of a lease, no reply and no grant.
use Rattle.sl_due.specs.Due.{before_input, due}
use Rattle.sl_due.specs.CarriedLease.{carry_lease, next_of_lease, read_area}
use Rattle.sl_due.specs.Steps.{Step, begin_step, seen, with_input}
use Rattle.sl_trace.specs.Jobs.{aim_of}
use Rattle.sl_trace.specs.Counts.{held_here, limit_met, may_act}
use Rattle.sl_trace.specs.Leases.{lease_step, open_on, spot_of, spot_of_call}
use Rattle.sl_trace.specs.declared.lease.Aim.{Aim}
use Rattle.sl_trace.specs.declared.session.Session.{Session}
use Rattle.sl_trace.specs.Sessions.{is_active, is_joined, is_present, session_named, session_numbered}
use Rattle.sl_trace.specs.Traces.{Setting, Submitted, Trace, call_numbered, is_before_input, is_running, mark, next_job, submitted}
use Rattle.sl_trace.specs.declared.effects.Call.{Call}
use Rattle.sl_trace.specs.declared.effects.Effects.{Effects}
use Rattle.sl_trace.specs.declared.command.Command.TheVariants.{Acquire}
use Rattle.sl_trace.specs.declared.command.ResourceArg.{ResourceArg}
use Rattle.sl_trace.specs.declared.effects.LeaseStep.TheVariants.{ReadArea}
use Rattle.sl_trace.specs.declared.effects.LeaseStep.{LeaseStep}
use Rattle.sl_trace.specs.declared.effects.Purpose.TheVariants.{Lease}
use Rattle.sl_trace.specs.declared.effects.Work.TheVariants.{ForJob}
use Rattle.sl_trace.specs.declared.input.Answer.{Answer}
use Rattle.sl_trace.specs.declared.input.Input.TheVariants.{Answer as Told, Line}
use Rattle.std.specs.List.{AllByRecursion}
use Rattle.std.specs.Prelude.{Bool, List, None, Ok, Some, [], false, filter, is_some, true, ℕ, ◌≡◌}

-- The step when its answer is seen: what comes before the input is over.
abbrev pub heard : Setting → Trace → ℕ → ℕ → Answer → Step
heard st past now n a = with_input (Told n a) (before_input (begin_step st past now))

-- The calls among these that work on leases.
abbrev pub lease_part : List Call → List Call
lease_part cs = filter (λ c. is_some (lease_step c.purpose)) cs

-- So far only signals, kill programs in their place, replies and moves of connections.
pub record IsBare (st : Setting) (past : Trace) (now : ℕ) (x : Step) : Type 0 where
  pub setting : x.setting ≡ st
  pub before : x.past ≡ past
  pub reading : x.reading ≡ now
  pub calls : x.effects.calls ≡ []
  pub grants : x.effects.grants ≡ []
  pub ends : x.effects.ends ≡ []

-- The step answers this call, which works on a lease of a session that is there, for a job.
pub record Answers (y : Step) (was : Session → Type 0) (n : ℕ) (s : Session) (m : Submitted) (j : ℕ) (step : LeaseStep) : Type 0 where
  pub call : call_numbered (seen y) n ≡ Some m
  pub session : session_numbered y.setting (seen y) m.call.session ≡ Some s
  pub present : was s
  pub purpose : m.call.purpose ≡ Lease (ForJob j) step

-- The job runs, and works to this end.
pub record RunsTo (y : Step) (j : ℕ) (aim : Aim) : Type 0 where
  pub runs : is_running (seen y) j ≡ true
  pub aim_is : aim_of y.setting (seen y) (ForJob j) ≡ Some aim

-- Whether the session was there before the answer.
abbrev pub WasThere : Setting → Trace → ℕ → Session → Type 0
WasThere st past now s = is_present (seen (before_input (begin_step st past now))) s ≡ true

-- The step once the lease has done what it decides.
abbrev pub led_on : Step → Session → Submitted → ℕ → LeaseStep → Aim → Answer → Step
led_on y s m j step aim a =
    carry_lease s (spot_of_call y.setting.layout m) (ForJob j) (next_of_lease y.setting (seen y) s (spot_of_call y.setting.layout m) aim m step a) y

-- What is due has of leases, replies and grants just what the step has then.
pub record DoesAs (fx : Effects) (x : Step) : Type 0 where
  pub calls : lease_part fx.calls ≡ lease_part x.effects.calls
  pub replies : fx.replies ≡ x.effects.replies
  pub grants : fx.grants ≡ x.effects.grants

pub record AnswersLeadOn : Type 0 where
  -- before the input no call, grant or end is made
  pub bare : (st : Setting) (past : Trace) (now n : ℕ) (a : Answer) → IsBare st past now (heard st past now n a)
  -- so the calls are those of before, with the answer
  pub marked : (st : Setting) (past : Trace) (now n : ℕ) (a : Answer) → submitted (seen (heard st past now n a))
      ≡ mark past (record { reading = now; input = Told n a; effects = (heard st past now n a).effects }) (Told n a) (submitted past)
  -- what it replies before the input are time-outs and recoveries
  pub early : (st : Setting) (past : Trace) (now n : ℕ) (a : Answer) → AllByRecursion (λ b. is_before_input b.reply ≡ true) (heard st past now n a).effects.replies
  -- where it has refused the job so, nothing more is due for it
  pub stops : (st : Setting) (past : Trace) (now n : ℕ) (a : Answer) (s : Session) (m : Submitted) (j : ℕ) (step : LeaseStep) →
      Answers (heard st past now n a) (WasThere st past now) n s m j step → is_running (seen (heard st past now n a)) j ≡ false →
      DoesAs (due st past now (Told n a)) (heard st past now n a)
  -- what the lease decides is due
  pub leads : (st : Setting) (past : Trace) (now n : ℕ) (a : Answer) (s : Session) (m : Submitted) (j : ℕ) (step : LeaseStep) (aim : Aim) →
      Answers (heard st past now n a) (WasThere st past now) n s m j step → RunsTo (heard st past now n a) j aim →
      DoesAs (due st past now (Told n a)) (led_on (heard st past now n a) s m j step aim a)

-- ---- the line

-- The step when its line is looked at.
abbrev pub begun : Setting → Trace → ℕ → Step
begun st past now = before_input (begin_step st past now)

-- What the line of a quiet acquire finds there.
pub record AsksQuietly (y : Step) (text : List ℕ) (r : ResourceArg) (shared : Bool) (p : ℕ) (persistent : Bool) (s : Session) : Type 0 where
  pub says : y.setting.read text ≡ Ok (Acquire r shared p persistent)
  pub named : session_named y.setting (seen y) r.lockspace ≡ Some s
  pub joined : is_joined (seen y) s ≡ true
  pub active : is_active y.setting (seen y) s ≡ true
  pub process : may_act (seen y) p ≡ true
  pub free : held_here (seen y) (spot_of r) ≡ []
  pub calm : open_on y.setting (seen y) (spot_of r) ≡ []
  pub room : limit_met y.setting (seen y) s (spot_of r) false ≡ None

-- It makes the read of the area due.
abbrev pub LinesBegin : Type 0
LinesBegin = (st : Setting) (past : Trace) (now : ℕ) (text : List ℕ) (r : ResourceArg) (shared : Bool) (p : ℕ) (persistent : Bool) (s : Session) → AsksQuietly (begun st past now) text r shared p persistent s →
    DoesAs (due st past now (Line text))
    (read_area s (spot_of r) (ForJob (next_job (begun st past now).setting (seen (begun st past now)))) (ReadArea r.name) (with_input (Line text) (begun st past now)))
