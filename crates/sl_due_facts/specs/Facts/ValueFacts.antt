-- What a read of a value tells.
use Rattle.sl_run.specs.LawfulValue.{held_since, writes_since}
use Rattle.sl_trace.specs.Jobs.{command_numbered}
use Rattle.sl_trace.specs.Leases.{holdings_on, spot_of_call}
use Rattle.sl_trace.specs.Sessions.{session_numbered}
use Rattle.sl_trace.specs.declared.session.Session.{Session}
use Rattle.sl_due_facts.specs.Facts.HeardCall.{IsOpen}
use Rattle.sl_trace.specs.Traces.{Child, Setting, Submitted, Trace, child_numbered, children, first_child, is_running, submitted}
use Rattle.sl_trace.specs.declared.command.Command.TheVariants.{GetLvb}
use Rattle.sl_trace.specs.declared.command.ResourceArg.{ResourceArg}
use Rattle.sl_trace.specs.declared.effects.Grant.{Grant}
use Rattle.sl_trace.specs.declared.effects.Purpose.TheVariants.{ValueRead}
use Rattle.std.specs.Prelude.{Contains, Option, Some, false, true, ℕ, ◌≡◌, ◌≤◌}

-- A read of a value, of a session's job that runs, which waits for its answer or for what that makes due.
pub record IsReading (st : Setting) (t : Trace) (heard : Option ℕ) (m : Submitted) (j : ℕ) (s : Session) : Type 0 where
  pub there : Contains (submitted t) m
  pub opens : IsOpen t heard m
  pub purpose : m.call.purpose ≡ ValueRead j
  pub runs : is_running t j ≡ true
  pub session : session_numbered st t m.call.session ≡ Some s

-- Meanwhile the session holds the resource and writes nothing there.
pub record ValueFacts (st : Setting) (t : Trace) (heard : Option ℕ) : Type 0 where
  pub held : (m : Submitted) (j : ℕ) (s : Session) → IsReading st t heard m j s → held_since m.at t s (spot_of_call st.layout m) ≡ true
  pub calm : (m : Submitted) (j : ℕ) (s : Session) → IsReading st t heard m j s → writes_since st m.at t s (spot_of_call st.layout m) ≡ false
  -- the process that asked holds there: if it exits its job is refused
  pub holds : (m : Submitted) (j : ℕ) (s : Session) (r : ResourceArg) (p : ℕ) → IsReading st t heard m j s → command_numbered st t j ≡ Some (GetLvb r p) →
      (g : Grant) × Contains (holdings_on t s (spot_of_call st.layout m)) g × (g.process ≡ p)
  -- and it is no child of which it isn't told yet whether it was started
  pub started : (m : Submitted) (j : ℕ) (s : Session) (r : ResourceArg) (p : ℕ) (k : Child) → IsReading st t heard m j s → command_numbered st t j ≡ Some (GetLvb r p) →
      child_numbered t p ≡ Some k → k.answer ≡ Some true
  -- children have numbers of their own
  pub above : (k : Child) → Contains (children t) k → first_child ≤ k.process
