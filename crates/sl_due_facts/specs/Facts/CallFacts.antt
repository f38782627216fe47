-- What is known of calls.
use Rattle.sl_trace.specs.Sessions.{session_numbered}
use Rattle.sl_trace.specs.Traces.{Answered, Setting, Submitted, Trace, call_numbered, is_answer_for, next_call, submitted}
use Rattle.std.specs.Prelude.{Contains, IsSome, IsTrue, Some, length, ◌<◌, ◌≡◌}

pub record CallFacts (st : Setting) (t : Trace) : Type 0 where
  -- a call of no session would be answered by nobody
  pub owned : (m : Submitted) → Contains (submitted t) m → IsSome (session_numbered st t m.call.session)
  -- so an answer finds its call
  pub found : (m : Submitted) → Contains (submitted t) m → call_numbered t m.call.number ≡ Some m
  pub below : (m : Submitted) → Contains (submitted t) m → m.call.number < next_call st t
  pub made : (m : Submitted) → Contains (submitted t) m → m.at < length t
  pub later : (m : Submitted) (a : Answered) → Contains (submitted t) m → m.answer ≡ Some a → (m.at < a.at) × (a.at < length t)
  -- a read is answered by as many bytes as it asks, a write without any
  pub fits : (m : Submitted) (a : Answered) → Contains (submitted t) m → m.answer ≡ Some a → IsTrue (is_answer_for st a.answer m.call.op)
