-- What is known of kills at the end of an entry.
use Rattle.sl_run.specs.LawfulRecovery.{was_killed}
use Rattle.sl_trace.specs.Sessions.{holders_of, leaving_of, recovery_of, sessions}
use Rattle.sl_trace.specs.declared.session.Begun.{Begun}
use Rattle.sl_trace.specs.declared.session.Session.{Session}
use Rattle.sl_trace.specs.Traces.{Setting, Trace, last_reading}
use Rattle.std.specs.Prelude.{Contains, IsTrue, Some, length, ℕ, ◌+◌, ◌<◌, ◌≡◌, ◌≤◌}

-- Once an entry from which on kills count has a reading of grace after the start, each that still holds has been signalled kill.
abbrev pub KilledAfter : Setting → Trace → Session → Begun → Type 0
KilledAfter st t s b = b.kills_from < length t → b.reading + st.grace ≤ last_reading st t → (p : ℕ) → Contains (holders_of t s) p → IsTrue (was_killed b.kills_from p t)

pub record KillFacts (st : Setting) (t : Trace) : Type 0 where
  pub recovery : (s : Session) (b : Begun) → Contains (sessions st t) s → recovery_of st t s ≡ Some b → KilledAfter st t s b
  pub leaving : (s : Session) (b : Begun) → Contains (sessions st t) s → leaving_of st t s ≡ Some b → KilledAfter st t s b
