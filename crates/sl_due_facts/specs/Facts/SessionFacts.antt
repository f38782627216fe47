-- What is known of sessions: their jobs, their names, their connections, their delta sectors.
use Rattle.sl_due.specs.IdleJobs.{is_waiting_step}
use Rattle.sl_due.specs.CarriedDelta.{begins_by_read}
use Rattle.sl_run.specs.LawfulConnections.{is_covered}
use Rattle.sl_trace.specs.Jobs.{jobs_of_session}
use Rattle.sl_trace.specs.Sessions.{calls_of, free_write, generation_of, holdings_of, is_joined, is_present, is_recovering, joined_after, last_renewal, last_seq, leaving_job, present_sessions, recovery_of, sessions}
use Rattle.sl_trace.specs.declared.session.Session.{Session}
use Rattle.sl_due_facts.specs.Facts.HeardCall.{IsOpen}
use Rattle.sl_time.specs.Times.{fail}
use Rattle.sl_trace.specs.WatchdogConnections.{Connection, connection_named, connections, is_registered, last_registering}
use Rattle.sl_trace.specs.Traces.{Answered, Job, Setting, Submitted, Trace, is_ok_answer, is_running, is_write, unanswered}
use Rattle.sl_words.specs.Bounds.{is_number}
use Rattle.sl_words.specs.Words.{is_empty}
use Rattle.std.specs.Prelude.{Contains, IsSome, IsTrue, List, None, Option, Some, false, is_some, true, [], ℕ, ◌&&◌, ◌+◌, ◌∷◌, ◌≡◌, ◌≤◌, ◌⊎◌}

-- No job goes on under a session in recovery or leaving.
pub record QuietFacts (st : Setting) (t : Trace) (heard : Option ℕ) : Type 0 where
  -- where recovery begins by the read whose answer was heard, its jobs are still to be refused
  pub recovering : (s : Session) → Contains (sessions st t) s → is_recovering st t s ≡ true →
      (is_some heard && begins_by_read t (recovery_of st t s)) ≡ false → jobs_of_session st t s ≡ []
  pub leaving : (s : Session) (k j : Job) → Contains (sessions st t) s → is_joined t s ≡ true → leaving_job st t s ≡ Some k →
      Contains (jobs_of_session st t s) j → j.number ≡ k.number

pub record NameFacts (st : Setting) (t : Trace) (heard : Option ℕ) : Type 0 where
  -- a name finds its session
  pub apart : (a b : Session) → Contains (present_sessions st t) a → Contains (present_sessions st t) b → a.lockspace ≡ b.lockspace → a ≡ b
  pub begun : (s : Session) (j : ℕ) → Contains (sessions st t) s → s.job ≡ Some j → is_empty (calls_of t s) ≡ false
  -- a joining that runs has had no call refused, and where its newest call is answered it waits for a wake
  pub done : (s : Session) (j : ℕ) (m : Submitted) (a : Answered) → Contains (sessions st t) s → s.job ≡ Some j → is_running t j ≡ true →
      Contains (calls_of t s) m → m.answer ≡ Some a → (heard ≡ Some m.call.number → ⊥) → IsTrue (is_ok_answer a.answer)
  pub waits : (s : Session) (j : ℕ) (m : Submitted) (ms : List Submitted) → Contains (sessions st t) s → s.job ≡ Some j → is_running t j ≡ true →
      calls_of t s ≡ m ∷ ms → is_some m.answer ≡ true → (heard ≡ Some m.call.number → ⊥) → IsTrue (is_waiting_step m.call.purpose)

-- A session that isn't joined has written what the heard answer is of: its connection goes by what that makes due.
abbrev pub IsHeardWriter : Trace → Option ℕ → Session → Type 0
IsHeardWriter t heard s =
    (joined_after t s ≡ None) × ((m : Submitted) × Contains (calls_of t s) m × (is_write m.call.op ≡ true) × (heard ≡ Some m.call.number))

-- A name is registered just where a session of it is covered.
pub record ConnectionFacts (st : Setting) (t : Trace) (heard : Option ℕ) : Type 0 where
  pub covers : (s : Session) → Contains (sessions st t) s → is_covered t s ≡ true → is_registered st t s.lockspace ≡ true
  -- but for a claim that was answered, and a refused joining whose write was
  pub needed : (name : List ℕ) → is_registered st t name ≡ true →
      (s : Session) × Contains (sessions st t) s × (s.lockspace ≡ name) × ((is_covered t s ≡ true) ⊎ IsHeardWriter t heard s)
  -- no later than others wait; a renewal's answer counts before the connection moves
  pub joined : (s : Session) (c : Connection) → Contains (sessions st t) s → is_joined t s ≡ true →
      connection_named (connections st t) s.lockspace ≡ Some c → c.expiry ≤ last_renewal st t s + fail st.timing
  pub joining : (s : Session) (c : Connection) → Contains (sessions st t) s → is_present t s ≡ true → joined_after t s ≡ None →
      connection_named (connections st t) s.lockspace ≡ Some c → c.expiry ≡ last_registering t s.lockspace + fail st.timing
  -- from a joining's write until all is done that its answer makes due no other session of its name is present
  pub writers : (s z : Session) (m : Submitted) → Contains (sessions st t) s → joined_after t s ≡ None → Contains (calls_of t s) m →
      is_write m.call.op ≡ true → IsOpen t heard m → Contains (sessions st t) z → is_present t z ≡ true → z.lockspace ≡ s.lockspace → z ≡ s

pub record DeltaFacts (st : Setting) (t : Trace) : Type 0 where
  -- a free is written in a leaving, by a session that holds nothing and has no other call open
  pub frees : (s : Session) (m : Submitted) → Contains (sessions st t) s → free_write (calls_of t s) ≡ Some m →
      IsSome (leaving_job st t s) × (holdings_of t s ≡ []) × ((ms : List Submitted) × (calls_of t s ≡ m ∷ ms) × (unanswered ms ≡ []))
  -- each of them was answered by then
  pub before : (s : Session) (m n : Submitted) → Contains (sessions st t) s → free_write (calls_of t s) ≡ Some m → Contains (calls_of t s) n →
      (n ≡ m) ⊎ ((a : Answered) × (n.answer ≡ Some a) × (a.at ≤ m.at))
  -- what is written next is a record
  pub numbers : (s : Session) → Contains (sessions st t) s → is_joined t s ≡ true →
      (1 ≤ generation_of t s) × IsTrue (is_number (generation_of t s)) × IsTrue (is_number (last_seq t s))
  pub left : (s : Session) (k : Job) → Contains (sessions st t) s → is_joined t s ≡ true → leaving_job st t s ≡ Some k →
      free_write (calls_of t s) ≡ None → IsTrue (is_number (last_seq t s + 1))
