-- What grants ask of a lease's calls: when the answer to the last call of an acquire or a conversion has been heard, and what it makes due
-- is still to come, this stands behind it.
use Rattle.sl_run.specs.LawfulModes.{AllShared, IsDone}
use Rattle.sl_trace.specs.Jobs.{aim_of_command}
use Rattle.sl_trace.specs.Leases.{block_written, ended_ballot, is_again, is_free_write, lease_calls, lver_written, spot_of_call}
use Rattle.sl_trace.specs.declared.lease.Aim.TheVariants.{Acquires, Converts}
use Rattle.sl_sector.specs.declared.sector.Block.{Block}
use Rattle.sl_trace.specs.Sessions.{generation_of, me, session_numbered}
use Rattle.sl_trace.specs.declared.session.Session.{Session}
use Rattle.sl_due_facts.specs.Facts.HeardCall.{newest_calls}
use Rattle.sl_due_facts.specs.Facts.HoldingFacts.{StandsExclusive}
use Rattle.sl_due_facts.specs.Facts.WorkFacts.{IsAtWork}
use Rattle.sl_trace.specs.Traces.{Answered, Setting, Submitted, Trace}
use Rattle.sl_trace.specs.declared.command.Command.{Command}
use Rattle.sl_trace.specs.declared.effects.LeaseStep.TheVariants.{FreeLeader, SetMode, TakeLeader}
use Rattle.sl_trace.specs.declared.effects.LeaseStep.{LeaseStep}
use Rattle.sl_trace.specs.declared.effects.Mode.TheVariants.{Exclusive, Shared}
use Rattle.sl_trace.specs.declared.effects.Mode.{Mode}
use Rattle.sl_trace.specs.declared.effects.Purpose.TheVariants.{Lease}
use Rattle.sl_trace.specs.declared.effects.Spot.{Spot}
use Rattle.sl_trace.specs.declared.effects.Work.TheVariants.{ForJob}
use Rattle.sl_words.specs.Words.{first_of_list}
use Rattle.std.specs.Prelude.{Contains, IsTrue, List, Option, Some, [], true, ℕ, ◌++◌, ◌∷◌, ◌≡◌, ◌≤◌}

-- The write of a lease's job whose answer was heard, done; no call was made since.
pub record IsDoneWork (st : Setting) (t : Trace) (heard : Option ℕ) (s : Session) (m : Submitted) (j : ℕ) (step : LeaseStep) (c : Command) : Type 0 where
  pub work : IsAtWork st t heard m j step c
  pub session : session_numbered st t m.call.session ≡ Some s
  pub bare : newest_calls t ≡ []
  pub heard_it : heard ≡ Some m.call.number
  pub answer : Answered
  pub done : IsDone m answer

-- A shared grant by a ballot of the job: its mode, then its free. (That the session held nothing shared since is a fact of holdings.)
pub record FreedForJob (st : Setting) (t : Trace) (s : Session) (at : Spot) (n j : ℕ) : Type 0 where
  pub read : Submitted
  pub mode : Submitted
  pub free : Submitted
  pub block : Block
  pub read_answer : Answered
  pub mode_answer : Answered
  pub free_answer : Answered
  pub of_lease : Contains (lease_calls st t s at) mode × Contains (lease_calls st t s at) free
  -- the call with which the read began: itself, or the first one where it was made once more
  pub begun : Submitted
  pub step : LeaseStep
  pub of_job : Contains (lease_calls st t s at) begun × (begun.call.purpose ≡ Lease (ForJob j) step)
  pub since : begun.at ≤ read.at
  pub after : List Submitted
  pub before : List Submitted
  pub split : lease_calls st t s at ≡ after ++ read ∷ before
  pub first_since : IsTrue (is_again read) → (f : Submitted) → first_of_list before ≡ Some f → begun.at ≤ f.at
  pub won : ended_ballot st.layout read before ≡ Some (n, me t s)
  pub moded : (read.answer ≡ Some read_answer) × (read_answer.at ≤ mode.at) × (block_written mode ≡ Some block)
      × (block.shared ≡ true) × (block.mode_gen ≡ generation_of t s) × (block.lver ≡ n) × IsDone mode mode_answer
  pub freed : (mode_answer.at ≤ free.at) × IsTrue (is_free_write n free) × IsDone free free_answer
  pub first : (d : Submitted) → Contains (lease_calls st t s at) d → IsTrue (is_free_write n d) → free.call.number ≤ d.call.number
  pub kept : AllShared st t s at mode

-- The block that sets the mode for a conversion.
pub record ModedForJob (st : Setting) (t : Trace) (s : Session) (at : Spot) (m : Submitted) : Type 0 where
  pub block : Block
  pub written : (block_written m ≡ Some block) × (block.shared ≡ true) × (block.mode_gen ≡ generation_of t s)
  pub kept : AllShared st t s at m

pub record GrantGrounds (st : Setting) (t : Trace) (heard : Option ℕ) : Type 0 where
  pub acquired : (s : Session) (m : Submitted) (j : ℕ) (c : Command) → IsDoneWork st t heard s m j TakeLeader c → aim_of_command c ≡ Some (Acquires Exclusive) →
      StandsExclusive st t heard s (spot_of_call st.layout m) (lver_written m)
  pub converted : (s : Session) (m : Submitted) (j : ℕ) (c : Command) → IsDoneWork st t heard s m j TakeLeader c → aim_of_command c ≡ Some (Converts Exclusive) →
      StandsExclusive st t heard s (spot_of_call st.layout m) (lver_written m)
  pub shared : (s : Session) (m : Submitted) (j : ℕ) (c : Command) (mode : Mode) → IsDoneWork st t heard s m j FreeLeader c → aim_of_command c ≡ Some (Acquires mode) →
      FreedForJob st t s (spot_of_call st.layout m) (lver_written m) j
  pub moded : (s : Session) (m : Submitted) (j : ℕ) (c : Command) → IsDoneWork st t heard s m j SetMode c → aim_of_command c ≡ Some (Converts Shared) →
      ModedForJob st t s (spot_of_call st.layout m) m
