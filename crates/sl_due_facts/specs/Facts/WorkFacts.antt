-- What may be held on an area while a job works on a lease there. From its line on no other command has come in between, for its call
-- is open.
use Rattle.sl_run.specs.LawfulModes.{shared_since}
use Rattle.sl_trace.specs.Jobs.{aim_of_command, command_numbered, process_named}
use Rattle.sl_trace.specs.Leases.{spot_of_call}
use Rattle.sl_trace.specs.declared.lease.Aim.TheVariants.{Acquires, Converts, Releases, Settles}
use Rattle.sl_trace.specs.declared.lease.Aim.{Aim}
use Rattle.sl_trace.specs.Sessions.{session_numbered}
use Rattle.sl_trace.specs.declared.session.Session.{Session}
use Rattle.sl_due_facts.specs.Facts.HeardCall.{newest_calls}
use Rattle.sl_trace.specs.Traces.{Setting, Submitted, Trace, holdings, is_running, is_shared, next_child, same_place, submitted}
use Rattle.sl_trace.specs.declared.command.Command.{Command}
use Rattle.sl_trace.specs.declared.effects.Grant.{Grant}
use Rattle.sl_trace.specs.declared.effects.LeaseStep.TheVariants.{SetMode}
use Rattle.sl_trace.specs.declared.effects.LeaseStep.{LeaseStep}
use Rattle.sl_trace.specs.declared.effects.Mode.TheVariants.{Shared}
use Rattle.sl_trace.specs.declared.effects.Mode.{Mode}
use Rattle.sl_trace.specs.declared.effects.Purpose.TheVariants.{Lease}
use Rattle.sl_trace.specs.declared.effects.Work.TheVariants.{ForJob}
use Rattle.sl_words.specs.Words.{same_truth}
use Rattle.std.specs.Prelude.{Contains, IsTrue, List, None, Option, Some, [], false, true, ℕ, ◌<◌, ◌∷◌, ◌≡◌, ◌⊎◌}

-- The grants of the newest entry.
abbrev pub newest_grants : Trace → List Grant
newest_grants [] = []
newest_grants (e ∷ es) = e.effects.grants

-- A call without an answer; or that whose answer was heard, until a call or a grant is made after it. (What a program's start waits for
-- is its child.)
abbrev pub IsWaiting : Trace → Option ℕ → Submitted → Type 0
IsWaiting t heard m = (m.answer ≡ None) ⊎ ((heard ≡ Some m.call.number) × (newest_calls t ≡ []) × (newest_grants t ≡ []))

-- The call waits, of a job that runs.
pub record IsAtWork (st : Setting) (t : Trace) (heard : Option ℕ) (m : Submitted) (j : ℕ) (step : LeaseStep) (c : Command) : Type 0 where
  pub there : Contains (submitted t) m
  pub opens : IsWaiting t heard m
  pub purpose : m.call.purpose ≡ Lease (ForJob j) step
  pub runs : is_running t j ≡ true
  pub command : command_numbered st t j ≡ Some c

-- What may be held there beside it, by what it aims at: an acquire of either mode stands alone but for shared holdings of other sessions;
-- a conversion is of the only holding; a release has left none of its session.
abbrev pub MayBeHeld : Submitted → Command → Aim → Grant → Type 0
MayBeHeld m c (Acquires mode) h =
    (is_shared mode ≡ true) × (is_shared h.mode ≡ true) × (h.session ≡ m.call.session → ⊥) × (process_named c ≡ Some h.process → ⊥)
MayBeHeld m c (Converts mode) h = (process_named c ≡ Some h.process) × (same_truth (is_shared h.mode) (is_shared mode) ≡ false)
MayBeHeld m c Releases h = h.session ≡ m.call.session → ⊥
MayBeHeld m c Settles h = Unit {0}

pub record WorkFacts (st : Setting) (t : Trace) (heard : Option ℕ) : Type 0 where
  pub beside : (m : Submitted) (j : ℕ) (step : LeaseStep) (c : Command) (aim : Aim) (h : Grant) → IsAtWork st t heard m j step c → aim_of_command c ≡ Some aim →
      Contains (holdings t) h → IsTrue (same_place h.path h.offset (spot_of_call st.layout m).path (spot_of_call st.layout m).base) → MayBeHeld m c aim h
  -- a conversion to shared makes one call
  pub modes : (m : Submitted) (j : ℕ) (step : LeaseStep) (c : Command) → IsAtWork st t heard m j step c → aim_of_command c ≡ Some (Converts Shared) → step ≡ SetMode
  -- its process is none that is still to be started
  pub acts : (m : Submitted) (j : ℕ) (step : LeaseStep) (c : Command) (p : ℕ) → IsAtWork st t heard m j step c → process_named c ≡ Some p → p < next_child t
  -- since an acquire's first call its session has held nothing shared there
  pub unshared : (m d : Submitted) (j : ℕ) (step before : LeaseStep) (c : Command) (mode : Mode) (s : Session) → IsAtWork st t heard m j step c →
      aim_of_command c ≡ Some (Acquires mode) → session_numbered st t m.call.session ≡ Some s → Contains (submitted t) d → d.call.purpose ≡ Lease (ForJob j) before →
      shared_since d.at t s (spot_of_call st.layout m) ≡ false
