-- An answer is heard before anything is decided on it: by the one thing that waits for it.
use Rattle.sl_area.specs.AreaSizes.{Layout}
use Rattle.sl_area.specs.AreaLayout.{read_at}
use Rattle.sl_due.specs.Steps.{Step, seen, with_input}
use Rattle.sl_host_law.specs.SharedFacts.AtInput.{IsAtInput}
use Rattle.sl_host_state.specs.HeardInputs.{heard_answer}
use Rattle.sl_host_state.specs.KeptState.{HostState}
use Rattle.sl_host_state.specs.NewHost.{sizes_in}
use Rattle.sl_host_state.specs.HostStands.{Stands, is_kept_of, kept_call}
use Rattle.sl_host_state.specs.declared.kept_parts.OpenCall.{OpenCall}
use Rattle.sl_trace.specs.Sessions.{is_present, is_survey_purpose, session_numbered}
use Rattle.sl_trace.specs.declared.session.Session.{Session}
use Rattle.sl_trace.specs.Traces.{Submitted, Trace, call_numbered, is_of_job, submitted}
use Rattle.sl_trace.specs.declared.input.Answer.TheVariants.{Failed, Read, Written}
use Rattle.sl_trace.specs.declared.input.Answer.{Answer}
use Rattle.sl_trace.specs.declared.input.Input.TheVariants.{Answer as Told, Wake}
use Rattle.sl_trace.specs.declared.input.Input.{Input}
use Rattle.sl_watch.specs.ToldLooks.{AreTrue, delta_found}
use Rattle.std.specs.Int.{is_in_range}
use Rattle.std.specs.List.{list_any}
use Rattle.std.specs.Prelude.{Contains, IsTrue, List, None, Some, false, find, is_some, true, ℕ, ◌-◌, ◌==◌, ◌≡◌}

-- The sectors that a read of all ids gave: each is read true, and beyond the ids none spells a record of one.
pub record AreIdSectors (g : Layout) (bytes : List ℕ) : Type 0 where
  pub within : AreTrue (sizes_in g) bytes
  pub beyond : (id : ℕ) → is_in_range 1 g.hosts id ≡ false → delta_found id (read_at g bytes (id - 1)) ≡ None

-- Bytes come only where they were asked, and those of a read of all ids are the sectors of ids.
abbrev pub FitsCall : Layout → Answer → OpenCall → Type 0
FitsCall g (Read bytes) c = IsTrue (is_some c.sectors) × (is_survey_purpose c.purpose ≡ true → AreIdSectors g bytes)
FitsCall g Written c = Unit {0}
FitsCall g Failed c = Unit {0}

-- The call that was answered is not the job's.
abbrev pub IsOfOther : ℕ → ℕ → Trace → Type 0
IsOfOther number job past = (d : Submitted) → Contains (submitted past) d → (d.call.number == number) ≡ true → is_of_job job d ≡ false

-- The open call of this number.
abbrev pub IsOpen : HostState → ℕ → OpenCall → Type 0
IsOpen h number c = find (λ d. d.number == number) h.unanswered ≡ Some c

pub record AnswersAreHeard : Type 0 where
  -- the host that hears it stands for the step with it
  pub heard : (number : ℕ) (c : OpenCall) (a : Answer) (h : HostState) (x : Step) → Stands Wake h x → IsOpen h number c → FitsCall h.config.layout a c → IsAtInput h
      → Stands (Told number a) (heard_answer number a h) (with_input (Told number a) x)
  -- the call that is answered is the open one
  pub found : (number : ℕ) (c : OpenCall) (a : Answer) (h : HostState) (x : Step) → Stands Wake h x → IsOpen h number c → IsAtInput h
      → (m : Submitted) × (call_numbered (seen (with_input (Told number a) x)) number ≡ Some m) × (kept_call m ≡ c)
  -- so a reply to another job leaves its heed
  pub other : (number : ℕ) (c : OpenCall) (job : ℕ) (h : HostState) (x : Step) → Stands Wake h x → IsOpen h number c → IsAtInput h → is_kept_of job c ≡ false → IsOfOther number job x.past
  -- where no member has made it its session is gone
  pub gone : (i : Input) (c : OpenCall) (h : HostState) (x : Step) (s : Session) → Stands i h x → list_any (λ m. c.session == m.who.number) h.members ≡ false
      → session_numbered x.setting (seen x) c.session ≡ Some s → is_present (seen x) s ≡ false
