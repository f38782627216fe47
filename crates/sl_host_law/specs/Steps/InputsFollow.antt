-- The input of a step: what it makes due, by what it is.
use Rattle.sl_host_law.specs.Answers.LeaseAnswers.{area_of}
use Rattle.sl_host_law.specs.Answers.LeasesGoOn.{IfConverted}
use Rattle.sl_due.specs.DueInputs.{take_input}
use Rattle.sl_due.specs.Steps.{Step, with_input}
use Rattle.sl_host_state.specs.HeardInputs.{heard_answer, member_hearing}
use Rattle.sl_host_state.specs.KeptState.{HostState, MemberState}
use Rattle.sl_host_state.specs.HostStands.{Stands}
use Rattle.sl_host_state.specs.declared.kept_parts.OpenCall.{OpenCall}
use Rattle.sl_host_law.specs.Questions.Jobs.{aim_in, goes_on_in}
use Rattle.sl_host_law.specs.Steps.Inputs.{taking}
use Rattle.sl_host_law.specs.Steps.Leases.{answered_next}
use Rattle.sl_host_law.specs.Steps.SoundHosts.{IsEarly, IsSound}
use Rattle.sl_trace.specs.declared.lease.Aim.{Aim}
use Rattle.sl_host_law.specs.Replies.Answers.{FitsCall, IsOpen}
use Rattle.sl_trace.specs.Traces.{is_expected}
use Rattle.sl_trace.specs.declared.effects.LeaseStep.{LeaseStep}
use Rattle.sl_trace.specs.declared.effects.Purpose.TheVariants.{Joining, Lease, Leaving}
use Rattle.sl_trace.specs.declared.effects.Purpose.{Purpose}
use Rattle.sl_trace.specs.declared.effects.Work.{Work}
use Rattle.sl_trace.specs.declared.input.Answer.{Answer}
use Rattle.sl_trace.specs.declared.input.Input.TheVariants.{Answer as Told, Exit, Number, Spawned, Wake}
use Rattle.sl_words.specs.Words.{is_empty}
use Rattle.std.specs.Prelude.{Bool, Contains, List, Some, false, is_some, true, ℕ, ◌==◌, ◌≡◌}

-- A call for this purpose is its member's: of a joining that joins it, of a leaving in which it is, else of one that has joined.
abbrev pub IsCallOf : MemberState → Purpose → Type 0
IsCallOf m (Joining j step) = m.who.job ≡ Some j
IsCallOf m (Leaving j) = (m.joined ≡ true) × (is_some m.leaving ≡ true)
IsCallOf m p = m.joined ≡ true

-- Each open call is its member's, and who hasn't joined has no leases.
pub record CallsAreTheirs (h : HostState) : Type 0 where
  pub own : (m : MemberState) (c : OpenCall) → Contains h.members m → Contains h.unanswered c → (c.session == m.who.number) ≡ true → IsCallOf m c.purpose
  pub bare : (m : MemberState) → Contains h.members m → m.joined ≡ false → is_empty m.leases ≡ true

-- An answer that has come, to an open call.
pub record AnswerComes (number : ℕ) (c : OpenCall) (a : Answer) (h : HostState) (x : Step) : Type 0 where
  pub stands : Stands Wake h x
  pub early : IsEarly h
  pub sound : IsSound h
  pub theirs : CallsAreTheirs h
  pub is_open : IsOpen h number c
  pub fits : FitsCall h.config.layout a c

-- What is asked of an answer on a lease whose work goes on: a conversion that is done may be.
pub record LeaseMay (number : ℕ) (c : OpenCall) (a : Answer) (h : HostState) (x : Step) (m : MemberState) (work : Work) (step : LeaseStep) (aim : Aim) : Type 0 where
  pub converts : goes_on_in (heard_answer number a h) (member_hearing h c a m) work ≡ true → aim_in (heard_answer number a h) work ≡ Some aim
      → IfConverted (Told number a) (heard_answer number a h) (with_input (Told number a) x) (member_hearing h c a m) c work
      (answered_next (heard_answer number a h) (member_hearing h c a m) (area_of (heard_answer number a h) c) c aim step a)

-- The state follows the step.
pub record InputsFollow : Type 0 where
  pub number : (h : HostState) (x : Step) (text : List ℕ) → Stands Wake h x → Stands (Number text) (taking (Number text) h) (take_input (Number text) x)
  pub exit : (h : HostState) (x : Step) (p : ℕ) → IsEarly h → Stands Wake h x → Stands (Exit p) (taking (Exit p) h) (take_input (Exit p) x)
  pub start : (h : HostState) (x : Step) (p : ℕ) (ok : Bool) → is_expected x.setting x.past (Spawned p ok) ≡ true → IsEarly h → Stands Wake h x
      → Stands (Spawned p ok) (taking (Spawned p ok) h) (take_input (Spawned p ok) x)
  pub answer : (number : ℕ) (c : OpenCall) (a : Answer) (h : HostState) (x : Step) → AnswerComes number c a h x
      → ((m : MemberState) (work : Work) (step : LeaseStep) (aim : Aim) → Contains h.members m → (c.session == m.who.number) ≡ true → c.purpose ≡ Lease work step → LeaseMay number c a h x m work step aim)
      → Stands (Told number a) (taking (Told number a) h) (take_input (Told number a) x)

-- They leave the host sound.
pub record InputsAreSound : Type 0 where
  pub number : (h : HostState) (text : List ℕ) → IsSound h → IsSound (taking (Number text) h)
  pub exit : (h : HostState) (p : ℕ) → IsSound h → IsSound (taking (Exit p) h)
  pub start : (h : HostState) (p : ℕ) (ok : Bool) → IsSound h → IsSound (taking (Spawned p ok) h)
