-- What a wake makes due by time: a joining goes on, a lease is settled.
use Rattle.sl_host_law.specs.Answers.CarriedDecisions.{carrying}
use Rattle.sl_host_law.specs.Answers.LeaseDecisions.{MayCarryLease, carrying_lease}
use Rattle.sl_host_law.specs.Answers.RefusalsFollow.{IsAlone}
use Rattle.sl_host_law.specs.Calls.MemberCalls.{is_idle_job}
use Rattle.sl_due.specs.DueWake.{join_on_wake, settle_on_wake}
use Rattle.sl_due.specs.Steps.{Step}
use Rattle.sl_host_state.specs.KeptState.{HostState, MemberState}
use Rattle.sl_host_state.specs.HostStands.{Stands}
use Rattle.sl_host_state.specs.declared.kept_parts.JoinCall.{JoinCall}
use Rattle.sl_trace.specs.declared.lease.LeaseNext.{LeaseNext}
use Rattle.sl_host_law.specs.StepParts.Wakes.{delta_in, is_free_at, next_by_newest}
use Rattle.sl_host_law.specs.Questions.Answers.{settling_in}
use Rattle.sl_host_law.specs.Questions.Jobs.{running_in}
use Rattle.sl_host_law.specs.Questions.Members.{IsMemberAt}
use Rattle.sl_trace.specs.declared.effects.Spot.{Spot}
use Rattle.sl_trace.specs.declared.effects.Work.TheVariants.{Settling}
use Rattle.sl_trace.specs.declared.input.Input.TheVariants.{Wake}
use Rattle.sl_trace.specs.declared.input.Input.{Input}
use Rattle.std.specs.Prelude.{None, Some, cond, false, is_some, true, ℕ, ◌≡◌}

-- A joining goes on where its time has come.
abbrev pub joining_by_time : MemberState → HostState → HostState
joining_by_time m h =
    elim m.who.job [ None ↦ h | Some j ↦ cond (running_in h j) (carrying m.who (next_by_newest (delta_in h m) h.reading m.joining.newest) h) h ]

-- Its job waits for no call, and no call on its sector is open.
pub record IsIdle (h : HostState) (m : MemberState) (j : ℕ) : Type 0 where
  pub job : is_idle_job h j ≡ true
  pub sector : m.known.busy ≡ false

-- So it is once its newest call is answered; and where it is refused, its name is its own.
pub record MayGoOn (h : HostState) (m : MemberState) (j : ℕ) : Type 0 where
  pub idle : (n : JoinCall) → m.joining.newest ≡ Some n → is_some n.answered ≡ true → IsIdle h m j
  pub alone : IsAlone j h

-- A lease is settled by what its settling decided, where no call on its area is open.
abbrev pub settling_at : MemberState → Spot → LeaseNext → HostState → HostState
settling_at m at next h = cond (is_free_at h at) (carrying_lease m at Settling next h) h

-- The state follows the step.
pub record WakingsFollow : Type 0 where
  pub joins : (h : HostState) (x : Step) (k : ℕ) (m : MemberState) → IsMemberAt Wake h x k m → ((j : ℕ) → m.who.job ≡ Some j → running_in h j ≡ true → MayGoOn h m j)
      → Stands Wake (joining_by_time m h) (join_on_wake m.who x)
  pub settles : (i : Input) (h : HostState) (x : Step) (k : ℕ) (m : MemberState) (at : Spot) (next : LeaseNext) → IsMemberAt i h x k m
      → next ≡ settling_in h m x at → (is_free_at h at ≡ true → MayCarryLease i h x m at Settling next) → Stands i (settling_at m at next h) (settle_on_wake m.who at x)
