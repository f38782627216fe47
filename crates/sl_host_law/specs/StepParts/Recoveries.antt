-- Recoveries and kills before the input as functions of what is kept; and that a session which is gone does nothing in any pass.
use Rattle.sl_due.specs.DueRecovery.{begin_recovery, kill_holders, kills}
use Rattle.sl_due.specs.DueWake.{finish_session, join_on_wake, renew_on_wake, settlings}
use Rattle.sl_due.specs.Steps.{Step, seen}
use Rattle.sl_host_state.specs.StepQuestions.{begins_in, is_kill_due_in}
use Rattle.sl_host_state.specs.KeptState.{HostState, MemberState}
use Rattle.sl_host_state.specs.HostStands.{Stands, Takes}
use Rattle.sl_host_law.specs.StepParts.Refusals.{signalling_and_refusing}
use Rattle.sl_host_law.specs.StepParts.Signals.{over, signalling}
use Rattle.sl_host_law.specs.Questions.Members.{IsMemberAt}
use Rattle.sl_trace.specs.Sessions.{session_numbered}
use Rattle.sl_trace.specs.declared.session.Session.{Session}
use Rattle.sl_trace.specs.declared.effects.Signal.TheVariants.{Kill}
use Rattle.sl_trace.specs.declared.input.Input.TheVariants.{Wake}
use Rattle.sl_trace.specs.declared.input.Input.{Input}
use Rattle.std.specs.List.{list_any}
use Rattle.std.specs.Prelude.{IsFalse, None, Some, cond, [], ℕ, ◌&&◌, ◌==◌, ◌||◌, ◌≡◌}

-- A recovery that begins in this step.
abbrev pub recovering_in : MemberState → HostState → HostState
recovering_in m h = cond (begins_in h m.renewing.recovery) (signalling_and_refusing m None h) h

-- Kills that are due in this step.
abbrev pub killing : MemberState → HostState → HostState
killing m h = cond (m.joined && (is_kill_due_in h m.renewing.recovery || is_kill_due_in h m.leaving)) (signalling Kill m h) h

-- The state follows the step: before the input, or at any time.
pub record RecoveriesAreTaken : Type 0 where
  pub begins : (h : HostState) (x : Step) (k : ℕ) (m : MemberState) → IsMemberAt Wake h x k m → Stands Wake (recovering_in m h) (begin_recovery m.who x)
  pub killed : (i : Input) (h : HostState) (x : Step) (k : ℕ) (m : MemberState) → IsMemberAt i h x k m → Stands i (killing m h) (kill_holders m.who x)
  -- all of them
  pub all_killed : (h : HostState) → Takes h (over h.members killing h) kills

-- A session of the trace that is no member.
pub record IsGone (i : Input) (h : HostState) (x : Step) (s : Session) : Type 0 where
  pub stands : Stands i h x
  pub its : session_numbered x.setting (seen x) s.number ≡ Some s
  pub absent : IsFalse (list_any (λ m. m.who.number == s.number) h.members)

-- Nothing is done for it.
pub record GoneDoNothing : Type 0 where
  pub kills : (i : Input) (h : HostState) (x : Step) (s : Session) → IsGone i h x s → kill_holders s x ≡ x
  pub joins : (i : Input) (h : HostState) (x : Step) (s : Session) → IsGone i h x s → join_on_wake s x ≡ x
  pub renews : (i : Input) (h : HostState) (x : Step) (s : Session) → IsGone i h x s → renew_on_wake s x ≡ x
  pub settles : (i : Input) (h : HostState) (x : Step) (s : Session) → IsGone i h x s → settlings s x ≡ x
  pub ends : (i : Input) (h : HostState) (x : Step) (s : Session) → IsGone i h x s → finish_session s x ≡ x
  -- while no connection has been removed in this step
  pub begins : (i : Input) (h : HostState) (x : Step) (s : Session) → IsGone i h x s → h.made.moves ≡ [] → begin_recovery s x ≡ x
